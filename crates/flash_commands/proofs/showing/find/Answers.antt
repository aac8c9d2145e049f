use Rattle.std.proofs.Common.{ℕ, ◌==◌, not, List, Err, sym, ap, subst, ◌∙◌, ◌++◌, IsTrue}
use Rattle.flash_core.specs.Told.{Told}
use Rattle.fwu_model.specs.declared.kinds.Note.TheVariants as note
use Rattle.fwu_model.specs.declared.kinds.NoBoot.TheVariants as no_boot
use Rattle.early_boot.specs.Numbers.{numbers as read, ShowsNumbers}
use Rattle.script_runs.specs.{Ending.noted, ByTable.flash_fault_line}
use Rattle.flash_commands.specs.Showing as show
use Rattle.flash_commands.specs.Showing.{ShowFinds, ShowsNone, shown_line, not_shown_line}
use Rattle.flash_commands.proofs.FormatFlash.{wakes-on, kept-none, has-cause, not-found}
use Rattle.flash_commands.proofs.showing.find.Goals as goal

pub returns-in-Ok-clause-finds : goal.returns-in-Ok-clause-finds
returns-in-Ok-clause-finds g c =
    let n = read c.in-Ok.shown in
    subst (λ (l : List ℕ). ShowFinds (IsTrue g.D.Flash.tells) (g.D.Flash.told c.read_numbers.new.flash).now (g.D.Flash.counts c.args.flash.now) (g.D.Flash.counts c.read_numbers.new.flash) 0 note.Nothing l)
    (sym (c.add_shown.ensures ∙ ap (λ (l : List ℕ). l ++ shown_line n) c.requires.empty))
    (show.numbers n c.in-Ok.ensures.are
    (λ k. subst (λ (t : Told). ShowsNumbers t.now n) (sym (c.in-Ok.ensures.reads.content k)) (c.in-Ok.ensures.numbers k)))

pub returns-in-Err-Layout-clause-finds : goal.returns-in-Err-Layout-clause-finds
returns-in-Err-Layout-clause-finds g c =
    let why = no_boot.Layout c.in-Err-Layout.fault in
    let r = c.not_found.ensures in
    not-found why r.status (ap noted r.note) (r.line ∙ ap (λ (l : List ℕ). l ++ not_shown_line why) c.requires.empty)
    (λ k. subst (λ (t : Told). ShowsNone t.now why) (sym (c.in-Err-Layout.ensures.reads.content k)) (rw c.in-Err-Layout.field-0-is at c.in-Err-Layout.ensures.nothing k))

pub returns-in-Err-Metadata-clause-finds : goal.returns-in-Err-Metadata-clause-finds
returns-in-Err-Metadata-clause-finds g c =
    let why = no_boot.Metadata in
    let r = c.not_found-in-Err-Metadata.ensures in
    not-found why r.status (ap noted r.note) (r.line ∙ ap (λ (l : List ℕ). l ++ not_shown_line why) c.requires.empty)
    (λ k. subst (λ (t : Told). ShowsNone t.now why) (sym (c.in-Err-Metadata.ensures.reads.content k)) (rw c.in-Err-Metadata.field-0-is at c.in-Err-Metadata.ensures.nothing k))

pub returns-in-Err-Flash-clause-finds : goal.returns-in-Err-Flash-clause-finds
returns-in-Err-Flash-clause-finds g c =
    let known = IsTrue g.D.Flash.tells in
    let image = (g.D.Flash.told c.read_numbers.new.flash).now in
    let before = g.D.Flash.counts c.args.flash.now in
    let mid = g.D.Flash.counts c.power_on.new.self in
    let after = g.D.Flash.counts c.read_numbers.new.flash in
    subst (λ (l : List ℕ). ShowFinds known image before after 5 note.Nothing l)
    (sym (c.add.ensures.items ∙ ap (λ (l : List ℕ). l ++ flash_fault_line) c.requires.empty))
    (show.stopped
    (has-cause c.in-Err-Flash.field-0-0 before mid after c.power_on.ensures.counts (rw c.in-Err-Flash.field-0-is at c.in-Err-Flash.ensures.reads.costs) (rw c.in-Err-Flash.field-0-is at c.in-Err-Flash.ensures.reads.reached)))

pub returns-in-Ok-clause-unarmed : goal.returns-in-Ok-clause-unarmed
returns-in-Ok-clause-unarmed g c = c.in-Ok.ensures.reads.arming ∙ c.power_on.ensures.arming ∙ c.requires.unarmed

pub returns-in-Err-Layout-clause-unarmed : goal.returns-in-Err-Layout-clause-unarmed
returns-in-Err-Layout-clause-unarmed g c = (rw c.in-Err-Layout.field-0-is at c.in-Err-Layout.ensures.reads.arming) ∙ c.power_on.ensures.arming ∙ c.requires.unarmed

pub returns-in-Err-Metadata-clause-unarmed : goal.returns-in-Err-Metadata-clause-unarmed
returns-in-Err-Metadata-clause-unarmed g c = (rw c.in-Err-Metadata.field-0-is at c.in-Err-Metadata.ensures.reads.arming) ∙ c.power_on.ensures.arming ∙ c.requires.unarmed

pub returns-in-Err-Flash-clause-unarmed : goal.returns-in-Err-Flash-clause-unarmed
returns-in-Err-Flash-clause-unarmed g c = kept-none {T = Unit {0}} (Err c.in-Err-Flash.field-0-0) (g.D.Flash.arming c.power_on.new.self) _ (c.power_on.ensures.arming ∙ c.requires.unarmed) (rw c.in-Err-Flash.field-0-is at c.in-Err-Flash.ensures.reads.arming)

pub returns-in-Err-Layout-clause-power : goal.returns-in-Err-Layout-clause-power
returns-in-Err-Layout-clause-power g c = (rw c.in-Err-Layout.field-0-is at c.in-Err-Layout.ensures.reads.power) ∙ sym (ap (λ (n : ℕ). not (n == 5)) c.not_found.ensures.status)

pub returns-in-Err-Metadata-clause-power : goal.returns-in-Err-Metadata-clause-power
returns-in-Err-Metadata-clause-power g c =
    (rw c.in-Err-Metadata.field-0-is at c.in-Err-Metadata.ensures.reads.power) ∙ sym (ap (λ (n : ℕ). not (n == 5)) c.not_found-in-Err-Metadata.ensures.status)

pub returns-in-Ok-clause-woken : goal.returns-in-Ok-clause-woken
returns-in-Ok-clause-woken g c tells = wakes-on (c.in-Ok.ensures.reads.content tells) (c.power_on.ensures.fresh tells) (c.power_on.ensures.leaves tells)

pub returns-in-Err-Layout-clause-woken : goal.returns-in-Err-Layout-clause-woken
returns-in-Err-Layout-clause-woken g c tells = wakes-on (c.in-Err-Layout.ensures.reads.content tells) (c.power_on.ensures.fresh tells) (c.power_on.ensures.leaves tells)

pub returns-in-Err-Metadata-clause-woken : goal.returns-in-Err-Metadata-clause-woken
returns-in-Err-Metadata-clause-woken g c tells = wakes-on (c.in-Err-Metadata.ensures.reads.content tells) (c.power_on.ensures.fresh tells) (c.power_on.ensures.leaves tells)

pub returns-in-Err-Flash-clause-woken : goal.returns-in-Err-Flash-clause-woken
returns-in-Err-Flash-clause-woken g c tells = wakes-on (c.in-Err-Flash.ensures.reads.content tells) (c.power_on.ensures.fresh tells) (c.power_on.ensures.leaves tells)
