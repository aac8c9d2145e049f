use Rattle.std.proofs.Common.{◌++◌, ℕ, List, Some, refl, sym, ap, subst, ◌∙◌}
use Rattle.std.specs.Prelude.{string_bytes}
use Rattle.fwu_formats.specs.Digests.{passes_any}
use Rattle.fwu_journal.specs.{Shown.turns, declared.journal.Journal.Journal}
use Rattle.fwu_model.specs.Call.{Call}
use Rattle.gen_core.specs.Calls.{soak_calls}
use Rattle.script_turns.specs.Powered.{TurnMoment, device, moment, moment_of, moment_on, shown_on}
use Rattle.script_runs.specs.Ending.{is_beyond_model, noted}
use Rattle.script_turns.specs.Runs.{Ran}
use Rattle.script_runs.proofs.TopSources.{later}
use Rattle.flash_commands.specs.{Formatting.format_note, Formatting.format_status, Formatting.format_text, Soaking.SoakReached}
use Rattle.flash_commands.specs.{Soaking.only_file_of, Soaking.soak_files, SoakWays.not_formatted, SoakWays.ran, SoakWays.starved}
use Rattle.flash_commands.proofs.FormatFlash.{as-planned}
use Rattle.flash_commands.proofs.SoakEnding.{moment-fresh, soak-calls-are, soak-named, stands-ran, tries-as}
use Rattle.flash_commands.proofs.soak_command.format_and_soak.Goals as goal

pub returns-in-Ok-ended-clause-way : goal.returns-in-Ok-ended-clause-way
returns-in-Ok-ended-clause-way g c seed given was good large register_is file_is =
    let d = c.try_format-ended.new.flash in
    let start = moment g.D.Flash d in
    let begins = c.new-run.ensures.powered in
    let run = c.do_soak-end.new.run in
    let end = c.do_soak-end.result in
    let p = run.powered in
    let n = c.args.rounds in
    let stands : SoakReached g.D.Flash.tells (soak_files seed n) (soak_calls seed n) (turns run.journal) start (moment_of p) end.status (noted end.note) run.text.items =
    subst (λ (m : TurnMoment). SoakReached g.D.Flash.tells (soak_files seed n) (soak_calls seed n) (turns run.journal) m (moment_of p) end.status (noted end.note) run.text.items)
    (moment-fresh c.new-run.result.powered d (ap shown_on begins ∙ c.fresh-start.ensures.on) (ap device begins ∙ c.fresh-start.ensures.device))
    (subst (λ (cs : List Call). SoakReached g.D.Flash.tells (soak_files seed n) cs (turns run.journal) (moment_of c.new-run.result.powered) (moment_of p) end.status (noted end.note) run.text.items)
    (soak-calls-are seed c.args.drawn.register n register_is)
    (c.do_soak-end.ensures.stands (soak_files seed n) (soak-named seed c.args.drawn.register n c.ranges.rounds.fits register_is))) in
    ran good large c.in-Ok-ended.field-0 start (shown_on p)
    (tries-as g.D.Flash.tells seed (only_file_of (string_bytes c.args.drawn.first.name) c.args.drawn.first.bytes.items) c.as_str.result.now c.soak_rows.result _ _ start _ file_is (c.as_str.ensures.value ∙ c.in-Ok.ensures) c.soak_rows.ensures.rows
    c.in-Ok-ended.ensures.tries)
    refl c.in-Ok-ended.ensures.tries.power
    (subst (λ (x : g.row.D.Denot). Ran passes_any g.D.Flash.tells (Some (soak_files seed n)) (turns c.finish.result.journal) start (moment_on g.D.Flash (shown_on p) x) 0 0) (sym c.finish.ensures.flash)
    (subst (λ (j : Journal). Ran passes_any g.D.Flash.tells (Some (soak_files seed n)) (turns j) start (moment_of p) 0 0) (sym c.finish.ensures.journal)
    (stands-ran g.D.Flash.tells (soak_files seed n) (soak_calls seed n) (turns run.journal) start (moment_of p) end.status (noted end.note) run.text.items stands)))
    (c.finish.ensures.ended (soak_files seed n) (soak_calls seed n) start stands)
    (ap is_beyond_model c.finish.ensures.note ∙ c.do_soak-end.ensures.note) refl

pub returns-clause-way : goal.returns-clause-way
returns-clause-way g c seed given was good large register_is file_is =
    let r = c.try_format-ended.result in
    not_formatted good large c.args.room.no_turns c.in-Err.field-0
    (tries-as g.D.Flash.tells seed (only_file_of (string_bytes c.args.drawn.first.name) c.args.drawn.first.bytes.items) c.as_str.result.now c.soak_rows.result _ _ _ _ file_is (c.as_str.ensures.value ∙ c.in-Ok.ensures) c.soak_rows.ensures.rows
    c.in-Err.ensures.tries)
    (c.note_of.ensures ∙ ap format_note c.in-Err.is) refl
    (as-planned _ c.as_slice.result.now _ c.status_of.result _ _ _ _ _
    (c.as_slice.ensures.value ∙ c.add_format_line.ensures ∙ ap (λ (l : List ℕ). l ++ format_text r) c.args.room.no_text ∙ ap format_text c.in-Err.is) (c.status_of.ensures ∙ ap format_status c.in-Err.is) c.put_line-status.ensures)

-- no memory

pub returns-in_default-clause-way : goal.returns-in_default-clause-way
returns-in_default-clause-way g c seed given was good large register_is file_is =
    let e = c.refuse.ensures in
    let stuck = e.starved refl in
    starved e.no_turns (ap (moment g.D.Flash) e.flash) stuck.0 e.note (ap g.O.Sink.taken stuck.1, ap g.O.Sink.faults stuck.1)

pub returns-in_default-clause-later : goal.returns-in_default-clause-later
returns-in_default-clause-later g c = later _ _ _ _ _ _ _ c.refuse.ensures.prints
