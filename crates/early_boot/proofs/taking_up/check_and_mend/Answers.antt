use Rattle.std.proofs.Common.{◌≡◌, ℕ, ◌<◌, Bool, true, false, Some, Ok, refl, subst, sym, ◌∙◌, IsTrue}
use Rattle.std.proofs.lemmas.Option.{same_Some}
use Rattle.std.specs.Bool.{then_some}
use Rattle.fwu_formats.specs.Metadata.{state_at}
use Rattle.flash_core.specs.Told.{Told}
use Rattle.early_boot.specs.Starting.{MendsReplicas}
use Rattle.early_boot.proofs.TakingUp.{run-below}
use Rattle.early_boot.proofs.taking_up.check_and_mend.Goals as goal

by-test : (test : Bool) (x b : ℕ) → then_some test x ≡ Some b → IsTrue test × (x ≡ b)
by-test true x b is = (refl, same_Some x b is)
by-test false x b is = absurd cc

pub candidate-requires-clause-below : goal.candidate-requires-clause-below
candidate-requires-clause-below g c b is =
    let shown = c.args.shown.now in
    let m = shown.meta.meta in
    let run = by-test c.may_run.result c.args.bank b (sym c.then_some-running.ensures ∙ is) in
    subst (λ (x : ℕ). x < shown.layout.banks) run.1 (run-below shown.layout m c.requires.has.fits c.args.bank (state_at m c.args.bank) shown.trials (sym c.may_run.ensures ∙ run.0))

pub returns-clause-mends : goal.returns-clause-mends
returns-clause-mends g c tells =
    subst (λ (t : Told). MendsReplicas {T = Unit {0}} (Ok tt) c.args.shown.now t (g.D.Flash.told c.mend.new.flash)) (c.in_ok-chosen.ensures.reads.content tells)
    (c.in_ok-mend.ensures.mends tells)
