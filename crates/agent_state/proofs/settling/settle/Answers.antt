use Rattle.std.proofs.Common.{sym, subst, ap}
use Rattle.agent_kept.specs.{declared.kinds.Decision.Decision, Kept.Kept, Kept.kept}
use Rattle.agent_state.specs.Settles.{IsDecisionOf, SettlesBy}
use Rattle.fwu_formats.specs.Metadata.{MetaRead}
use Rattle.agent_state.proofs.{Planned.planned-fits, Settled.settled-by}
use Rattle.agent_state.proofs.settling.settle.Goals as goal

pub returns-in-Do-clause-settles : goal.returns-in-Do-clause-settles
returns-in-Do-clause-settles c =
    let k : Kept = kept c.args.session.now in
    subst (λ (d : Decision). SettlesBy k c.args.meta.now c.args.bytes.now d c.change_meta.new.meta (kept c.change_session.new.session)) (sym c.in-Do.is)
    (settled-by k c.args.meta.now c.args.bytes.now c.args.session.now.sound.few _ c.change_meta.new.meta (kept c.change_session.new.session)
    (subst (IsDecisionOf k) c.in-Do.is c.requires.decided) c.change_session.ensures.changes c.change_meta.ensures.set)

pub returns-in-Do-clause-fits : goal.returns-in-Do-clause-fits
returns-in-Do-clause-fits c =
    planned-fits (kept c.args.session.now) c.args.meta.now.meta c.requires.fits c.args.bytes.now _ (kept c.change_session.new.session) c.change_meta.new.meta.meta c.change_session.ensures.changes
    (ap (λ (r : MetaRead). r.meta) c.change_meta.ensures.set)
