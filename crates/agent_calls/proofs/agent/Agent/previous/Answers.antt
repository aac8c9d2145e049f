use Rattle.std.proofs.Common.{ℕ, List, Bool, length, refl, sym, ap, subst, arith}
use Rattle.fwu_formats.specs.Layout.{ImageRow}
use Rattle.agent_kept.specs.Kept.{kept}
use Rattle.agent_kept.specs.declared.kinds.Request.TheVariants as request
use Rattle.agent_kept.specs.declared.kinds.Decision.TheVariants as decision
use Rattle.agent_state.specs.Decides.{DecidesRequest}
use Rattle.agent_machine.proofs.{Answered.layout-limits, Room.meta-of-session, StoredBack.refused-meets-previous}
use Rattle.agent_calls.specs.Shown.{fields}
use Rattle.agent_calls.proofs.agent.Agent.previous.Goals as goal

pub decide-decision-requires-clause-some : goal.decide-decision-requires-clause-some
decide-decision-requires-clause-some g c =
    let a = c.args.self.now in
    let fitting = a.fitting c.if-self.false in
    omega (arith, (layout-limits a.layout fitting.layout).rows, ap (λ (l : List ImageRow). length l) fitting.rows)

pub decide-decision-requires-clause-fits : goal.decide-decision-requires-clause-fits
decide-decision-requires-clause-fits g c = meta-of-session (fields c.args.self.now) (c.args.self.now.fitting c.if-self.false)

pub returns-in-Refused-clause-meets : goal.returns-in-Refused-clause-meets
returns-in-Refused-clause-meets g c = λ here passes same.
    let a = c.args.self.now in
    let s = g.D.Flash.told a.flash in
    refused-meets-previous g.D.Flash.tells (fields a) (a.fitting here) a.session.sound s s (λ is. refl) refl passes c.in-Refused.status
    (subst (λ (ps : List ℕ → Bool). DecidesRequest ps a.meta a.counter (kept a.session) a.boot request.Previous (decision.Refused c.in-Refused.status))
    (sym same) c.in-Refused.ensures.decides)
