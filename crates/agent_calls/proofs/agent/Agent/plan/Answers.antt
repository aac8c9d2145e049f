use Rattle.std.proofs.Common.{subst}
use Rattle.fwu_formats.specs.Digests.{passes_any}
use Rattle.agent_kept.specs.declared.kinds.Decision.{Decision}
use Rattle.agent_state.specs.Decides.{DecidesRequest}
use Rattle.agent_machine.specs.Fields.{Fields}
use Rattle.agent_machine.proofs.{Room.meta-of-session, Room.rows-some, Verdicts.refuses-any, Verdicts.plans-any}
use Rattle.agent_calls.specs.Shown.{fields}
use Rattle.agent_calls.proofs.agent.Agent.plan.Goals as goal

pub decide-requires-clause-some : goal.decide-requires-clause-some
decide-requires-clause-some g c = rows-some (fields c.args.self.now) (c.args.self.now.fitting c.requires.here)

pub decide-requires-clause-fits : goal.decide-requires-clause-fits
decide-requires-clause-fits g c = meta-of-session (fields c.args.self.now) (c.args.self.now.fitting c.requires.here)

pub returns-in-Do-clause-plans : goal.returns-in-Do-clause-plans
returns-in-Do-clause-plans g c passes =
    let f : Fields = fields c.args.self.now in
    plans-any passes_any passes f.meta f.counter f.session f.boot c.args.request.now c.requires.plain c.in-Do.plan
    (subst (λ (d : Decision). DecidesRequest passes_any f.meta f.counter f.session f.boot c.args.request.now d) c.in-Do.is c.decide.ensures.decides)

pub returns-in-Refused-clause-plans : goal.returns-in-Refused-clause-plans
returns-in-Refused-clause-plans g c passes =
    let f : Fields = fields c.args.self.now in
    refuses-any passes_any passes f.meta f.counter f.session f.boot c.args.request.now c.requires.plain c.in-Refused.status
    (subst (λ (d : Decision). DecidesRequest passes_any f.meta f.counter f.session f.boot c.args.request.now d) c.in-Refused.is c.decide.ensures.decides)
