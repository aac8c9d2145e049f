use Rattle.std.proofs.Common.{◌≡◌, length, refl, ap, ◌∙◌, subst}
use Rattle.fwu_model.specs.Reply.{Success}
use Rattle.agent_kept.specs.declared.kinds.Plan.{Plan}
use Rattle.agent_kept.specs.declared.kinds.Plan.TheVariants as plan
use Rattle.agent_kept.specs.declared.kinds.Request.TheVariants as request
use Rattle.agent_kept.specs.declared.kinds.Decision.TheVariants as decision
use Rattle.agent_state.specs.{Decides.DecidesRequest, Asked.IsPlanFor}
use Rattle.agent_machine.specs.Fields.{Fields}
use Rattle.agent_machine.proofs.Answered.{refused-meets}
use Rattle.agent_calls.specs.Shown.{fields, moment}
use Rattle.agent_calls.proofs.agent.Agent.write_stream.Goals as goal

pub returns-in-Write-clause-meets : goal.returns-in-Write-clause-meets
returns-in-Write-clause-meets g c here passes =
    let f : Fields = fields c.args.self.now in
    let r = request.Write c.args.handle (length c.args.bytes.now) in
    let own = subst (IsPlanFor f.session f.meta.meta r) c.in-Write.is c.in-Ok.ensures.asked in
    c.write_image.ensures.meets passes c.args.handle
    (subst (λ (p : Plan). DecidesRequest passes f.meta f.counter f.session f.boot r (decision.Do p))
    (c.in-Write.is ∙ ap (plan.Write c.in-Write.number c.in-Write.image c.in-Write.at) own.3) (c.in-Ok.ensures.plans passes))

pub returns-in-Err-clause-meets : goal.returns-in-Err-clause-meets
returns-in-Err-clause-meets g c here passes =
    let a = c.args.self.now in
    refused-meets (moment a) (a.fitting here) a.session.sound passes (request.Write c.args.handle (length c.args.bytes.now)) c.args.bytes.now
    (λ E s setting speaks. refl) c.in-Err.status (c.in-Err.ensures.plans passes) (λ value reply. reply ≡ Success)
