use Rattle.std.proofs.Common.{◌≡◌, ℕ, Bool, List, [], Err, sym, subst}
use Rattle.fwu_model.specs.Call as call
use Rattle.fwu_model.specs.Reply.{Success}
use Rattle.agent_kept.specs.declared.kinds.Request.TheVariants as request
use Rattle.agent_machine.specs.declared.stop.Stop.TheVariants as stop
use Rattle.agent_machine.specs.Meets.{Meets}
use Rattle.agent_machine.proofs.Answered.{refused-meets}
use Rattle.agent_calls.specs.Shown.{moment}
use Rattle.agent_calls.proofs.agent.Agent.end.Goals as goal

pub returns-in-Ok-clause-meets : goal.returns-in-Ok-clause-meets
returns-in-Ok-clause-meets g c here passes same =
    subst (λ (v : List ℕ → Bool). Meets {T = Unit {0}} (λ value r. r ≡ Success) c.switch.result v call.End (moment c.args.self.now)
    (moment c.switch.new.self)) (sym same)
    (c.switch.ensures.meets (g.V.Verifier.passes c.args.verifier.now) c.in-Ok.ensures.may)

pub returns-in-Err-clause-meets : goal.returns-in-Err-clause-meets
returns-in-Err-clause-meets g c here passes same =
    let a = c.args.self.now in
    subst (λ (v : List ℕ → Bool). Meets {T = Unit {0}} (λ value r. r ≡ Success) (Err (stop.Status c.in-Err.status)) v call.End (moment a) (moment a)) (sym same)
    (refused-meets (moment a) (a.fitting here) a.session.sound (g.V.Verifier.passes c.args.verifier.now) request.End []
    (λ E s setting speaks. tt) c.in-Err.status c.in-Err.ensures.refused (λ value r. r ≡ Success))
