use Rattle.std.proofs.Common.{◌<◌, ℕ, List, length, Bool, true, refl, subst}
use Rattle.fwu_model.specs.Call as call
use Rattle.agent_kept.specs.declared.kinds.Request.TheVariants as request
use Rattle.agent_kept.specs.declared.kinds.Plan.TheVariants as plan
use Rattle.agent_kept.specs.Kept.{kept}
use Rattle.agent_state.specs.Settles.{IsPlanOf}
use Rattle.agent_machine.proofs.StoredCalls.{accept-may, accept-answers, refused-of}
use Rattle.agent_machine.proofs.StoredMeets.{carried-meets, refused-meets}
use Rattle.agent_calls.specs.Shown.{fields, moment}
use Rattle.agent_calls.proofs.agent.Agent.accept.Goals as goal

pub returns-in-Err-clause-meets : goal.returns-in-Err-clause-meets
returns-in-Err-clause-meets g c = λ here passes.
    let a = c.args.self.now in
    let t = g.D.Flash.told a.flash in
    refused-meets g.D.Flash.tells (fields a) t t (λ is. refl) refl passes (call.Accepts c.args.guid) c.in-Err.status
    (refused-of (moment a) (a.fitting here) a.session.sound passes (request.Accept c.args.guid) (λ E s. tt) c.in-Err.status (c.in-Err.ensures.plans passes))

pub carry_out-requires-clause-plan : goal.carry_out-requires-clause-plan
carry_out-requires-clause-plan g c =
    let a = c.args.self.now in
    let passes : List ℕ → Bool = λ _. true in
    let within : c.in-Accept.image < length (kept a.session).rows = subst (IsPlanOf (kept a.session)) c.in-Accept.is c.in-Ok.ensures.of in
    accept-may (fields a) (a.fitting c.if-self.false) a.session.sound passes c.args.guid c.in-Ok.plan (c.in-Ok.ensures.plans passes)
    (g.D.Flash.told a.flash) (a.some c.if-self.false) c.in-Accept.image within

pub returns-in-Accept-clause-meets : goal.returns-in-Accept-clause-meets
returns-in-Accept-clause-meets g c = λ here passes.
    let a = c.args.self.now in
    carried-meets c.carry_out.result passes (call.Accepts c.args.guid) (plan.Accept c.in-Accept.image c.in-Accept.store) (moment a)
    (moment c.carry_out.new.self) c.carry_out.ensures.carries c.carry_out.ensures.answered
    (λ E s x setting shows.
    accept-answers (fields a) (a.fitting here) a.session.sound passes c.args.guid c.in-Ok.plan (c.in-Ok.ensures.plans passes) g.D.Flash.tells
    (g.D.Flash.told a.flash) E s x setting shows c.in-Accept.image c.in-Accept.store c.in-Accept.is)
