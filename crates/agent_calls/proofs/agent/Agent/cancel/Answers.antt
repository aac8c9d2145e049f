use Rattle.std.proofs.Common.{◌≡◌, [], refl, sym, ap, subst}
use Rattle.fwu_model.specs.Reply.{Success}
use Rattle.fwu_formats.specs.Metadata.{Meta}
use Rattle.agent_kept.specs.{declared.kinds.Plan.Plan, Kept.Kept}
use Rattle.agent_kept.specs.declared.kinds.Plan.TheVariants as plan
use Rattle.agent_kept.specs.declared.kinds.Request.TheVariants as request
use Rattle.agent_state.specs.Asked.{IsPlanFor}
use Rattle.agent_machine.specs.{Asks.IsQuietPlan, Fields.Fields}
use Rattle.agent_machine.proofs.{Answered.refused-meets, Meeting.SaysSuccess, Meeting.quiet-success}
use Rattle.agent_calls.specs.Shown.{fields, moment}
use Rattle.agent_calls.proofs.agent.Agent.cancel.Goals as goal

-- what is planned of a cancel is one
cancels : (k : Kept) (m : Meta) (p : Plan) → IsPlanFor k m request.Cancel p → p ≡ plan.Cancel
cancels k m plan.Cancel asked = refl
cancels k m p asked = absurd asked

pub returns-in-Ok-clause-meets : goal.returns-in-Ok-clause-meets
returns-in-Ok-clause-meets g c here passes =
    let a = c.args.self.now in
    let f : Fields = fields a in
    let own = sym (cancels f.session f.meta.meta c.in-Ok.plan c.in-Ok.ensures.asked) in
    quiet-success (moment a) (moment c.keep.new.self) (a.fitting here) a.session.sound (a.knows here) passes request.Cancel [] (λ E s setting speaks. tt)
    c.in-Ok.plan (c.in-Ok.ensures.plans passes) (subst IsQuietPlan own tt) (ap g.D.Flash.told c.keep.ensures.device) (ap g.D.Flash.writes c.keep.ensures.device) c.keep.ensures.carried
    (subst SaysSuccess own tt)

pub returns-in-Err-clause-meets : goal.returns-in-Err-clause-meets
returns-in-Err-clause-meets g c here passes =
    let a = c.args.self.now in
    refused-meets (moment a) (a.fitting here) a.session.sound passes request.Cancel [] (λ E s setting speaks. tt) c.in-Err.status
    (c.in-Err.ensures.plans passes) (λ value reply. reply ≡ Success)
