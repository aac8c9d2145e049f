use Rattle.std.proofs.Common.{◌≡◌, ℕ, List, Bool, true, not, refl, sym, ap, ◌∙◌, subst}
use Rattle.fwu_formats.specs.Metadata.{state_at}
use Rattle.fwu_model.specs.{State.is_invalid, Answer.Answer}
use Rattle.fwu_model.specs.Call as call
use Rattle.agent_kept.specs.declared.kinds.Request.TheVariants as request
use Rattle.agent_kept.specs.declared.kinds.Plan.TheVariants as plan
use Rattle.agent_machine.specs.{Fields.target, Stored.MayBegin, Meets.flash_result}
use Rattle.agent_machine.proofs.StoredCalls.{begin-may, begin-answers, refused-of}
use Rattle.agent_machine.proofs.StoredMeets.{AnswersBy, carried-meets, refused-meets}
use Rattle.agent_calls.specs.Shown.{fields, moment}
use Rattle.agent_calls.proofs.{Makes.begin-frees, Makes.begin-stores, Makes.begin-keeps, agent.Agent.begin.Goals.After-carry_out}
use Rattle.agent_calls.proofs.agent.Agent.begin.Given as given
use Rattle.agent_calls.proofs.agent.Agent.begin.Goals as goal

-- a begin stores where the update bank isn't invalid
module _ (g : given.Over) (c : After-carry_out g) where
  frees-is : c.frees.result ≡ not (is_invalid (state_at c.args.self.now.meta.meta (target (fields c.args.self.now))))
  frees-is =
      let a = c.args.self.now in
      c.frees.ensures
      ∙ begin-frees (fields a) (a.fitting c.if-self.false) c.args.vendor_flags c.args.partial_count c.in-Ok.plan
      c.in-Ok.ensures.asked

pub carry_out-requires-clause-plan : goal.carry_out-requires-clause-plan
carry_out-requires-clause-plan g c =
    let a = c.args.self.now in
    let passes : List ℕ → Bool = λ _. true in
    subst (MayBegin (fields a)) (sym c.frees.ensures)
    (begin-may (fields a) (a.fitting c.if-self.false) a.session.sound passes c.args.vendor_flags c.args.partial_count c.in-Ok.plan
    (c.in-Ok.ensures.plans passes) (g.D.Flash.told a.flash) (a.some c.if-self.false))

pub returns-in-Ok-clause-meets : goal.returns-in-Ok-clause-meets
returns-in-Ok-clause-meets g c = λ here passes.
    let a = c.args.self.now in
    carried-meets c.carry_out.result passes (call.Begin c.args.partial_count) (plan.Begin c.frees.result) (moment a)
    (moment c.carry_out.new.self) c.carry_out.ensures.carries c.carry_out.ensures.answered
    (λ E s x setting shows.
    subst (λ (b : Bool). AnswersBy E s x (call.Begin c.args.partial_count) (plan.Begin b)) (sym c.frees.ensures)
    (begin-answers (fields a) (a.fitting here) a.session.sound passes c.args.vendor_flags c.args.partial_count c.in-Ok.plan
    (c.in-Ok.ensures.plans passes) g.D.Flash.tells (g.D.Flash.told a.flash) E s x setting shows))

pub returns-in-Err-clause-meets : goal.returns-in-Err-clause-meets
returns-in-Err-clause-meets g c = λ here passes.
    let a = c.args.self.now in
    let t = g.D.Flash.told a.flash in
    refused-meets g.D.Flash.tells (fields a) t t (λ is. refl) refl passes (call.Begin c.args.partial_count) c.in-Err.status
    (refused-of (moment a) (a.fitting here) a.session.sound passes (request.Begin c.args.vendor_flags c.args.partial_count)
    (λ E s. tt) c.in-Err.status (c.in-Err.ensures.plans passes))

pub returns-in-Ok-clause-begun : goal.returns-in-Ok-clause-begun
returns-in-Ok-clause-begun g c = λ stopped here E s x layout shows.
    let a = c.args.self.now in
    let by = begin-answers (fields a) (a.fitting here) a.session.sound E.passes c.args.vendor_flags c.args.partial_count c.in-Ok.plan
    (c.in-Ok.ensures.plans E.passes) g.D.Flash.tells (g.D.Flash.told a.flash) E s x (record { layout = layout; verifier = refl }) shows in
    ap (λ (w : Answer). w.reply) by.is ∙ by.reply

pub returns-in-Ok-clause-still : goal.returns-in-Ok-clause-still
returns-in-Ok-clause-still g c = λ free.
    c.carry_out.ensures.still (frees-is g (goal.at.returns-in-Ok-clause-still g c).After-carry_out ∙ ap not free)

pub returns-in-Ok-clause-stores : goal.returns-in-Ok-clause-stores
returns-in-Ok-clause-stores g c done tells used =
    let a = c.args.self.now in
    begin-stores (fields a) (a.fitting c.if-self.false) c.frees.result (frees-is g (goal.at.returns-in-Ok-clause-stores g
    c).After-carry_out) used
    (flash_result c.carry_out.result) (g.D.Flash.told a.flash) (g.D.Flash.told c.carry_out.new.self.flash) (c.carry_out.ensures.stores tells)

pub returns-in-Ok-clause-keeps : goal.returns-in-Ok-clause-keeps
returns-in-Ok-clause-keeps g c done =
    let a = c.args.self.now in
    begin-keeps (fields a) (a.fitting c.if-self.false) c.frees.result (frees-is g (goal.at.returns-in-Ok-clause-keeps g
    c).After-carry_out)
    c.carry_out.new.self.meta c.carry_out.ensures.planned
