-- An open: its plan is of what is kept, and what it says.
use Rattle.std.proofs.Common.{◌≡◌, ℕ, Bool, List, [], Option, Result, Ok, Err, refl, sym, ap, ◌∙◌, subst, IsTrue}
use Rattle.flash_core.specs.Told.{Told}
use Rattle.fwu_formats.specs.Layout.{ImageRow, find_image}
use Rattle.fwu_model.specs.{declared.kinds.Op.Op, declared.kinds.Status.Status, State.State, Sound.Setting, Call.Call, Reply.Reply}
use Rattle.fwu_model.specs.Session.{Session, Staged}
use Rattle.fwu_model.specs.declared.kinds.Op.TheVariants as op
use Rattle.fwu_model.specs.Session as session
use Rattle.fwu_model.specs.Reply as reply
use Rattle.agent_kept.specs.{declared.kinds.Plan.Plan, declared.kinds.Request.Request, Kept.staging_meant, Kept.handles_meant}
use Rattle.agent_kept.specs.Plans.{call_of, planned, planned_in}
use Rattle.agent_kept.specs.declared.kinds.Plan.TheVariants as plan
use Rattle.agent_kept.specs.declared.kinds.Request.TheVariants as request
use Rattle.agent_kept.specs.declared.kinds.Decision.TheVariants as decision
use Rattle.agent_state.specs.{Decides.DecidesRequest, Asked.IsPlanFor}
use Rattle.agent_machine.specs.{declared.stop.Stop.Stop, Fields.Fields, Carries.CarriedOut, Moment.Moment, Meets.Meets}
use Rattle.agent_machine.specs.Knows.{Fitting, SessionSound, Knows}
use Rattle.agent_machine.specs.declared.stop.Stop.TheVariants as stop
use Rattle.agent_machine.proofs.{Answered.FitsEach, Answered.refused-meets, Meeting.quiet-meets}

-- what is read is not asked for by the call
same-call : (guid bytes : List ℕ) (o : Op) (a b : ℕ) → call_of (request.Open guid o a) bytes ≡ call_of (request.Open guid o b) bytes
same-call guid bytes op.Read a b = refl
same-call guid bytes op.Write a b = refl

opened-says : (E : Setting) (s : State) (boot : ℕ) (stg : Option (List Staged)) (hs : List session.Handle) (bytes : List ℕ) (h : ℕ) (image : Option ℕ) (o : Op)
    (total : ℕ) → (planned E s boot stg hs bytes (plan.Open h image o total)).reply ≡ reply.Opened h
unfolding planned
opened-says E s boot stg hs bytes h image o total = refl

-- the plan for an open is what is requested, with the plan's handle
pub opens-asked : (f : Fields) → Fitting f → (guid : List ℕ) (o : Op) (image : Option ℕ) (total : ℕ) → image ≡ find_image f.layout.rows guid
    → (p : Plan) → IsPlanFor f.session f.meta.meta (request.Open guid o total) p
    → (h : ℕ) (other : Option ℕ) (kind : Op) (size : ℕ) → p ≡ plan.Open h other kind size → p ≡ plan.Open h image o total
opens-asked f fitting guid o image total found p asked h other kind size is =
    let own = subst (IsPlanFor f.session f.meta.meta (request.Open guid o total)) is asked in
    let kept : image ≡ find_image f.session.rows guid = found ∙ ap (λ (rows : List ImageRow). find_image rows guid) (sym fitting.rows) in
    is ∙ ap (λ (i : Option ℕ). plan.Open h i kind size) (own.1 ∙ sym kept) ∙ ap (λ (k : Op). plan.Open h image k size) own.2
    ∙ ap (plan.Open h image o) own.3

module _ (tells : Bool) (t : Told) (f : Fields) (fitting : Fitting f) (sound : SessionSound f) (knows : IsTrue tells → Knows f t)
    (guid : List ℕ) (o : Op) (image : Option ℕ) (total : ℕ) where
  abbrev m : (ℕ → ℕ) → Moment
  m writes = record { tells = tells; told = t; writes = writes; fields = f }

  abbrev asked : Request
  asked = request.Open guid o total

  fits : (passes : List ℕ → Bool) → FitsEach f passes asked []
  fits passes = λ E s setting speaks. tt

  -- the same of the call, where no length is asked for
  as-called : {T : Type 0} (Says : T → Reply → Type 0) (result : Result T Stop) (passes : List ℕ → Bool) (old new : Moment)
      → Meets Says result passes (call_of asked []) old new → Meets Says result passes (call_of (request.Open guid o 0) []) old new
  as-called Says result passes old new meets = subst (λ (c : Call). Meets Says result passes c old new) (same-call guid [] o total 0) meets

  pub open-refused : {writes : ℕ → ℕ} (st : Status)
      → ((passes : List ℕ → Bool) → DecidesRequest passes f.meta f.counter f.session f.boot asked (decision.Refused st))
      → (passes : List ℕ → Bool)
      → Meets {T = ℕ} (λ h r. r ≡ reply.Opened h) (Err (stop.Status st)) passes (call_of (request.Open guid o 0) []) (m writes) (m writes)
  open-refused {writes = writes} st decides passes =
      as-called (λ h r. r ≡ reply.Opened h) (Err (stop.Status st)) passes (m writes) (m writes)
      (refused-meets (m writes) fitting sound passes asked [] (fits passes) st (decides passes) (λ h r. r ≡ reply.Opened h))

  pub open-meets : {writes : ℕ → ℕ} (p : Plan)
      → ((passes : List ℕ → Bool) → DecidesRequest passes f.meta f.counter f.session f.boot asked (decision.Do p))
      → (h : ℕ) → p ≡ plan.Open h image o total → (new : Moment) → new.told ≡ t → new.writes ≡ writes
      → CarriedOut (plan.Open h image o total) [] (m writes) new
      → (passes : List ℕ → Bool)
      → Meets {T = ℕ} (λ v r. r ≡ reply.Opened v) (Ok h) passes (call_of (request.Open guid o 0) []) (m writes) new
  open-meets {writes = writes} p decides h is new told still out passes =
      as-called (λ v r. r ≡ reply.Opened v) (Ok h) passes (m writes) new
      (quiet-meets (m writes) new fitting sound knows passes asked [] (fits passes) (plan.Open h image o total)
      (subst (λ (q : Plan). DecidesRequest passes f.meta f.counter f.session f.boot asked (decision.Do q)) is (decides passes)) tt told still out
      (λ v r. r ≡ reply.Opened v) h
      (λ E s x setting shows.
      subst (λ (y : Session). (planned_in E s y [] (plan.Open h image o total)).reply ≡ reply.Opened h) (sym shows.means)
      (opened-says E s f.boot (staging_meant f.session shows.staged) (handles_meant f.session) [] h image o total)))
