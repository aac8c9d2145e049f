-- A call that is done: what it says of the reply, and where its plan needs no flash.
use Rattle.std.proofs.Common.{◌≡◌, ◌∙◌, inl, ℕ, Bool, List, Option, Ok, refl, sym, ap, subst, IsTrue}
use Rattle.flash_core.specs.Told.{Told}
use Rattle.fwu_model.specs.{State.State, Sound.Setting, Session.Session, Session.Staged, Reply.Reply, Reply.Success}
use Rattle.fwu_model.specs.Session as session
use Rattle.agent_kept.specs.{declared.kinds.Request.Request, declared.kinds.Plan.Plan, Kept.handles_meant, Kept.staging_meant}
use Rattle.agent_kept.specs.Plans.{call_of, planned, planned_in}
use Rattle.agent_kept.specs.declared.kinds.Plan.TheVariants as plan
use Rattle.agent_kept.specs.declared.kinds.Decision.TheVariants as decision
use Rattle.agent_state.specs.Decides.{DecidesRequest}
use Rattle.agent_machine.specs.{Asks.IsQuietPlan, Knows.Fitting, Knows.SessionSound, Knows.Knows, Moment.Moment, Moment.Shows}
use Rattle.agent_machine.specs.Carries.{CarriedOut, state_before, staging_before}
use Rattle.agent_machine.specs.Meets.{IsSettingOf, LeavesFlash, Meets, Stays}
use Rattle.agent_machine.proofs.Answered.{FitsEach, moves-told, still-leaves, done-meets}
use Rattle.agent_machine.proofs.Quietly.{quiet-moves}

-- ---- the reply

-- whose reply is success, and no more
abbrev pub SaysSuccess : Plan → Type 0
SaysSuccess plan.Tell = ⊥
SaysSuccess (plan.Open h image o total) = ⊥
SaysSuccess (plan.Read h image at n total) = ⊥
SaysSuccess other = Unit {0}

success-planned : (E : Setting) (s : State) (boot : ℕ) (stg : Option (List Staged)) (hs : List session.Handle) (bytes : List ℕ) (p : Plan) → SaysSuccess p
    → (planned E s boot stg hs bytes p).reply ≡ Success
unfolding planned
success-planned E s boot stg hs bytes plan.Tell e = absurd e
success-planned E s boot stg hs bytes (plan.Open h image o total) e = absurd e
success-planned E s boot stg hs bytes (plan.Read h image at n total) e = absurd e
success-planned E s boot stg hs bytes q e = refl

-- the same of a machine that is shown
pub success-says : (old : Moment) (bytes : List ℕ) (p : Plan) → SaysSuccess p → (E : Setting) (s : State) (x : Session) → Shows old s x
    → (planned_in E s x bytes p).reply ≡ Success
success-says old bytes p success E s x shows =
    subst (λ (y : Session). (planned_in E s y bytes p).reply ≡ Success) (sym shows.means)
    (success-planned E s old.fields.boot (staging_meant old.fields.session shows.staged) (handles_meant old.fields.session) bytes p success)

-- ---- a call of a quiet plan

module _ (old new : Moment) (fitting : Fitting old.fields) (sound : SessionSound old.fields) (knows : IsTrue old.tells → Knows old.fields old.told)
    (passes : List ℕ → Bool) (r : Request) (bytes : List ℕ) (fits : FitsEach old.fields passes r bytes)
    (p : Plan) (decides : DecidesRequest passes old.fields.meta old.fields.counter old.fields.session old.fields.boot r (decision.Do p)) (quiet : IsQuietPlan p)
    (told : new.told ≡ old.told) (still : new.writes ≡ old.writes) (out : CarriedOut p bytes old new) where
  pub quiet-leaves : LeavesFlash (Ok tt) passes (call_of r bytes) old new
  quiet-leaves =
      let guard : new.told.guard ≡ old.told.guard = ap (λ (t : Told). t.guard) told in
      let stays : Stays old new = assumption in
      still-leaves (Ok tt) passes (call_of r bytes) old new (λ tells. told) still stays (λ E s x setting shows tells.
      inl (moves-told old new fitting sound knows passes r bytes fits p decides E s x setting shows tells
      ∙ quiet-moves (state_before old) (staging_before old) p quiet))

  pub quiet-meets : {T : Type 0} (Says : T → Reply → Type 0) (value : T)
      → ((E : Setting) (s : State) (x : Session) → IsSettingOf old.fields passes E → Shows old s x → Says value (planned_in E s x bytes p).reply)
      → Meets {T = T} Says (Ok value) passes (call_of r bytes) old new
  quiet-meets Says value says = done-meets old new fitting sound knows passes r bytes fits p decides out Says value says quiet-leaves

  -- one that says no more than that it was done
  pub quiet-success : SaysSuccess p → Meets {T = Unit {0}} (λ value reply. reply ≡ Success) (Ok tt) passes (call_of r bytes) old new
  quiet-success success = quiet-meets (λ value reply. reply ≡ Success) tt (λ E s x setting shows. success-says old bytes p success E s x shows)
