-- What a call of the agent says: of the reply, of the machine afterwards, and of the flash at each exit.
use Rattle.std.specs.Prelude.{◌≡◌, ◌↔◌, ◌⊎◌, ℕ, ◌∷◌, Bool, false, ◌&&◌, List, [], length, take, None, Result, Ok, Err, IsErrAnd, IsTrue, ⊤}
use Rattle.flash_core.specs.declared.flash.FlashStop.{FlashStop}
use Rattle.flash_core.specs.declared.flash.FlashStop.TheVariants as flash_stop
use Rattle.fwu_model.specs.declared.kinds.Status.TheVariants as status
use Rattle.fwu_model.specs.{State.State, State.Back, State.after, Session.Session, Session.On, Sound.Setting, Call.Call}
use Rattle.fwu_model.specs.{Call.Previous, Answer.answer, Answer.may_leave, Answer.has_other, Calm.IsAtRest}
use Rattle.fwu_model.specs.Reply.{Reply, Refused, Got, Success}
use Rattle.moves.specs.Moved.{Does, GuardedBy, IsReady}
use Rattle.agent_machine.specs.{Deciding.KeepsOldOrNew, declared.stop.Stop.Stop, Fields.Fields, Moment.Moment, Moment.Shows}
use Rattle.agent_machine.specs.Beside.{KeepsSpared, SparesBlocks}
use Rattle.agent_machine.specs.declared.stop.Stop.TheVariants as stop

-- whether the flash stopped it
abbrev pub flash_result : {T : Type 0} → Result T Stop → Result (Unit {0}) FlashStop
flash_result (Err stop.Lost) = Err flash_stop.Lost
flash_result (Err stop.Fault) = Err flash_stop.Failed
flash_result other = Ok tt

abbrev pub IsStopped : {T : Type 0} → Result T Stop → Type 0
IsStopped result = IsErrAnd (flash_result result) (λ cause. ⊤)

abbrev pub IsRefused : {T : Type 0} → Result T Stop → Type 0
IsRefused (Err (stop.Status st)) = ⊤
IsRefused other = ⊥

-- neither refused nor gone: it was answered, or the flash stopped it
abbrev pub IsDone : {T : Type 0} → Result T Stop → Type 0
IsDone (Err (stop.Status st)) = ⊥
IsDone (Err stop.Gone) = ⊥
IsDone other = ⊤

-- the setting has the agent's layout and the verifier that is handed in
pub record IsSettingOf (f : Fields) (passes : List ℕ → Bool) (E : Setting) : Type 0 where
  pub layout : E.layout ≡ f.layout
  pub verifier : E.passes ≡ passes

-- what no call changes
pub record Stays (old new : Moment) : Type 0 where
  pub tells : new.tells ≡ old.tells
  pub layout : new.fields.layout ≡ old.fields.layout
  pub boot : new.fields.boot ≡ old.fields.boot
  -- the counter, and the lengths of the images of the bank that was started
  pub counter : new.fields.counter ≡ old.fields.counter
  pub lengths : new.fields.lengths ≡ old.fields.lengths
  -- where the content is told, the same blocks are guarded
  pub guard : IsTrue old.tells → new.told.guard ≡ old.told.guard

-- the agent shows the machine after this one's answer to the call
abbrev pub ShowsNext : Setting → State → Session → Call → Moment → Type 0
ShowsNext E s x c new = Shows new (after s (answer E s x c).moves) (answer E s x c).next

-- the reply is the machine's, and the agent shows the machine after it
pub record RepliesByMachine (E : Setting) (s : State) (x : Session) (c : Call) (new : Moment) (r : Reply) : Type 0 where
  pub reply_is : r ≡ (answer E s x c).reply
  pub shows : ShowsNext E s x c new

-- An answer or a refusal is the machine's, and the agent shows the machine after it. What a value says of a reply is the call's.
abbrev pub Answers : {T : Type 0} → (T → Reply → Type 0) → Result T Stop → Setting → State → Session → Call → Moment → Type 0
Answers Says (Ok value) E s x c new = Says value (answer E s x c).reply × ShowsNext E s x c new
Answers Says (Err (stop.Status st)) E s x c new = ((answer E s x c).reply ≡ Refused st) × ShowsNext E s x c new
Answers Says other E s x c new = ⊤

-- What a call says of the flash, of an agent that isn't gone.
pub record LeavesFlash (result : Result (Unit {0}) FlashStop) (passes : List ℕ → Bool) (c : Call) (old new : Moment) : Type 0 where
  -- on a flash that is ready: each loss leaves a prefix of the moves, and an answer leaves it ready after all of them
  pub does : (E : Setting) (s : State) (x : Session) → IsSettingOf old.fields passes E → Shows old s x → IsTrue old.tells
      → IsReady E old.told s
      → Does result E s (answer E s x c).moves new.told
  -- on any flash at rest: no loss harms what is in use, and an answer leaves it at rest
  pub guarded : IsTrue old.tells → IsAtRest old.told → GuardedBy result new.told
  -- on any flash, at any exit: nothing changes but the metadata, the marks of the starts on trial, and the update bank
  pub keeps : IsTrue old.tells → KeepsSpared old.fields old.told new.told
  -- on every device, whatever its reads give, at any exit: no other block is erased or programmed
  pub touches : SparesBlocks old.fields old.writes new.writes
  -- on any flash at rest: in each image that a loss leaves the metadata decides that the agent had, or the one that it has now
  pub decides : IsTrue old.tells → KeepsOldOrNew old.fields.layout old.fields.meta new.fields.meta old.told new.told
  pub stays : Stays old new

-- What a call says of an agent that isn't gone: on any device, an answer or a refusal is that of each machine that the agent shows.
pub record Meets {T : Type 0} (Says : T → Reply → Type 0) (result : Result T Stop) (passes : List ℕ → Bool) (c : Call)
    (old new : Moment) : Type 0 where
  pub exact : (E : Setting) (s : State) (x : Session) → IsSettingOf old.fields passes E → Shows old s x
      → Answers Says result E s x c new
  pub leaves : LeavesFlash (flash_result result) passes c old new

-- bytes and total are what was read; where the content isn't told, their number and the total
abbrev pub IsGot : Bool → List ℕ → ℕ × ℕ → Reply → Type 0
IsGot tells out value reply =
    (IsTrue tells → reply ≡ Got value.1 (take value.0 out))
    × ((bytes : List ℕ) × (reply ≡ Got value.1 bytes) × (length bytes ≡ value.0))

-- the session and the numbers of the banks allow to go back, whatever any bank holds
abbrev pub may_try : State → Session → Bool
may_try s (On boot None handles) = may_leave s boot && has_other s
may_try s other = false

-- Going back is decided by the verdict on a bank. Where the content isn't told that isn't known: but what the session and the
-- numbers refuse is refused, and an answer goes back.
abbrev pub GoesBack : Result (Unit {0}) Stop → State → Session → Moment → Type 0
GoesBack (Ok value) s x new = IsTrue (may_try s x) × Shows new (after s (Back ∷ [])) x
GoesBack (Err (stop.Status st)) s x new = (st ≡ status.Denied) × Shows new s x
GoesBack other s x new = ⊤

-- What going back says of an agent that isn't gone: on a device that tells its content it is the machine's answer.
pub record MeetsPrevious (result : Result (Unit {0}) Stop) (passes : List ℕ → Bool) (old new : Moment) : Type 0 where
  pub exact : (E : Setting) (s : State) (x : Session) → IsSettingOf old.fields passes E → Shows old s x → IsTrue old.tells
      → Answers (λ value reply. reply ≡ Success) result E s x Previous new
  pub shows : (s : State) (x : Session) → Shows old s x → GoesBack result s x new
  pub leaves : LeavesFlash (flash_result result) passes Previous old new

-- Gone comes exactly after an earlier stop of this agent.
pub record GoesBy {T : Type 0} (result : Result T Stop) (was now : Bool) : Type 0 where
  pub gone : (result ≡ Err stop.Gone) ↔ IsTrue was
  pub later : IsTrue now ↔ (IsTrue was ⊎ IsStopped result)
