-- What a copy of images of the bank that was started leaves, step by step.
use Rattle.std.specs.Prelude.{◌≡◌, ◌≤◌, ◌<◌, ℕ, ◌+◌, Bool, true, false, not, List, [], ◌++◌, length, take, drop, Result, Ok, Err, OnOk, IfOk, IsErr, replicate, ⊤, slice_index_or, IsTrue, Some}
use Rattle.flash_core.specs.{declared.flash.FlashStop.FlashStop, Told.Told}
use Rattle.flash_core.specs.declared.flash.FlashStop.TheVariants as flash_stop
use Rattle.fwu_model.specs.{State.State, State.Free, State.after, MoveMetas.meta_after, Sound.Setting, Reply.Success}
use Rattle.fwu_model.specs.{Reply.Refused, Answer.Answer, Answer.image_held, Calm.IsAtRest}
use Rattle.fwu_model.specs.Session.{Session, Staged, Nothing}
use Rattle.moves.specs.Moved.{Does, GuardedBy, IsReady}
use Rattle.agent_machine.specs.{declared.stop.Stop.Stop, Fields.Fields, Fields.target, Fields.total_of, Moment.Moment}
use Rattle.agent_machine.specs.{Moment.Shows, Goes.GoesByMoves, Stored.StoresIf, Filling.between, Filling.within, Filling.filled}
use Rattle.agent_machine.specs.Beside.{IsBesideBank, KeepsSparedByAll, KeepsWhere, SparesBlocksByAll, SparesBlocksWhere}
use Rattle.agent_machine.specs.Meets.{IsDone, IsSettingOf, Stays, flash_result}
use Rattle.agent_machine.specs.declared.stop.Stop.TheVariants as stop
use Rattle.agent_calls.specs.{Metas.has_invalid_target, Partly.begins_over, Partly.copied_first}

-- Steps within a staging: done, and then the session is this one; or the flash stopped them. None is refused.
abbrev pub FollowsInStaging : {T : Type 0} → Result T Stop → Setting → Moment → Moment → State → Session → Type 0
FollowsInStaging (Ok x) E old new s y = GoesByMoves E (Ok tt) old new s [] y
FollowsInStaging (Err stop.Lost) E old new s y = GoesByMoves E (Err flash_stop.Lost) old new s [] y
FollowsInStaging (Err stop.Fault) E old new s y = GoesByMoves E (Err flash_stop.Failed) old new s [] y
FollowsInStaging other E old new s y = ⊥

-- A piece of an image of the bank that was started, from a place of it on, was read and written behind what was there.
pub record CopiesPiece (image at : ℕ) (result : Result ℕ Stop) (old new : Moment) : Type 0 where
  pub stays : Stays old new
  pub bytes : List ℕ
  pub count : IfOk result (λ n. (length bytes ≡ n) × (0 < n) × (at + n ≤ total_of old.fields (Some image)))
  pub read : IfOk result (λ n. IsTrue old.tells → (s : State) (x : Session) → Shows old s x
      → bytes ≡ take n (drop at (image_held s old.fields.boot image)))
  pub goes : (E : Setting) (s : State) (boot : ℕ) (parts : List Staged) (before : List ℕ) → E.layout ≡ old.fields.layout
      → image < length parts → length before ≡ at → Shows old s (within boot parts image before)
      → FollowsInStaging result E old new s (within boot parts image (before ++ bytes))

-- all of it was read and written
pub record CopiesBytes (image : ℕ) (result : Result (Unit {0}) Stop) (old new : Moment) : Type 0 where
  pub stays : Stays old new
  pub bytes : List ℕ
  pub count : OnOk result (length bytes ≡ total_of old.fields (Some image))
  pub read : OnOk result (IsTrue old.tells → (s : State) (boot : ℕ) (parts : List Staged) → image < length parts
      → Shows old s (within boot parts image []) → bytes ≡ image_held s boot image)
  pub goes : (E : Setting) (s : State) (boot : ℕ) (parts : List Staged) → E.layout ≡ old.fields.layout
      → image < length parts → Shows old s (within boot parts image [])
      → FollowsInStaging result E old new s (within boot parts image bytes)

-- an image of which nothing was staged is committed with the bytes that it has in the bank that was started
pub record CopiesImage (image : ℕ) (result : Result (Unit {0}) Stop) (old new : Moment) : Type 0 where
  pub stays : Stays old new
  pub bytes : List ℕ
  pub count : OnOk result (length bytes ≡ total_of old.fields (Some image))
  pub read : OnOk result (IsTrue old.tells → (s : State) (boot : ℕ) (parts : List Staged) → image < length parts
      → slice_index_or parts image Nothing ≡ Nothing → Shows old s (between boot parts) → bytes ≡ image_held s boot image)
  pub goes : (E : Setting) (s : State) (boot : ℕ) (parts : List Staged) → E.layout ≡ old.fields.layout
      → image < length parts → slice_index_or parts image Nothing ≡ Nothing → Shows old s (between boot parts)
      → FollowsInStaging result E old new s (between boot (filled parts image bytes true))

-- so each image that isn't named
pub record CopiesImages (named : List Bool) (result : Result (Unit {0}) Stop) (old new : Moment) : Type 0 where
  pub stays : Stays old new
  pub bytes : ℕ → List ℕ
  pub count : OnOk result ((i : ℕ) → i < length named → slice_index_or named i true ≡ false
      → length (bytes i) ≡ total_of old.fields (Some i))
  pub read : OnOk result (IsTrue old.tells → (s : State) (boot : ℕ) → Shows old s (between boot (replicate (length named) Nothing))
      → (i : ℕ) → i < length named → slice_index_or named i true ≡ false → bytes i ≡ image_held s boot i)
  pub goes : (E : Setting) (s : State) (boot : ℕ) → E.layout ≡ old.fields.layout
      → Shows old s (between boot (replicate (length named) Nothing))
      → FollowsInStaging result E old new s (between boot (copied_first named (length named) bytes))

-- What the copies leave at any exit: the metadata that is kept, the trials, and on a flash that tells its content all beside the
-- update bank. On every device no block beside that bank is erased or programmed.
pub record FillsBank (old new : Moment) : Type 0 where
  pub tells : new.tells ≡ old.tells
  pub layout : new.fields.layout ≡ old.fields.layout
  pub metadata : new.fields.meta ≡ old.fields.meta
  pub trials : new.fields.trials ≡ old.fields.trials
  pub beside : IsTrue old.tells → KeepsWhere (IsBesideBank old.fields.layout (target old.fields)) old.told new.told
  pub touches : SparesBlocksWhere (IsBesideBank old.fields.layout (target old.fields)) old.writes new.writes

-- ---- the call

-- An answer or a refusal is the machine's, and the agent shows the machine after it. The flash stops no call that it refuses.
abbrev pub AnswersAs : Result (Unit {0}) Stop → Answer → State → Moment → Type 0
AnswersAs (Ok x) a s new = (a.reply ≡ Success) × Shows new (after s a.moves) a.next
AnswersAs (Err (stop.Status st)) a s new = (a.reply ≡ Refused st) × Shows new (after s a.moves) a.next
AnswersAs (Err stop.Lost) a s new = a.reply ≡ Success
AnswersAs (Err stop.Fault) a s new = a.reply ≡ Success
AnswersAs (Err stop.Gone) a s new = ⊤

-- What a partial begin says of an agent that isn't gone, on any device. There are bytes of the images that aren't named, as many as
-- the agent keeps of the bank that was started. Where the device tells its content they are those of its package. Each machine that
-- the agent shows answers with them. On a ready flash each loss leaves a prefix of its moves.
pub record BeginsPartly (types : List (List ℕ)) (named : List Bool) (passes : List ℕ → Bool) (result : Result (Unit {0}) Stop)
    (old new : Moment) : Type 0 where
  pub bytes : ℕ → List ℕ
  pub count : IsDone result → (i : ℕ) → i < length named → slice_index_or named i true ≡ false
      → length (bytes i) ≡ total_of old.fields (Some i)
  pub read : IsTrue old.tells → (s : State) (x : Session) → Shows old s x → (i : ℕ) → i < length named
      → slice_index_or named i true ≡ false → bytes i ≡ image_held s s.active i
  pub exact : (E : Setting) (s : State) (x : Session) → IsSettingOf old.fields passes E → Shows old s x
      → AnswersAs result (begins_over E s x types bytes) s new
  pub does : (E : Setting) (s : State) (x : Session) → IsSettingOf old.fields passes E → Shows old s x → IsTrue old.tells
      → IsReady E old.told s → Does (flash_result result) E s (begins_over E s x types bytes).moves new.told
  pub guarded : IsTrue old.tells → IsAtRest old.told → GuardedBy (flash_result result) new.told
  -- on any flash, at any exit: nothing changes but the metadata, the marks of the starts on trial, and the bank behind the one that
  -- was started
  pub keeps : IsTrue old.tells → KeepsSparedByAll old.fields old.told new.told
  -- on every device, whatever its reads give, at any exit: no other block is erased or programmed
  pub touches : SparesBlocksByAll old.fields old.writes new.writes
  pub stays : Stays old new

-- At any exit but a refusal, on a flash that tells its content. It stores the metadata in which the update bank is invalid, or
-- nothing where the bank is so already. Behind that nothing changes beside the update bank.
pub record StoresThenFills (result : Result (Unit {0}) FlashStop) (f : Fields) (s t : Told) : Type 0 where
  -- how the store ended, and what is told then
  pub stored : Result (Unit {0}) FlashStop
  pub between : Told
  pub stores : StoresIf (not (has_invalid_target f)) stored f.layout
      (meta_after f.meta.meta (Free (target f))) s between
  pub fills : KeepsWhere (IsBesideBank f.layout (target f)) between t
  -- nothing follows a store that was stopped
  pub last : IsErr stored → (result ≡ stored) × (t ≡ between)
