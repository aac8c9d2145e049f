-- What C is told of one call of the agent, in the session behind a boot of a bank.
use Rattle.std.specs.Prelude.{◌≡◌, ◌≢◌, ℕ, ◌++◌, List, [], All, take, Option, None, Some, Result, Ok, Err, IsTrue, option_map, unwrap_or, ⊤}
use Rattle.base_core.specs.Block.{block_bytes}
use Rattle.flash_core.specs.{Told.Told, Touches.TouchesOnly, May.Guards}
use Rattle.flash_core.specs.declared.flash.FlashStop.TheVariants as flash_stop
use Rattle.fwu_formats.specs.{Digests.passes_any, Layout.find_image, Metadata.MetaRead, Metadata.bit_at}
use Rattle.fwu_model.specs.{declared.kinds.Status.Status, State.State, State.after, Sound.Setting, Session.On, Session.no_handles}
use Rattle.fwu_model.specs.{Call.Call, Reply.Reply, Reply.Refused, Reply.Success, Calm.IsCalm, MoveMetas.meta_after}
use Rattle.fwu_model.specs.Answer.{answer, migrate_moves}
use Rattle.fwu_model.specs.declared.kinds.Status.TheVariants as status
use Rattle.fwu_model.specs.Call as call
use Rattle.fwu_model.specs.State as move
use Rattle.moves.specs.Moved.{Does, IsShown}
use Rattle.early_boot.specs.Started.{Started, started_session}
use Rattle.early_boot.specs.TakenUp.{TakenByNumbers, TakenUp, TakeUpEnds, taken, bad_layout, no_metadata, not_started, stopped}
use Rattle.agent_machine.specs.{declared.stop.Stop.Stop, Deciding.KeepsOldOrNew, Meets.IsRefused, Meets.flash_result}
use Rattle.agent_machine.specs.Beside.{IsSparedByAll, KeepsWhere}
use Rattle.agent_machine.specs.declared.stop.Stop.TheVariants as stop
use Rattle.step_flash.specs.{declared.step.Step.Step, declared.flash.StepFlash.StepFlash, Flash.told_of, Flash.writes_of}
use Rattle.step_flash.specs.{Guard.start_with, Writes.LiesWithin}
use Rattle.fwu_c.specs.{Agents.MovesByAnswer, Reports.fault_code, declared.calling.AgentCall.AgentCall, declared.report.Report.Report}
use Rattle.fwu_c.specs.{Handed.IsMadeBy, Handed.KeepsReport, Handed.call_reach, Reports.ReportsStart, Reports.SameBut}
use Rattle.fwu_c.specs.declared.calling.AgentCall.TheVariants.{Accept, Previous}

-- ---- numbers

-- of the taking up; 21: no boot started the bank
abbrev pub take_up_code : TakenUp → ℕ
take_up_code (taken b) = 0
take_up_code (bad_layout f) = 1
take_up_code no_metadata = 2
take_up_code not_started = 21
take_up_code (stopped flash_stop.Lost) = 4
take_up_code (stopped flash_stop.Failed) = 5

-- of a refusal (DEN0118); accept and previous have DENIED and UNKNOWN alone
abbrev pub status_code : Status → ℕ
status_code status.Denied = 16
status_code status.AuthFail = 17
status_code status.Unknown = 20
status_code status.Busy = 22
status_code status.OutOfBounds = 23
status_code status.NotAvailable = 24

-- 0: done
abbrev pub call_code : Result (Unit {0}) Stop → ℕ
call_code (Ok x) = 0
call_code (Err (stop.Status st)) = status_code st
call_code (Err stop.Lost) = 4
call_code (Err stop.Fault) = 5
call_code (Err stop.Gone) = 7

-- ---- the bank is taken up

-- each end has its own fields; the bank is told as a boot tells it
abbrev pub ReportsTakeUp : TakenUp → Report → Report → Type 0
ReportsTakeUp (taken b) old r = ReportsStart b r
ReportsTakeUp (bad_layout f) old r = r.layout_fault ≡ fault_code f
ReportsTakeUp (stopped why) old r = SameBut old r
ReportsTakeUp other old r = ⊤

-- It is taken up or refused so, with this number and report, and the device came back.
pub record TakesUp (bank : ℕ) (end : TakenUp) (number : ℕ) (first left : StepFlash) (old r : Report) : Type 0 where
  pub number_is : number ≡ take_up_code end
  pub ends : TakeUpEnds (λ m. passes_any m) bank (told_of first) end (told_of left)
  pub runs : TakenByNumbers (λ m. passes_any m) bank end
  pub reports : ReportsTakeUp end old r
  pub kept : KeepsReport number old r
  -- steps are told and not done, so no power is lost
  pub unlost : number ≢ 4
  pub touches : TouchesOnly block_bytes call_reach (writes_of first) (writes_of left)

-- ---- the call

-- as the model has it
abbrev pub call_of : AgentCall → Call
call_of (Accept guid) = call.Accepts guid
call_of Previous = call.Previous

-- the machine's reply; at a stop of the flash there is none
abbrev pub RepliesAs : Result (Unit {0}) Stop → Reply → Type 0
RepliesAs (Ok x) r = r ≡ Success
RepliesAs (Err (stop.Status st)) r = r ≡ Refused st
RepliesAs (Err stop.Fault) r = ⊤
RepliesAs (Err other) r = ⊥

-- by what the boot told, it accepts an image that is accepted already
abbrev pub IsAccepted : Call → Started → Type 0
IsAccepted (call.Accepts guid) b =
    (image : ℕ) × (find_image b.layout.rows guid ≡ Some image) × IsTrue (bit_at b.meta.meta b.meta.meta.active image)
IsAccepted other b = ⊥

-- what the call makes of the metadata that the boot told; where there is no such image it is as it was
abbrev pub meta_made : Call → Started → MetaRead
meta_made (call.Accepts guid) b =
    unwrap_or (option_map (λ image. record b.meta { meta = meta_after b.meta.meta (move.Accept image) })
    (find_image b.layout.rows guid)) b.meta
meta_made call.Previous b = record b.meta { meta = meta_after b.meta.meta move.Back }
meta_made other b = b.meta

-- The call was made in the session behind a boot of the bank.
pub record CallsFrom (c : Call) (b : Started) (result : Result (Unit {0}) Stop) (old t : Told) : Type 0 where
  pub answers : (E : Setting) (s : State) → E.layout ≡ b.layout → E.passes ≡ (λ m. passes_any m) → IsShown b.layout old.now s
      → MovesByAnswer (RepliesAs result) E s (answer E s (started_session b) c) (flash_result result) old t
  -- what is refused, and what is accepted again, changes nothing
  pub refused : IsRefused result → t ≡ old
  pub again : IsAccepted c b → t ≡ old
  -- on any flash, at any exit: nothing changed but blocks 1 to 3, and the bank behind the one that was started
  pub keeps : KeepsWhere (IsSparedByAll b.layout b.bank) old t
  -- from a flash at rest, sound or not, at any exit: in each image that a loss leaves the boot's metadata decides, or what the call
  -- makes of it
  pub decides : KeepsOldOrNew b.layout b.meta (meta_made c b) old t

-- ---- all of it

-- From what the taking up left the call is made.
pub record MakesCall (image : List ℕ) (bank : ℕ) (c : Call) (b : Started) (number : ℕ) (mid t : Told) : Type 0 where
  pub result : Result (Unit {0}) Stop
  pub number_is : number ≡ call_code result
  pub calls : CallsFrom c b result mid t
  -- both, from a calm image: each loss leaves the state after a prefix of all the moves
  pub does : (E : Setting) (s : State) → E.passes ≡ (λ m. passes_any m) → IsCalm E (start_with image []) s
      → Guards 1 7 (start_with image [])
      → Does (flash_result result) E s
      (migrate_moves s ++ (answer E (after s (migrate_moves s)) (On bank None no_handles) c).moves) t

-- where the bank was not taken up, nothing more is done
abbrev pub CallEnds : List ℕ → ℕ → Call → TakenUp → ℕ → Told → Told → Type 0
CallEnds image bank c (taken b) number mid t = MakesCall image bank c b number mid t
CallEnds image bank c other number mid t = (number ≡ take_up_code other) × (t ≡ mid)

-- From the image it takes up the bank as the definitions say, and makes the call. What the flash then tells is what the steps make
-- of the image.
pub record CallsBy (image : List ℕ) (bank : ℕ) (c : Call) (number : ℕ) (old r : Report) (steps : List Step)
    (room : List ℕ) : Type 0 where
  pub end : TakenUp
  pub mid : Told
  pub takes : TakeUpEnds (λ m. passes_any m) bank (start_with image []) end mid
  -- also by the numbers that are told, and whether it is the fallback
  pub runs : TakenByNumbers (λ m. passes_any m) bank end
  pub t : Told
  pub ends : CallEnds image bank c end number mid t
  -- without a package: so no step is a copy
  pub made : IsMadeBy image [] r steps room t
  -- each lies in blocks 1 and 2, and so in no bank
  pub places : All (LiesWithin block_bytes call_reach) (take r.steps steps)
  -- by the numbers before the call
  pub reports : ReportsTakeUp end old r
