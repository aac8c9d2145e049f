-- What came of a package in memory, on a flash whose bank was started.
use Rattle.std.specs.Prelude.{◌≡◌, ℕ, ◌==◌, List, length, replicate, Option, Some, None, Result, Ok, Err, IsErr, OnOk, ⊤}
use Rattle.flash_core.specs.{Told.Told, declared.flash.Flash.Ghosts}
use Rattle.fwu_formats.specs.{Digests.passes_any, Package.Toc, Package.toc_of}
use Rattle.fwu_model.specs.{State.State, Sound.Setting, Reply.Reply, Answer.first_image_fault, Answer.images_of}
use Rattle.fwu_model.specs.Reply as reply
use Rattle.moves.specs.Moved.{IsShown}
use Rattle.early_boot.specs.Started.{Started, started_session}
use Rattle.agent_machine.specs.Beside.{IsSparedByAll, KeepsWhere, SparesBlocksByAll}
use Rattle.agent_calls.specs.{Shown.device, Shown.gone, Shown.moment, declared.agent.Agent.Agent}
use Rattle.step_flash.specs.{declared.flash.StepFlash.StepFlash, Flash.told_of, Flash.writes_of}
use Rattle.fwu_c.specs.{Agents.BeginsAgent, Agents.MovesByAnswer, Handed.IsDeviceEnd}
use Rattle.update_client.specs.{declared.stops.Sent.Sent, declared.stops.SendStop.SendStop, Halts.flash_of}
use Rattle.update_client.specs.declared.stops.SendStop.TheVariants.{MissingImage, ImageTooLarge, Begin, End, ReadFailed, Lost, Fault, Gone}
use Rattle.update_client.specs.Sends.{FaultsBy, IsEarlySend, IsInstalled, send_answer}

-- none where the bytes are no package
abbrev pub SendOutcome : Type 0
SendOutcome = Option (Result Sent SendStop)

-- 0: installed; 16: no staging may begin; 17: what was staged may not be installed; 19: an image is missing or too large
abbrev pub sent_code : Result Sent SendStop → ℕ
sent_code (Ok sent) = 0
sent_code (Err (MissingImage guid)) = 19
sent_code (Err (ImageTooLarge guid)) = 19
sent_code (Err (Begin st)) = 16
sent_code (Err (End st)) = 17
sent_code (Err ReadFailed) = 7
sent_code (Err Lost) = 4
sent_code (Err Fault) = 5
sent_code (Err Gone) = 7

-- 18: no package
abbrev pub outcome_code : SendOutcome → ℕ
outcome_code None = 18
outcome_code (Some result) = sent_code result

-- the machine's reply; at a stop of the flash there is none
abbrev pub RepliesAs : Result Sent SendStop → Reply → Type 0
RepliesAs (Ok sent) r = r ≡ reply.Sent sent.images sent.skipped
RepliesAs (Err (MissingImage guid)) r = r ≡ reply.Missing guid
RepliesAs (Err (ImageTooLarge guid)) r = r ≡ reply.TooLarge guid
RepliesAs (Err (Begin st)) r = r ≡ reply.BeginRefused st
RepliesAs (Err (End st)) r = r ≡ reply.EndRefused st
RepliesAs (Err Fault) r = ⊤
RepliesAs (Err other) r = ⊥

-- The package, a file of these bytes, was sent to the machine that the boot left.
pub record SendsPackage (file : List ℕ) (request : ℕ) (b : Started) (result : Result Sent SendStop) (old t : Told) : Type 0 where
  pub toc : Toc
  pub table : toc_of file ≡ Ok toc
  -- a missing or too large image comes exactly by the table and the layout
  pub faults : FaultsBy (first_image_fault b.layout.rows toc) result
  pub answers : (E : Setting) (s : State) → E.layout ≡ b.layout → E.passes ≡ (λ m. passes_any m) → IsShown b.layout old.now s
      → MovesByAnswer (RepliesAs result) E s
      (send_answer E toc (images_of b.layout.rows file toc) request s (started_session b)) (flash_of result) old t
  -- where an image is missing or too large, and where the begin is refused, nothing changes
  pub early : IsEarlySend result → t ≡ old
  -- the flash shows a state whose update bank was made active and holds the images, all of them accepted or none
  pub installs : OnOk result ((s : State) → IsShown b.layout old.now s → (now : State) × IsShown b.layout t.now now
      × IsInstalled (images_of b.layout.rows file toc) (replicate (length b.layout.rows) (request == 0)) s now)
  -- on any flash that shows a state, at any exit: nothing changed but blocks 1 to 3, and the bank behind the one that was
  -- started
  pub keeps : (s : State) → IsShown b.layout old.now s → KeepsWhere (IsSparedByAll b.layout b.bank) old t

abbrev pub InstallsBy : List ℕ → ℕ → Started → SendOutcome → Told → Told → Type 0
InstallsBy file request b None old t = IsErr (toc_of file) × (t ≡ old)
InstallsBy file request b (Some result) old t = SendsPackage file request b result old t

-- What an agent made of a package, and the device that it left.
pub record TriesBy {F : Ghosts StepFlash} (file : List ℕ) (request : ℕ) (a : Agent StepFlash F) (left : StepFlash)
    (outcome : SendOutcome) : Type 0 where
  -- where it began with a bank that was started
  pub installs : (b : Started) → BeginsAgent b (moment a) (gone a)
      → InstallsBy file request b outcome (told_of (device a)) (told_of left)
  pub ends : IsDeviceEnd (outcome_code outcome)
  -- no block is erased or programmed but 1 to 3, and those of the bank behind the one that was started
  pub touches : SparesBlocksByAll (moment a).fields (writes_of (device a)) (writes_of left)
