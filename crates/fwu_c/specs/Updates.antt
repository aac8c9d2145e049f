-- What C is told of an update.
use Rattle.std.specs.Prelude.{◌≡◌, ◌≢◌, ◌⊎◌, ℕ, ◌+◌, ◌*◌, ◌%◌, All, List, take, Some, IsTrue, ⊤}
use Rattle.base_core.specs.Block.{block_bytes}
use Rattle.flash_core.specs.{Told.Told, Touches.TouchesOnly}
use Rattle.fwu_formats.specs.{Digests.passes_any, Places.counter_block, Places.first_record, Layout.start}
use Rattle.fwu_model.specs.{State.State, State.bank, State.is_valid, Seen.seen}
use Rattle.early_boot.specs.{Ends.Ended, Ends.booted, EndsBy.BootEnds, EndsBy.TouchesBoot}
use Rattle.agent_machine.specs.Beside.{IsSparedByAll, SparesBlocksWhere}
use Rattle.step_flash.specs.{declared.step.Step.Step, declared.flash.StepFlash.StepFlash, Flash.told_of, Flash.writes_of}
use Rattle.step_flash.specs.{Guard.start_with, Writes.LiesBeside, Writes.LiesWithin, Writes.writes_in}
use Rattle.fwu_c.specs.{Reports.end_code, Handed.IsMadeBy, Handed.KeepsReport, Handed.boot_reach, Reports.ReportsEnd}
use Rattle.fwu_c.specs.{Sendings.SendOutcome, Sendings.InstallsBy, Sendings.outcome_code, declared.report.Report.Report}

-- the image shows an active bank that is on trial
abbrev pub IsOnTrial : List ℕ → Type 0
IsOnTrial image = (s : State) × (seen image ≡ Some s) × IsTrue (is_valid (bank s s.active).state)

-- How the boot in an update ends, with its number and report, and the device that it left.
pub record BootsUp (end : Ended) (number : ℕ) (first left : StepFlash) (old r : Report) : Type 0 where
  pub number_is : number ≡ end_code end
  pub ends : BootEnds (λ m. passes_any m) (told_of first) end (told_of left)
  pub reports : ReportsEnd end old r
  pub kept : KeepsReport number old r
  -- steps are told and not done, so no power is lost
  pub unlost : number ≢ 4
  pub touches : TouchesOnly block_bytes boot_reach (writes_of first) (writes_of left)
  pub touches_fewer : TouchesBoot end (writes_of first) (writes_of left)

-- Where the boot started a bank, the package is tried from what it left. Else nothing more is done.
abbrev pub UpdateEnds : List ℕ → ℕ → Ended → ℕ → Told → Told → Type 0
UpdateEnds file request (booted b n) number mid t =
    (outcome : SendOutcome) × (number ≡ outcome_code outcome) × InstallsBy file request b outcome mid t
UpdateEnds file request other number mid t = (number ≡ end_code other) × (t ≡ mid)

-- A step but a barrier lies in blocks 1 to 6. Where the boot started a bank, it may lie in the bank behind that one, too.
abbrev pub LiesInUpdate : Ended → Step → Type 0
LiesInUpdate (booted b n) s =
    let next = (b.bank + 1) % b.layout.banks in
    LiesWithin block_bytes boot_reach s
    ⊎ LiesWithin (block_bytes * start b.layout next 0) (block_bytes * start b.layout (next + 1) 0) s
LiesInUpdate other s = LiesWithin block_bytes boot_reach s

-- and outside the bank that the boot started
abbrev pub SparesInUse : Ended → List Step → Type 0
SparesInUse (booted b n) steps =
    All (LiesBeside (block_bytes * start b.layout b.bank 0) (block_bytes * start b.layout (b.bank + 1) 0)) steps
SparesInUse other steps = ⊤

-- which blocks are erased or programmed behind the boot: where it started a bank, blocks 1 to 3 and the bank behind that one
abbrev pub TouchesBehind : Ended → (ℕ → ℕ) → (ℕ → ℕ) → Type 0
TouchesBehind (booted b n) mid writes = SparesBlocksWhere (IsSparedByAll b.layout b.bank) mid writes
TouchesBehind other mid writes = writes ≡ mid

-- Of the blocks of a boot the steps erase or program, by how it ends, fewer or none, and then those behind it.
abbrev pub TouchesUpdate : Ended → (ℕ → ℕ) → Type 0
TouchesUpdate e writes = (mid : ℕ → ℕ) × TouchesBoot e (λ k. 0) mid × TouchesBehind e mid writes

-- From the image it boots as the definitions say, and tries the package. What the flash then tells is what the steps make of the
-- image.
pub record UpdatesBy (image file : List ℕ) (request number : ℕ) (old r : Report) (steps : List Step)
    (room : List ℕ) : Type 0 where
  pub end : Ended
  pub mid : Told
  pub boots : BootEnds (λ m. passes_any m) (start_with image file) end mid
  pub t : Told
  pub ends : UpdateEnds file request end number mid t
  pub made : IsMadeBy image file r steps room t
  -- where the steps lie
  pub places : All (LiesInUpdate end) (take r.steps steps)
  -- none meets the bank in use
  pub spared : SparesInUse end (take r.steps steps)
  -- nor block 4, which has the counter's marks
  pub beside_marks : All (LiesBeside (block_bytes * counter_block) (block_bytes * first_record)) (take r.steps steps)
  -- and of these blocks fewer or none
  pub touches_fewer : TouchesUpdate end (writes_in (take r.steps steps))
  -- the bank that the boot started is told as a boot tells it
  pub reports : ReportsEnd end old r
