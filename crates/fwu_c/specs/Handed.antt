-- The steps of a device, as they were handed over.
use Rattle.std.specs.Prelude.{◌≡◌, ◌≢◌, ◌↔◌, ◌⊎◌, ◌≤◌, ◌*◌, ◌==◌, ◌||◌, true, All, Bool, ℕ, List, [], None, IsTrue, drop, length, take}
use Rattle.base_core.specs.Block.{block_bytes, fewest_blocks, most_blocks}
use Rattle.flash_core.specs.Told.{Told}
use Rattle.step_flash.specs.{declared.step.Step.Step, declared.flash.StepFlash.StepFlash, declared.flash.Unmade.Unmade}
use Rattle.step_flash.specs.{Device.LieAsCounted, Guard.start_with, Steps.under_as, Writes.LiesWithin}
use Rattle.step_flash.specs.declared.flash.Unmade.TheVariants.{NoFlash, NoMemory}
use Rattle.step_flash.specs.Flash.{device_in, image_of, is_on, package_of, steps_of, told_of}
use Rattle.step_flash.specs.Steps.{AreDoable, IsInsideWith, room_bytes, run_with}
use Rattle.fwu_c.specs.{Reports.SameBut, declared.report.Report.Report}

-- A boot writes blocks 1 to 6 alone: the replicas, the marks of its starts and the records of the counter.
abbrev pub boot_reach : ℕ
boot_reach = 28672

-- A call of the agent writes blocks 1 and 2 alone, the replicas.
abbrev pub call_reach : ℕ
call_reach = 12288

-- What a flash tells is what the steps that are told make of an image, with the bytes of copies from a package. Whether an
-- operation beyond them is under way is not said here.
pub record IsMadeBy (image file : List ℕ) (r : Report) (steps : List Step) (room : List ℕ) (t : Told) : Type 0 where
  pub left : t ≡ under_as t.under (run_with file (take r.bytes room) (start_with image file) (take r.steps steps))
  -- so many steps and bytes are there
  pub steps_fit : r.steps ≤ length steps
  pub bytes_fit : r.bytes ≤ length room
  -- each step lies within the flash, and its bytes within those of the room, or at a copy within the package
  pub inside : All (IsInsideWith (length file) r.bytes (length image)) (take r.steps steps)
  -- no byte is counted but those of the programs
  pub theirs : r.bytes ≡ room_bytes (take r.steps steps)
  -- an erase takes a block; a program or a copy goes over whole granules, which are erased when its turn comes
  pub doable : AreDoable file (take r.bytes room) (start_with image file) (take r.steps steps)

-- The steps that are reported make of the device's image what it tells, and lie where it counts them. The rest of the report is
-- what was to be told.
pub record HandsOver (d : StepFlash) (told r : Report) (steps : List Step) (room : List ℕ) : Type 0 where
  pub made : IsMadeBy (image_of d) (package_of d) r steps room (told_of d)
  pub same : SameBut told r
  pub lie : LieAsCounted (device_in d) (take r.steps steps)

-- there is no layout or no metadata, or no boot started the bank
abbrev pub is_idle_number : ℕ → Bool
is_idle_number number = number == 1 || number == 2 || number == 21

-- A device was just made over its image, with this package: it is on, no loss is armed, and it has noted nothing.
pub record IsJustMade (file : List ℕ) (d : StepFlash) : Type 0 where
  pub on : is_on d ≡ true
  pub unarmed : (device_in d).arming ≡ None
  pub fresh : told_of d ≡ start_with (image_of d) file
  pub steps : steps_of d ≡ []

-- there is no device over the image: it is no flash, or memory is wanting
abbrev pub unmade_code : Unmade → ℕ
unmade_code NoFlash = 6
unmade_code NoMemory = 7

-- the bytes are those of 8 to 65,536 blocks
pub record HasFlashSize (image : List ℕ) : Type 0 where
  pub blocks : ℕ
  pub fewest : fewest_blocks ≤ blocks
  pub most : blocks ≤ most_blocks
  pub size : length image ≡ block_bytes * blocks

-- The report's fault is written at 1 alone. At 1, 2 and 21 nothing else is but the numbers of steps and of bytes, and at 3 these
-- and the banks.
pub record KeepsReport (number : ℕ) (old new : Report) : Type 0 where
  pub fault : number ≢ 1 → new.layout_fault ≡ old.layout_fault
  pub idle : IsTrue (is_idle_number number) → SameBut (record old { layout_fault = new.layout_fault }) new
  pub none : number ≡ 3 → SameBut (record old { active = new.active; previous = new.previous }) new

-- What each call that tells steps promises, whatever it is asked for: of what C handed in, and has then.
pub record TellsSteps (image : List ℕ) (number : ℕ) (old : Report) (old_steps : List Step) (old_room : List ℕ) (new : Report)
    (steps : List Step) (room : List ℕ) : Type 0 where
  -- steps are told and not done, so no power is lost
  pub unlost : number ≢ 4
  -- where there is no layout or no metadata, or no boot started the bank, no step is told, and no byte
  pub idle : IsTrue (is_idle_number number) → (new.steps ≡ 0) × (new.bytes ≡ 0)
  -- which of the other fields stay
  pub kept : KeepsReport number old new
  -- no step that is told writes block 0, the layout
  pub spared : number ≢ 6 → number ≢ 7 → All (LiesWithin block_bytes (length image)) (take new.steps steps)
  -- what stands behind those that are told stays as it was
  pub behind : (drop new.steps steps ≡ drop new.steps old_steps) × (drop new.bytes room ≡ drop new.bytes old_room)
  -- at 5 as many steps are told as there is room for
  pub full : number ≡ 5 → new.steps ≡ length old_steps
  -- 6 comes of all bytes that are no flash, and of no others
  pub no_flash : (number ≡ 6) ↔ (HasFlashSize image → ⊥)
  -- and nothing is written then, or where room or memory is wanting
  pub untouched : (number ≡ 6) ⊎ (number ≡ 7) → (new ≡ old) × (steps ≡ old_steps) × (room ≡ old_room)

-- 6 and 7 tell nothing
abbrev pub TellsAnswer : ℕ → Type 0
TellsAnswer number = (number ≢ 6) × (number ≢ 7)

-- With this number a call over a device comes to the handing over: no power was lost, and 6 and 7 aren't known yet.
abbrev pub IsDeviceEnd : ℕ → Type 0
IsDeviceEnd number = (number ≢ 4) × TellsAnswer number
