-- What a flash tells: what its device does. And why none is made.
use Rattle.std.specs.Prelude.{◌≡◌, ◌*◌, ◌≤◌, ℕ, Bool, List, Option}
use Rattle.base_core.specs.Block.{block_bytes, fewest_blocks, most_blocks}
use Rattle.flash_core.specs.{Told.Told, declared.flash.Arming.Arming, declared.flash.Counts.Counts}
use Rattle.step_flash.specs.{declared.step.Step.Step, declared.flash.StepFlash.StepFlash, declared.flash.Unmade.Unmade}
use Rattle.step_flash.specs.declared.flash.Unmade.TheVariants.{NoFlash, NoMemory}
use Rattle.step_flash.specs.declared.device.StepDevice.{StepDevice}
use Rattle.step_flash.specs.Device as device

abbrev pub is_on : StepFlash → Bool
is_on d = d.device.value.on

-- power was not on again after a stop
abbrev pub is_live : StepFlash → Bool
is_live d = d.device.value.live

abbrev pub block_count : StepFlash → ℕ
block_count d = d.device.value.blocks

abbrev pub image_of : StepFlash → List ℕ
image_of d = d.device.value.image.now

-- the bytes in which the bytes of programs were looked for
abbrev pub package_of : StepFlash → List ℕ
package_of d = d.device.value.file.bytes.now

-- how many steps are noted at most
abbrev pub most_of : StepFlash → ℕ
most_of d = d.device.value.most

-- the image with the steps done, beside the operation that was stopped
abbrev pub told_of : StepFlash → Told
told_of d = device.told_of d.device.value

-- the loss that is armed, and where there is none a far one, so that what a call says of an armed loss counts its steps
abbrev pub arming_of : StepFlash → Option Arming
arming_of d = device.arming_of d.device.value

-- it may fail, and loses no power
abbrev pub counts_of : StepFlash → Counts
counts_of d = device.counts_of d.device.value

-- how often each block is erased or programmed by the steps that are noted
abbrev pub writes_of : StepFlash → ℕ → ℕ
writes_of d = device.writes_of d.device.value

-- the device in its own memory, of which the calls' promises speak
abbrev pub device_in : StepFlash → StepDevice
device_in d = d.device.value

-- the steps that are noted, in their order
abbrev pub steps_of : StepFlash → List Step
steps_of d = d.device.value.steps.items

-- the bytes of the programs that are no copies
abbrev pub room_of : StepFlash → List ℕ
room_of d = d.device.value.room.items

-- An image of so many bytes has not those of 8 to 65,536 blocks; or it has, and memory is said to be wanting.
abbrev pub IsUnmade : ℕ → Unmade → Type 0
IsUnmade n NoFlash = (b : ℕ) → fewest_blocks ≤ b → b ≤ most_blocks → n ≡ block_bytes * b → ⊥
IsUnmade n NoMemory = (b : ℕ) × (fewest_blocks ≤ b) × (b ≤ most_blocks) × (n ≡ block_bytes * b)
