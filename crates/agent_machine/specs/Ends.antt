-- What a commit and the end of a staging do on the flash.
use Rattle.std.specs.Prelude.{◌≡◌, ◌⊎◌, ℕ, ◌-◌, ◌≤◌, Bool, true, false, Option, Ok, Result, IsErr}
use Rattle.flash_core.specs.{declared.flash.Arming.Arming, declared.flash.FlashStop.FlashStop, Counts.lowered, Told.Told}
use Rattle.fwu_formats.specs.{Layout.Layout, Metadata.Meta}
use Rattle.marks_core.specs.Marks.{Clears}
use Rattle.replicas.specs.Stores.{Stores}
use Rattle.agent_kept.specs.{declared.parts.Handle.TheVariants.Writes, Kept.handle_kept}
use Rattle.agent_machine.specs.Fields.{Fields}

-- a handle of a number from 1 on writes an image
abbrev pub IsWriter : Fields → ℕ → ℕ → Type 0
IsWriter f number image = (1 ≤ number) × (handle_kept f.session (number - 1) ≡ Writes image)

-- The marks were cleared, and the metadata stored, or that was stopped; or the clear was stopped.
abbrev pub ClearsAndStores : {T : Type 0} → Result T FlashStop → Layout → Meta → Told → Told → Type 0
ClearsAndStores result L m s t =
    ((mid : Told) × Clears {T = Unit {0}} (Ok tt) 3 s mid × Stores result L m mid t) ⊎ (IsErr result × Clears result 3 s t)

-- What a switch takes of an arming: the two erases and two programs of a store, and before them an erase of the marks, or none.
abbrev pub TakesSwitch : Option Arming → Option Arming → Type 0
TakesSwitch armed arming =
    (arming ≡ lowered (lowered (lowered (lowered armed)))) ⊎ (arming ≡ lowered (lowered (lowered (lowered (lowered armed)))))

-- and by whether the block of the marks was blank
abbrev pub TakesSwitchBy : Bool → Option Arming → Option Arming → Type 0
TakesSwitchBy true armed arming = arming ≡ lowered (lowered (lowered (lowered armed)))
TakesSwitchBy false armed arming = arming ≡ lowered (lowered (lowered (lowered (lowered armed))))
