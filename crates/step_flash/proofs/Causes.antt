-- Why a device stops.
use Rattle.std.proofs.Common.{inl, inr, arith}
use Rattle.std.specs.Prelude.{Result, IsErrOf}
use Rattle.flash_core.specs.{Counts.Spends, declared.flash.FlashStop.FlashStop, declared.flash.FlashStop.TheVariants.Lost}
use Rattle.step_flash.specs.{declared.flash.StepFlash.StepFlash, Flash.counts_of}

-- No call on a device of steps ends in a loss of power.
pub never_lost : {T : Type 0} (result : Result T FlashStop) (old new : StepFlash) → Spends result (counts_of old) (counts_of new) → IsErrOf result Lost → ⊥
never_lost result old new spends lost = elim (spends.lost lost) [
  | inl cut ↦ elim cut [
    | inl more ↦ omega (arith, more)
    | inr full ↦ omega (arith, full)
  ]
  | inr reached ↦ elim reached [
    | inl more ↦ omega (arith, more)
    | inr full ↦ omega (arith, full)
  ]
]
