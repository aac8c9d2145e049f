-- Which blocks a repair may erase or program.
use Rattle.std.proofs.Common.{◌≡◌, ℕ, sym, subst}
use Rattle.flash_core.proofs.Touches.{touches_none}
use Rattle.replicas.specs.{Stores.TouchesRepair, declared.which.Which.Which}
use Rattle.replicas.specs.declared.which.Which.TheVariants.{Same, RepairZero, RepairOne}

-- where nothing was erased or programmed
pub touches-still : (which : Which) (old new : ℕ → ℕ) → new ≡ old → TouchesRepair which old new
touches-still Same old new same = same
touches-still RepairZero old new same = touches_none 4096 8192 same
touches-still RepairOne old new same = touches_none 8192 12288 same
touches-still other old new same = touches_none 4096 12288 same

-- what is to be done is this, and reads came before it
pub touches-as : (which this : Which) (old read new : ℕ → ℕ) → which ≡ this → read ≡ old → TouchesRepair this read new → TouchesRepair which old new
touches-as which this old read new is same only =
    subst (λ (w : Which). TouchesRepair w old new) (sym is) (subst (λ (from : ℕ → ℕ). TouchesRepair this from new) same only)
