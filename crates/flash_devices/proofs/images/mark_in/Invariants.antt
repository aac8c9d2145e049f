use Rattle.std.proofs.Common.{◌≡◌, ℕ, false, ◌&&◌, ◌||◌, nat_le, nat_lt, slice_index_or}
use Rattle.flash_devices.proofs.images.mark_in.Given as goal

abbrev pub invariant-loop-granule : goal.invariant-loop-granule
invariant-loop-granule l = (j : ℕ) → slice_index_or l.marks j false ≡ (nat_le l.from j && nat_lt j l.granule || slice_index_or l.initial.marks j false)
