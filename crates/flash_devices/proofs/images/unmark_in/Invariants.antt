use Rattle.std.proofs.Common.{◌≡◌, ℕ, ◌<◌, false, slice_index_or}
use Rattle.flash_devices.proofs.images.unmark_in.Given as goal

abbrev pub invariant-loop-granule : goal.invariant-loop-granule
invariant-loop-granule l = (j : ℕ) → j < l.granule-index → slice_index_or l.marks j false ≡ false
