use Rattle.std.proofs.Common.{◌≡◌, ℕ, ◌<◌, slice_index}
use Rattle.flash_devices.specs.Images.{left_byte}
use Rattle.flash_devices.proofs.images.leave_in.Given as goal

abbrev pub invariant-loop-i : goal.invariant-loop-i
invariant-loop-i l = (k : ℕ) → k < l.i → slice_index l.bytes k ≡ left_byte l.last l.now l.stable l.next l.granules k
