use Rattle.std.proofs.Common.{◌≡◌, ℕ, length, get_or}
use Rattle.step_flash.proofs.Slices.{laid_byte}
use Rattle.step_flash.proofs.overlay.overlay.Given as goal

abbrev pub invariant-loop-i : goal.invariant-loop-i
invariant-loop-i l = (length l.out ≡ length l.fn.out) × ((k : ℕ) → get_or l.out k 0 ≡ laid_byte l.i l.at l.place l.bytes l.fn.out k)
