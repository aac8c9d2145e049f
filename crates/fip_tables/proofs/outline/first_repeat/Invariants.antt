use Rattle.std.proofs.Common.{◌≡◌, ◌<◌, ℕ, false}
use Rattle.fip_tables.specs.Packing.{is_repeat}
use Rattle.fip_tables.proofs.outline.first_repeat.Given as goal

abbrev pub invariant-loop-i : goal.invariant-loop-i
invariant-loop-i l = (k : ℕ) → k < l.i → is_repeat l.parts k ≡ false
