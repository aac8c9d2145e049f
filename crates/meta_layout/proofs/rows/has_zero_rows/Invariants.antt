use Rattle.std.proofs.Common.{◌≡◌, ℕ, ◌<◌, true}
use Rattle.meta_layout.specs.Rows.{has_zero}
use Rattle.meta_layout.proofs.rows.has_zero_rows.Given as goal

abbrev pub invariant-loop-index : goal.invariant-loop-index
invariant-loop-index l = (k : ℕ) → k < l.index → has_zero l.block k ≡ true
