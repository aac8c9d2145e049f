use Rattle.std.proofs.Common.{◌≡◌, ℕ, ◌<◌, ◌≤◌, false}
use Rattle.base_core.specs.{Limits.fewest_banks, Seal.has_v1_checksum}
use Rattle.base_core.proofs.seal.is_v1_of_some.Given as goal

abbrev pub invariant-loop-banks : goal.invariant-loop-banks
invariant-loop-banks l = (k : ℕ) → fewest_banks ≤ k → k < l.banks → has_v1_checksum l.block k ≡ false
