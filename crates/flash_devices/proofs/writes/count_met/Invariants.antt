use Rattle.std.proofs.Common.{◌≡◌, ◌⊎◌, ℕ, ◌<◌, ◌≤◌, slice_index}
use Rattle.flash_devices.specs.Meters.{following}
use Rattle.flash_devices.proofs.writes.count_met.Given as goal

-- those that were come to, and those that were not
abbrev pub invariant-loop-b : goal.invariant-loop-b
invariant-loop-b l = record {
  met : (j : ℕ) → l.first ≤ j → j < l.b → slice_index l.all j ≡ following (slice_index l.initial.all j);
  beside : (j : ℕ) → (j < l.first) ⊎ (l.b ≤ j) → slice_index l.all j ≡ slice_index l.initial.all j;
}
