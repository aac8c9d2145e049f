use Rattle.std.proofs.Common.{◌≡◌, ℕ, ◌<◌, length, slice_index}
use Rattle.sha2.specs.Sha256.{schedule}
use Rattle.sha256_lanes.specs.Lanes.{lane, of_four}
use Rattle.sha256_lanes.proofs.schedule.words_of_block.Given as goal

abbrev pub invariant-loop-t : goal.invariant-loop-t
invariant-loop-t l = (length l.w ≡ 64)
    × ((j : ℕ) → j < 4 → (k : ℕ) → k < l.t → slice_index (lane j l.w) k ≡ slice_index (schedule (of_four l.a l.b l.c l.d j) 48) k)
