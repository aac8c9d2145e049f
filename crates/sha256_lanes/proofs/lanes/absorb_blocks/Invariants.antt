use Rattle.std.proofs.Common.{ℕ, List, ◌++◌, ◌*◌, ◌≤◌, ◌<◌, length, take}
use Rattle.sha256_lanes.specs.{Holding.IsOfBlocks, Lanes.lane, Lanes.of_four}
use Rattle.sha256_lanes.proofs.lanes.absorb_blocks.Given as goal

abbrev pub invariant-pieces : goal.invariant-pieces
invariant-pieces l = (64 * l.i ≤ length l.a) × ((j : ℕ) → j < 4 → (m : List ℕ) → IsOfBlocks (lane j l.fn.state) m
    → IsOfBlocks (lane j l.state) (m ++ take (64 * l.i) (of_four l.a l.b l.c l.d j)))
