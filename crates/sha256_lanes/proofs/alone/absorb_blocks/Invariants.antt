use Rattle.std.proofs.Common.{ℕ, List, ◌++◌, ◌*◌, ◌≤◌, length, take}
use Rattle.sha256_lanes.specs.Holding.{IsOfBlocks}
use Rattle.sha256_lanes.proofs.alone.absorb_blocks.Given as goal

abbrev pub invariant-pieces : goal.invariant-pieces
invariant-pieces l = (64 * l.i ≤ length l.piece)
    × ((m : List ℕ) → IsOfBlocks l.fn.words m → IsOfBlocks l.words (m ++ take (64 * l.i) l.piece))
