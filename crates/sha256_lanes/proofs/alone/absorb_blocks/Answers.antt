use Rattle.std.proofs.Common.{◌≡◌, ◌+◌, ◌-◌, ◌*◌, ◌≤◌, ℕ, length, take, drop, ap, arith}
use Rattle.sha256_lanes.proofs.Blocks.{block_more}
use Rattle.sha256_lanes.proofs.alone.absorb_blocks.Goals as goal

pub pieces-preserved : goal.pieces-preserved
pieces-preserved c =
    let at = 64 * c.pieces.i in
    let next : 64 * (c.pieces.i + 1) ≡ at + 64 = omega arith in
    let width : at + 64 - at ≡ 64 = omega arith in (
      omega arith,
      λ m held.
          rw (next, c.compress.ensures)
          (block_more c.pieces.words m c.args.piece.now _ at
          (c.pieces.invariant.1 m held) (omega arith) (ap (λ (n : ℕ). take n (drop at c.args.piece.now)) width)),
    )
