use Rattle.std.proofs.Common.{◌≡◌, ◌+◌, ◌-◌, ◌*◌, ◌≤◌, length, arith}
use Rattle.sha256_lanes.specs.Lanes.{lane, of_four}
use Rattle.sha256_lanes.proofs.Blocks.{block_more, four_lengths, four_parts}
use Rattle.sha256_lanes.proofs.lanes.absorb_blocks.Goals as goal

pub pieces-preserved : goal.pieces-preserved
pieces-preserved c =
    let at = 64 * c.pieces.i in
    let next : 64 * (c.pieces.i + 1) ≡ at + 64 = omega arith in
    let width : at + 64 - at ≡ 64 = omega arith in (
      omega arith,
      λ j lt m held.
          let long = four_lengths c.args.a.now c.args.b.now c.args.c.now c.args.d.now c.requires.second c.requires.third c.requires.fourth j lt in
          rw (next, c.compress.ensures j lt)
          (block_more (lane j c.pieces.state) m (of_four c.args.a.now c.args.b.now c.args.c.now c.args.d.now j) _ at
          (c.pieces.invariant.1 j lt m held) (omega (arith, long)) (four_parts c.args.a.now c.args.b.now c.args.c.now c.args.d.now at _ width j lt)),
    )
