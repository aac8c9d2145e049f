use Rattle.std.proofs.Common.{◌≤◌, arith, length-take, vec_len}
use Rattle.host_io.proofs.Pieces.{front_kept}
use Rattle.host_io.proofs.host_files.HostFiles.append.Goals as goal

-- one more piece behind what was read
pub loop-left-preserved : goal.loop-left-preserved
loop-left-preserved g c =
    let kept = c.loop-left.invariant in
    let old = vec_len c.args.out.now in
    let filled = vec_len c.loop-left.out in
    let shorter : old ≤ filled = omega arith in record {
      front = front_kept old filled c.args.out.now.items c.loop-left.out.items c.read_piece.new.out.items shorter c.read_piece.ensures.front kept.front;
      rest = omega (arith, c.in_ok-read_piece.ensures.grown, length-take c.min-size.result c.loop-left.piece);
      within = omega arith;
      capacity = omega arith;
    }
