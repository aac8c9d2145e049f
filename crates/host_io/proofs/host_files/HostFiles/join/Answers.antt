use Rattle.std.proofs.Common.{arith}
use Rattle.host_io.proofs.Joins.{joined-all, none-joined, ok-as, one-more-joined}
use Rattle.host_io.proofs.host_files.HostFiles.join.Goals as goal

pub loop-piece-init : goal.loop-piece-init
loop-piece-init g c = none-joined _ c.args.frame.now c.args.pieces.now

pub loop-piece-preserved : goal.loop-piece-preserved
loop-piece-preserved g c =
    one-more-joined _ _ _ c.args.frame.now c.loop-piece.left.now c.in_ok-left.left.now c.args.pieces.now c.loop-piece.piece-index _ c.loop-piece-test.true c.loop-piece.invariant c.in_ok-left.ensures.added c.in_ok-left.ensures.left

pub returns : goal.returns
returns g c = record {
  joined =
      ok-as c.put.result (joined-all _ _ _ c.args.frame.now c.loop-piece.left.now c.args.pieces.now c.loop-piece.piece-index (omega (arith, c.loop-piece-test.false)) c.loop-piece.invariant) c.put.ensures;
}
