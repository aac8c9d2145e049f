use Rattle.std.proofs.Common.{arith}
use Rattle.host_io.proofs.Joins.{appends-more}
use Rattle.host_io.proofs.host_files.HostFiles.copy.Goals as goal

pub loop-left-preserved : goal.loop-left-preserved
loop-left-preserved g c = record {
  within = omega (arith, c.loop-left.invariant.within);
  some = omega arith;
  most = omega arith;
  so-far = appends-more _ _ _ _ _ _ c.loop-left.invariant.so-far c.in_ok-copy_piece.ensures.copied (omega (arith, c.loop-left.invariant.within, c.min-size.ensures));
}
