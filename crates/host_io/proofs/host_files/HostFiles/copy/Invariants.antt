use Rattle.std.proofs.Common.{◌-◌, ◌<◌, ◌≤◌}
use Rattle.host_io.specs.Joined.{AppendsSome}
use Rattle.host_io.proofs.host_files.HostFiles.copy.Given as goal

abbrev pub invariant-loop-left : goal.invariant-loop-left
invariant-loop-left g l = record {
  within : l.left ≤ l.piece.count;
  some : 0 < l.most;
  most : l.most ≤ 65536;
  so-far : AppendsSome (g.W.Write.contents l.fn.into) (g.W.Write.contents l.into) (l.piece.count - l.left);
}

abbrev pub decreases-loop-left : goal.decreases-loop-left
decreases-loop-left g l = l.left
