use Rattle.host_io.proofs.Joins.{JoinedSome}
use Rattle.host_io.proofs.host_files.HostFiles.join.Given as goal

abbrev pub invariant-loop-piece : goal.invariant-loop-piece
invariant-loop-piece g l = JoinedSome (g.W.Write.contents l.fn.into) (g.W.Write.contents l.into) l.frame l.left l.pieces l.piece-index
