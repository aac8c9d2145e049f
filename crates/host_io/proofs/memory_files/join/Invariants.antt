use Rattle.host_io.specs.Contents.{bytes_in, pairs_of}
use Rattle.host_io.proofs.Joins.{AreJoined}
use Rattle.host_io.proofs.memory_files.join.Given as goal

abbrev pub invariant-loop-piece : goal.invariant-loop-piece
invariant-loop-piece l = AreJoined (bytes_in (pairs_of l.files)) l.frame l.pieces l.bytes.items l.left l.piece-index
