use Rattle.std.proofs.Common.{◌≡◌, ℕ, length, take, drop}
use Rattle.std.specs.Io.KnownBytes.{Appends}
use Rattle.host_io.proofs.sink.StdSinkSink.put.Given as goal

-- what was written is the front of the piece
abbrev pub invariant-loop-rest : goal.invariant-loop-rest
invariant-loop-rest g l = ((n : ℕ) × Appends (g.W.Write.contents l.fn.self.inner) (g.W.Write.contents l.self.inner) (take n l.fn.bytes)
    × (l.rest ≡ drop n l.fn.bytes)) × (l.self.faults ≡ l.fn.self.faults)

abbrev pub decreases-loop-rest : goal.decreases-loop-rest
decreases-loop-rest g l = length l.rest
