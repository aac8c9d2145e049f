use Rattle.std.specs.Io.KnownBytes.{Keeps}
use Rattle.host_io.proofs.retries.write_again.Given as goal

-- a write that was interrupted adds nothing
abbrev pub invariant-loop : goal.invariant-loop
invariant-loop g l = Keeps (g.W.Write.contents l.initial.writer) (g.W.Write.contents l.writer)
