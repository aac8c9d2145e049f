use Rattle.std.specs.Io.KnownBytes.{Keeps}
use Rattle.host_io.proofs.retries.flush_again.Given as goal

-- no flush adds anything
abbrev pub invariant-loop : goal.invariant-loop
invariant-loop g l = Keeps (g.W.Write.contents l.initial.writer) (g.W.Write.contents l.writer)
