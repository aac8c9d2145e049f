use Rattle.std.proofs.Common.{◌≡◌, ◌+◌, ◌≤◌, length}
use Rattle.verify_core.proofs.Lines.{behind, from_line}
use Rattle.verify_core.proofs.list.DigestList.read.Given as goal

abbrev pub invariant-loop-rest : goal.invariant-loop-rest
invariant-loop-rest l = record {
  lines : from_line 1 l.fn.bytes ≡ behind l.list (from_line l.line l.rest);
  count : l.line + length l.rest ≤ length l.fn.bytes + 1;
}

abbrev pub decreases-loop-rest : goal.decreases-loop-rest
decreases-loop-rest l = length l.rest
