use Rattle.std.proofs.Common.{◌≡◌, ◌+◌, ◌≤◌, length, map}
use Rattle.std.specs.Prelude.{All}
use Rattle.fwu_model.specs.Script.{script_of}
use Rattle.script_text.specs.Shown.{HasBuffer, shown}
use Rattle.script_text.proofs.Reading.{behind, from_line}
use Rattle.script_text.proofs.script.read_script.Given as goal

abbrev pub invariant-loop-rest : goal.invariant-loop-rest
invariant-loop-rest l = record {
  reads : script_of l.fn.bytes ≡ behind (map shown l.calls.items) (from_line l.number l.rest);
  numbers : l.number + length l.rest ≤ length l.fn.bytes + 1;
  buffers : All HasBuffer l.calls.items;
}

abbrev pub decreases-loop-rest : goal.decreases-loop-rest
decreases-loop-rest l = length l.rest
