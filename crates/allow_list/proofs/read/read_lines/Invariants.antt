use Rattle.std.proofs.Common.{◌-◌}
use Rattle.allow_list.proofs.Reading.{IsReading}
use Rattle.allow_list.proofs.read.read_lines.Given as goal

abbrev pub invariant-loop-at : goal.invariant-loop-at
invariant-loop-at g l = IsReading g.H.Files l.name l.fn.files l.files l.size l.at l.number l.list

abbrev pub decreases-loop-at : goal.decreases-loop-at
decreases-loop-at g l = l.size - l.at
