use Rattle.std.proofs.Common.{◌-◌, length}
use Rattle.fip_tables.proofs.Told.{HasReadOn}
use Rattle.fip_tables.proofs.reader.TableReader.read_on.Given as goal

abbrev pub invariant-loop-at : goal.invariant-loop-at
invariant-loop-at l = HasReadOn l.fn.self l.self l.piece l.at

abbrev pub decreases-loop-at : goal.decreases-loop-at
decreases-loop-at l = length l.piece - l.at
