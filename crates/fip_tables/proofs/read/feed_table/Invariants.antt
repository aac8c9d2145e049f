use Rattle.std.proofs.Common.{◌-◌}
use Rattle.fip_tables.proofs.Told.{IsFeeding}
use Rattle.fip_tables.proofs.read.feed_table.Given as goal

abbrev pub invariant-loop-at : goal.invariant-loop-at
invariant-loop-at g l =
    IsFeeding g.H.Files l.name l.fn.files l.files l.stream l.size l.at

abbrev pub decreases-loop-at : goal.decreases-loop-at
decreases-loop-at g l = l.size - l.at
