use Rattle.fip_tables.proofs.Filled.{HasGaps}
use Rattle.fip_tables.proofs.frame.gaps_of.Given as goal

abbrev pub invariant-loop-entry : goal.invariant-loop-entry
invariant-loop-entry l = HasGaps l.entries l.gaps.items l.end l.entry-index
