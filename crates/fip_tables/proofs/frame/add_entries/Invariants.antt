use Rattle.fip_tables.proofs.Plans.{HasAdded}
use Rattle.fip_tables.proofs.frame.add_entries.Given as goal

abbrev pub invariant-loop-entry : goal.invariant-loop-entry
invariant-loop-entry l = HasAdded l.fn.bytes.items l.bytes.items l.entries l.entry-index
