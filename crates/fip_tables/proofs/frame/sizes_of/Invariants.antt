use Rattle.std.proofs.Common.{◌≡◌, ◌+◌, drop}
use Rattle.fip_tables.specs.Frame.{sizes_of}
use Rattle.fip_tables.proofs.frame.sizes_of.Given as goal

abbrev pub invariant-loop-entry : goal.invariant-loop-entry
invariant-loop-entry l = l.sizes + sizes_of (drop l.entry-index l.entries) ≡ sizes_of l.entries
