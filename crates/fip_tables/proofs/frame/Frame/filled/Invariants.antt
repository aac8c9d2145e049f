use Rattle.fip_tables.proofs.Filled.{AreFilled}
use Rattle.fip_tables.proofs.frame.Frame.filled.Given as goal

abbrev pub invariant-loop-i : goal.invariant-loop-i
invariant-loop-i l = AreFilled l.fn.self.bytes.items l.gaps l.parts l.bytes.items l.left l.i
