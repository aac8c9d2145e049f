use Rattle.fip_tables.proofs.Firsts.{HasNoneNil}
use Rattle.fip_tables.proofs.outline.first_nil.Given as goal

abbrev pub invariant-loop-i : goal.invariant-loop-i
invariant-loop-i l = HasNoneNil l.parts l.i
