use Rattle.capsule_tables.proofs.Made.{HasHeads}
use Rattle.capsule_tables.proofs.making.add_heads.Given as goal

abbrev pub invariant-loop-part : goal.invariant-loop-part
invariant-loop-part l = HasHeads l.fn.bytes.items l.bytes.items l.parts l.index l.part-index
