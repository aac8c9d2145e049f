use Rattle.capsule_tables.proofs.Made.{HasGaps}
use Rattle.capsule_tables.proofs.making.gaps_of.Given as goal

abbrev pub invariant-loop-part : goal.invariant-loop-part
invariant-loop-part l = HasGaps l.parts l.fn.front l.gaps.items l.before l._part-index
