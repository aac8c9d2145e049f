use Rattle.fip_tables.proofs.Plans.{IsPlanning}
use Rattle.fip_tables.proofs.frame.places_of.Given as goal

abbrev pub invariant-loop-part : goal.invariant-loop-part
invariant-loop-part l = IsPlanning l.parts l.align l.entries l.end l.part-index
