use Rattle.std.proofs.Common.{◌≡◌, take}
use Rattle.meta_layout.proofs.rows.rows_of.Given as goal

abbrev pub invariant-loop-index : goal.invariant-loop-index
invariant-loop-index l = l.rows ≡ take l.index l.given
