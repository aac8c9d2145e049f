use Rattle.std.proofs.Common.{◌≡◌, drop, map}
use Rattle.fwu_formats.specs.Layout.{are_distinct}
use Rattle.meta_layout.proofs.rows.are_apart.Given as goal

abbrev pub invariant-loop-index : goal.invariant-loop-index
invariant-loop-index l = are_distinct (map (λ r. r.guid) (drop l.index l.rows)) ≡ are_distinct (map (λ r. r.guid) l.rows)
