use Rattle.std.proofs.Common.{◌≡◌, take}
use Rattle.gen_core.specs.Generated.{image_parts}
use Rattle.gen_core.proofs.packages.images.Given as goal

abbrev pub invariant-loop-k : goal.invariant-loop-k
invariant-loop-k l = l.parts.items ≡ image_parts l.number 1 (take l.k l.rows) (take l.k l.sizes)
