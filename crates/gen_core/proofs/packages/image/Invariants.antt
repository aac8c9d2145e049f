use Rattle.std.proofs.Common.{◌≡◌, ◌+◌, ◌*◌, ◌%◌}
use Rattle.base_core.specs.Bytes.{listed}
use Rattle.gen_core.proofs.packages.image.Given as goal

abbrev pub invariant-loop-j : goal.invariant-loop-j
invariant-loop-j l = l.bytes.items ≡ listed l.j (λ j. (7 * j + l.i + l.number) % 256)
