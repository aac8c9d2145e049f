use Rattle.std.proofs.Common.{◌≡◌, map, take}
use Rattle.gen_core.specs.Generated.{manifest_row_of}
use Rattle.manifest_core.specs.Shown.{row}
use Rattle.gen_core.proofs.packages.manifest_rows.Given as goal

abbrev pub invariant-loop-part : goal.invariant-loop-part
invariant-loop-part l = map row l.rows.items ≡ map (manifest_row_of l.number) (take l.part-index l.images)
