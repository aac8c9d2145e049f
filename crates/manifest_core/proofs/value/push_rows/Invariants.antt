use Rattle.std.proofs.Common.{◌≡◌, ◌++◌, take, map, flat_map, IsTrue}
use Rattle.std.specs.List.{list_all}
use Rattle.fwu_formats.specs.Manifest.{manifest_row_bytes, is_manifest_row}
use Rattle.manifest_core.specs.Shown.{row}
use Rattle.manifest_core.proofs.value.push_rows.Given as goal

abbrev pub invariant-loop-said : goal.invariant-loop-said
invariant-loop-said l =
    (l.bytes.items ≡ l.fn.bytes.items ++ flat_map manifest_row_bytes (map row (take l.said-index l.rows)))
    × IsTrue (list_all is_manifest_row (map row (take l.said-index l.rows)))
