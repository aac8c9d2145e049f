use Rattle.std.proofs.Common.{◌≡◌, ◌+◌, ◌*◌, ◌++◌, take}
use Rattle.std.specs.Prelude.{flat_map}
use Rattle.fwu_formats.specs.Layout.{row_bytes}
use Rattle.meta_layout.proofs.rows.put_rows.Given as goal

abbrev pub invariant-loop-index : goal.invariant-loop-index
invariant-loop-index l = record {
  place : l.end ≡ l.at + 24 * l.index;
  front : take l.end l.out ≡ take l.at l.fn.out ++ flat_map row_bytes (take l.index l.rows);
}
