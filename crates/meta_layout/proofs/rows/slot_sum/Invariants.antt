use Rattle.std.proofs.Common.{◌≡◌, ◌*◌, ◌≤◌, take}
use Rattle.fwu_formats.specs.Layout.{slot_total}
use Rattle.meta_layout.proofs.rows.slot_sum.Given as goal

abbrev pub invariant-loop-row : goal.invariant-loop-row
invariant-loop-row l = record { sum : l.total ≡ slot_total (take l.row-index l.rows); bound : l.total ≤ 256 * l.row-index }
