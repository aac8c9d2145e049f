use Rattle.std.proofs.Common.{◌≡◌}
use Rattle.base_core.specs.Bytes.{listed}
use Rattle.meta_layout.specs.Rows.{layout_row_at}
use Rattle.meta_layout.proofs.rows.rows_in.Given as goal

abbrev pub invariant-loop-index : goal.invariant-loop-index
invariant-loop-index l = l.rows ≡ listed l.index (layout_row_at l.block)
