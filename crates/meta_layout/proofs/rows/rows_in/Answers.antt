use Rattle.std.proofs.Common.{◌≡◌, length, ◌∙◌, arith}
use Rattle.meta_layout.specs.Rows.{layout_row_at}
use Rattle.meta_layout.proofs.Places.{pushed, length-listed}
use Rattle.meta_layout.proofs.rows.rows_in.Goals as goal

pub loop-index-preserved : goal.loop-index-preserved
loop-index-preserved c = c.push.ensures ∙ pushed (layout_row_at c.args.block.now) c.loop-index.rows c.loop-index.index c.row_in.result c.loop-index.invariant c.row_in.ensures

pub push-requires : goal.push-requires
push-requires c =
    let count : length c.loop-index.rows ≡ c.loop-index.index = length-listed (layout_row_at c.args.block.now) c.loop-index.rows c.loop-index.index c.loop-index.invariant in
    omega (arith, count, c.loop-index-test.true, c.requires.small)
