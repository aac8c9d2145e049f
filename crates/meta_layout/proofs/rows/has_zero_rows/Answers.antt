use Rattle.std.proofs.Common.{◌∙◌, arith}
use Rattle.std.proofs.lemmas.Bool.{ne_eqb}
use Rattle.meta_layout.specs.Rows.{has_zero}
use Rattle.meta_layout.proofs.ImageRows.{range-true, range-false}
use Rattle.meta_layout.proofs.rows.has_zero_rows.Goals as goal

pub returns-then-le32_at-ne0 : goal.returns-then-le32_at-ne0
returns-then-le32_at-ne0 c =
    range-false (has_zero c.args.block.now) 0 c.args.count c.loop-index.index (omega arith) (omega arith) (ne_eqb _ 0 (λ e. c.if-le32_at-ne0.true (c.le32_at.ensures ∙ e)))

pub returns : goal.returns
returns c = range-true (has_zero c.args.block.now) c.args.count (λ i lt. c.loop-index.invariant i (omega arith))
