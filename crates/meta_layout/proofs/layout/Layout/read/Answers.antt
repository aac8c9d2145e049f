use Rattle.std.proofs.Common.{refl, ◌≡◌, ℕ, ◌&&◌, ◌==◌, List, sym, ap, ◌∙◌}
use Rattle.base_core.specs.{Bytes.num_at, Bytes.part, Bytes.listed, Crc.crc}
use Rattle.fwu_formats.specs.Layout.{Layout, ImageRow, layout_at, are_zero}
use Rattle.meta_layout.specs.Rows.{has_row_zeros, layout_row_at, fitted}
use Rattle.meta_layout.proofs.Layouts.{short, bad-magic, bad-size, short-rows, bad-sum, not-zero, as-fitted}
use Rattle.meta_layout.proofs.layout.Layout.read.Goals as goal

pub returns-then-block-lt32 : goal.returns-then-block-lt32
returns-then-block-lt32 c = short c.args.block.now c.args.blocks c.if-block-lt32.true

pub returns-then-le32_at-ne-MAGIC : goal.returns-then-le32_at-ne-MAGIC
returns-then-le32_at-ne-MAGIC c = bad-magic c.args.block.now c.args.blocks c.if-block-lt32.false (λ e. c.if-le32_at-ne-MAGIC.true (c.le32_at.ensures ∙ e))

pub returns-then-not-has_size : goal.returns-then-not-has_size
returns-then-not-has_size c =
    bad-size c.args.block.now c.args.blocks c.if-block-lt32.false (sym c.le32_at.ensures ∙ c.if-le32_at-ne-MAGIC.false) (sym c.has_size.ensures ∙ c.if-not-has_size.true)

pub returns-then-block-size : goal.returns-then-block-size
returns-then-block-size c =
    short-rows c.args.block.now c.args.blocks c.if-block-lt32.false (sym c.le32_at.ensures ∙ c.if-le32_at-ne-MAGIC.false) (sym c.has_size.ensures ∙ c.if-not-has_size.false)
    (rw c.le32_at-size.ensures at c.if-block-size.true)

pub returns-then-not-is_checked : goal.returns-then-not-is_checked
returns-then-not-is_checked c =
    bad-sum c.args.block.now c.args.blocks c.if-block-lt32.false (sym c.le32_at.ensures ∙ c.if-le32_at-ne-MAGIC.false) (sym c.has_size.ensures ∙ c.if-not-has_size.false)
    (rw c.le32_at-size.ensures at c.if-block-size.false)
    (ap (λ n. num_at 4 c.args.block.now 0 == crc (part c.args.block.now 4 n)) (sym c.le32_at-size.ensures) ∙ sym c.is_checked.ensures ∙ c.if-not-is_checked.true)

pub returns-then-not-are_rest_zero : goal.returns-then-not-are_rest_zero
returns-then-not-are_rest_zero c =
    not-zero c.args.block.now c.args.blocks c.if-block-lt32.false (sym c.le32_at.ensures ∙ c.if-le32_at-ne-MAGIC.false) (sym c.has_size.ensures ∙ c.if-not-has_size.false)
    (rw c.le32_at-size.ensures at c.if-block-size.false)
    (ap (λ n. num_at 4 c.args.block.now 0 == crc (part c.args.block.now 4 n)) (sym c.le32_at-size.ensures) ∙ sym c.is_checked.ensures ∙ c.if-not-is_checked.false)
    (ap (λ n. are_zero (part c.args.block.now 20 32) && has_row_zeros c.args.block.now n) (sym c.le32_at-images.ensures) ∙ sym c.are_rest_zero.ensures ∙ c.if-not-are_rest_zero.true)

made : (block : List ℕ) (banks images : ℕ) (rows : List ImageRow) → banks ≡ num_at 4 block 8 → images ≡ num_at 4 block 12 → rows ≡ listed images (layout_row_at block)
    → (let L : Layout = record { banks = banks; rows = rows } in L ≡ layout_at block)
made block banks images rows b i r = rw (r, b, i) refl

pub returns : goal.returns
returns c =
    c.of_rows.ensures
    ∙ ap (λ L. fitted L c.args.blocks) (made c.args.block.now c.le32_at-2.result c.le32_at-images.result c.rows_in.result c.le32_at-2.ensures c.le32_at-images.ensures c.rows_in.ensures)
    ∙ sym (as-fitted c.args.block.now c.args.blocks c.if-block-lt32.false (sym c.le32_at.ensures ∙ c.if-le32_at-ne-MAGIC.false) (sym c.has_size.ensures ∙ c.if-not-has_size.false)
    (rw c.le32_at-size.ensures at c.if-block-size.false)
    (ap (λ n. num_at 4 c.args.block.now 0 == crc (part c.args.block.now 4 n)) (sym c.le32_at-size.ensures) ∙ sym c.is_checked.ensures ∙ c.if-not-is_checked.false)
    (ap (λ n. are_zero (part c.args.block.now 20 32) && has_row_zeros c.args.block.now n) (sym c.le32_at-images.ensures) ∙ sym c.are_rest_zero.ensures ∙ c.if-not-are_rest_zero.false))
