use Rattle.std.proofs.Common.{◌≡◌, ◌<◌, ◌≤◌, ◌∙◌, List, length, arith, below_more, sym, ap}
use Rattle.fwu_formats.specs.{Layout.ImageRow, Metadata.has_entry}
use Rattle.meta_layout.proofs.{ImageRows.range-true, ImageRows.range-false, Places.entry-is}
use Rattle.meta_layout.proofs.entries.are_entries.Goals as goal

pub loop-image-preserved : goal.loop-image-preserved
loop-image-preserved c =
    below_more _ _ c.loop-image.invariant
    (sym (entry-is c.args.block.now.layout.now c.args.from c.args.block.now.bytes.now c.loop-image.image c.index-rows-image.result c.rows-rows.result.now
    c.entry_at-at.result c.banks.result c.index-rows-image.is c.rows-rows.ensures.value c.loop-image-test.true c.entry_at-at.ensures.place c.banks.ensures.value)
    ∙ sym c.is_entry.ensures ∙ c.if-not-is_entry.false)

pub returns-then-not-is_entry : goal.returns-then-not-is_entry
returns-then-not-is_entry c =
    let rows : length c.rows-rows.result.now ≡ length c.args.block.now.layout.now.rows = ap (λ (l : List ImageRow). length l) c.rows-rows.ensures.value in
    let lt : c.loop-image.image < length c.rows-rows.result.now = c.loop-image-test.true in
    range-false (has_entry c.args.block.now.layout.now c.args.from c.args.block.now.bytes.now) 0 (length c.args.block.now.layout.now.rows) c.loop-image.image (omega arith) (omega (arith, rows, lt))
    (sym (entry-is c.args.block.now.layout.now c.args.from c.args.block.now.bytes.now c.loop-image.image c.index-rows-image.result c.rows-rows.result.now
    c.entry_at-at.result c.banks.result c.index-rows-image.is c.rows-rows.ensures.value c.loop-image-test.true c.entry_at-at.ensures.place c.banks.ensures.value)
    ∙ sym c.is_entry.ensures ∙ c.if-not-is_entry.true)

pub returns : goal.returns
returns c =
    let rows : length c.rows-rows.result.now ≡ length c.args.block.now.layout.now.rows = ap (λ (l : List ImageRow). length l) c.rows-rows.ensures.value in
    let all : length c.rows-rows.result.now ≤ c.loop-image.image = c.loop-image-test.false in
    range-true (has_entry c.args.block.now.layout.now c.args.from c.args.block.now.bytes.now) (length c.args.block.now.layout.now.rows) (λ i lt. c.loop-image.invariant i (omega (arith, rows, all)))
