use Rattle.std.proofs.Common.{◌∙◌, Bor, List, ap, map, ℕ}
use Rattle.std.proofs.lemmas.List.{map_push}
use Rattle.fip_words.specs.{Values.named_row_of, Order.image_view}
use Rattle.clap_words.proofs.EachLemmas.{all_read, next_read, none_read, not_read}
use Rattle.fip_words.proofs.values.each_image.Goals as goal

abbrev text : Bor (List ℕ) → List ℕ
text w = w.now

pub loop-text-init : goal.loop-text-init
loop-text-init c = none_read _ _ (ap (map image_view) c.new-rows.ensures.items)

pub loop-text-preserved : goal.loop-text-preserved
loop-text-preserved c =
    let pushed = rw c.if-is_err.ensures.negation at c.push.ensures.items in
    next_read named_row_of text c.args.texts.now c.loop-text.text-index (map image_view c.loop-text.rows.items) _ _ (map image_view c.push.new.self.items) (image_view c.in-Some.row)
    c.loop-text-test.true c.in-Some.ensures (ap (map image_view) pushed ∙ map_push image_view c.loop-text.rows.items c.in-Some.row) c.loop-text.invariant

pub returns-in_default : goal.returns-in_default
returns-in_default c =
    not_read named_row_of text c.args.texts.now c.loop-text.text-index (map image_view c.loop-text.rows.items) _ _
    c.loop-text-test.true c.in_default.ensures c.loop-text.invariant

pub returns : goal.returns
returns c =
    all_read named_row_of text c.args.texts.now c.loop-text.text-index (map image_view c.loop-text.rows.items) _
    c.loop-text-test.false c.loop-text.invariant
