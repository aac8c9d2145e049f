use Rattle.std.proofs.Common.{◌∙◌, Bor, List, ap, map, ℕ}
use Rattle.std.proofs.lemmas.List.{map_push}
use Rattle.fip_words.specs.{Values.part_of, Order.part_view}
use Rattle.clap_words.proofs.EachLemmas.{all_read, next_read, none_read, not_read}
use Rattle.fip_words.proofs.values.each_part.Goals as goal

abbrev text : Bor (List ℕ) → List ℕ
text w = w.now

pub loop-text-init : goal.loop-text-init
loop-text-init c = none_read _ _ (ap (map part_view) c.new-parts.ensures.items)

pub loop-text-preserved : goal.loop-text-preserved
loop-text-preserved c =
    let pushed = rw c.if-is_err.ensures.negation at c.push.ensures.items in
    next_read part_of text c.args.texts.now c.loop-text.text-index (map part_view c.loop-text.parts.items) _ _ (map part_view c.push.new.self.items) (part_view c.in-Some.part)
    c.loop-text-test.true c.in-Some.ensures (ap (map part_view) pushed ∙ map_push part_view c.loop-text.parts.items c.in-Some.part) c.loop-text.invariant

pub returns-in_default : goal.returns-in_default
returns-in_default c =
    not_read part_of text c.args.texts.now c.loop-text.text-index (map part_view c.loop-text.parts.items) _ _
    c.loop-text-test.true c.in_default.ensures c.loop-text.invariant

pub returns : goal.returns
returns c =
    all_read part_of text c.args.texts.now c.loop-text.text-index (map part_view c.loop-text.parts.items) _
    c.loop-text-test.false c.loop-text.invariant
