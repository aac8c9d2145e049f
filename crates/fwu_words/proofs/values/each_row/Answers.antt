use Rattle.std.proofs.Common.{Bor, List, ℕ}
use Rattle.clap_words.proofs.EachLemmas.{all_read, next_read, none_read, not_read}
use Rattle.fwu_words.specs.Values.{slots_row_of}
use Rattle.fwu_words.proofs.values.each_row.Goals as goal

abbrev text : Bor (List ℕ) → List ℕ
text w = w.now

pub loop-text-init : goal.loop-text-init
loop-text-init c = none_read _ _ c.new-rows.ensures.items

pub loop-text-preserved : goal.loop-text-preserved
loop-text-preserved c =
    let pushed = rw c.if-is_err.ensures.negation at c.push.ensures.items in
    next_read slots_row_of text c.args.texts.now c.loop-text.text-index c.loop-text.rows.items _ _ c.push.new.self.items c.in-Some.row
    c.loop-text-test.true c.in-Some.ensures pushed c.loop-text.invariant

pub returns-in_default : goal.returns-in_default
returns-in_default c =
    not_read slots_row_of text c.args.texts.now c.loop-text.text-index c.loop-text.rows.items _ _
    c.loop-text-test.true c.in_default.ensures c.loop-text.invariant

pub returns : goal.returns
returns c =
    all_read slots_row_of text c.args.texts.now c.loop-text.text-index c.loop-text.rows.items _
    c.loop-text-test.false c.loop-text.invariant
