use Rattle.std.proofs.Common.{length-set, slice_index, sym, ◌∙◌, arith}
use Rattle.std.proofs.lemmas.List.{ext_get_or}
use Rattle.sha2.specs.Sha256.{schedule}
use Rattle.sha2.proofs.Schedule256.{length-schedule, slice_index-schedule_first, slice_index-schedule_next}
use Rattle.sha256_lanes.specs.Lanes.{lane, of_four}
use Rattle.sha256_lanes.proofs.LaneWords.{length-lane, next_word_same, words_more}
use Rattle.sha256_lanes.proofs.schedule.words_of_block.Goals as goal

pub loop-t-init : goal.loop-t-init
loop-t-init c =
    let block = of_four c.args.a.now c.args.b.now c.args.c.now c.args.d.now in (
      omega arith,
      λ j lt k below. c.first_words-w.ensures j lt k below ∙ sym (slice_index-schedule_first (block j) 48 k below),
    )

pub loop-t-preserved : goal.loop-t-preserved
loop-t-preserved c =
    let w = c.loop-t.w in
    let t = c.loop-t.t in
    let block = of_four c.args.a.now c.args.b.now c.args.c.now c.args.d.now in
    let word = c.next_word-word.result in (
      length-set w t word ∙ c.loop-t.invariant.0,
      λ j lt.
          let before = c.loop-t.invariant.1 j lt in
          let here = c.next_word-word.ensures j lt
          ∙ next_word_same (lane j w) (schedule (block j) 48) t (omega arith) before
          ∙ sym (slice_index-schedule_next (block j) 48 t (omega arith) (omega arith)) in
          words_more (λ k. slice_index (schedule (block j) 48) k) j w t word (omega arith) before here,
    )

pub returns : goal.returns
returns c = λ j lt.
    let b = of_four c.args.a.now c.args.b.now c.args.c.now c.args.d.now j in
    let w = c.loop-t.w in
    let long = length-lane j w ∙ c.loop-t.invariant.0 in
    ext_get_or 0 (lane j w) (schedule b 48) (omega (arith, long, length-schedule b 48))
    (λ k below. c.loop-t.invariant.1 j lt k (omega (arith, below, long)))
