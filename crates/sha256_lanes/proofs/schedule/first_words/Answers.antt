use Rattle.std.proofs.Common.{◌≡◌, ◌*◌, [], ◌∷◌, ◌∙◌, length-set, slice_index, arith}
use Rattle.sha2.specs.Sha256.{word_at}
use Rattle.sha256_lanes.specs.Lanes.{of_four}
use Rattle.sha256_lanes.proofs.{FourLanes.below_four, LaneWords.words_more}
use Rattle.sha256_lanes.proofs.schedule.first_words.Goals as goal

pub loop-t-preserved : goal.loop-t-preserved
loop-t-preserved c =
    let w = c.loop-t.w in
    let t = c.loop-t.t in
    let block = of_four c.args.a.now c.args.b.now c.args.c.now c.args.d.now in
    let read = c.word_at.result ∷ c.word_at-in-loop-t.result ∷ c.word_at-in-loop-t-2.result ∷ c.word_at-in-loop-t-3.result ∷ [] in
    let of_read = below_four (λ j. slice_index read j ≡ word_at (block j) (4 * t)) c.word_at.ensures c.word_at-in-loop-t.ensures c.word_at-in-loop-t-2.ensures c.word_at-in-loop-t-3.ensures in (
      length-set w t read ∙ c.loop-t.invariant.0,
      λ j lt. words_more (λ k. word_at (block j) (4 * k)) j w t read (omega arith) (c.loop-t.invariant.1 j lt) (of_read j lt),
    )
