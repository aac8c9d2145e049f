use Rattle.std.proofs.Common.{ℕ}
use Rattle.sha256_lanes.proofs.LaneWords.{word_of_lane}
use Rattle.sha256_lanes.proofs.rounds.add_state.Goals as goal

pub returns : goal.returns
returns c = λ j lt.
    let word = λ (k : ℕ). word_of_lane j c.args.h.now k in
    let added = λ (k : ℕ). word_of_lane j c.args.v.now k in
    cc (
      word 0,
      word 1,
      word 2,
      word 3,
      word 4,
      word 5,
      word 6,
      word 7,
      added 0,
      added 1,
      added 2,
      added 3,
      added 4,
      added 5,
      added 6,
      added 7,
      c.add.ensures j lt,
      c.add-2.ensures j lt,
      c.add-3.ensures j lt,
      c.add-4.ensures j lt,
      c.add-5.ensures j lt,
      c.add-6.ensures j lt,
      c.add-7.ensures j lt,
      c.add-8.ensures j lt,
    )
