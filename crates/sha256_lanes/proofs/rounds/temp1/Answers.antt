use Rattle.std.proofs.Common.{ℕ, ◌∙◌, sym, ap, ap₂, slice_index}
use Rattle.sha2.specs.Sha256.{add32, big_sigma1}
use Rattle.sha256_lanes.proofs.{FourLanes.lane_of_splat, LaneWords.word_of_lane, LaneWords.ch_same}
use Rattle.sha256_lanes.proofs.rounds.temp1.Goals as goal

pub returns : goal.returns
returns c = λ j lt.
    let word = λ (k : ℕ). sym (word_of_lane j c.args.v.now k) in
    let w = slice_index c.args.w j in
    let sigma = c.big_sigma1.ensures j lt ∙ ap big_sigma1 (word 4) in
    let chosen = c.ch.ensures j lt ∙ ch_same (word 4) (word 5) (word 6) in
    let front = c.add-chosen.ensures j lt ∙ ap₂ add32 (c.add.ensures j lt ∙ ap₂ add32 (word 7) sigma) chosen in
    c.add-3.ensures j lt ∙ ap (λ (x : ℕ). add32 x w) (c.add-2.ensures j lt ∙ ap₂ add32 front (lane_of_splat c.args.k j lt))
