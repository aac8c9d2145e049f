use Rattle.std.proofs.Common.{ℕ, ◌-◌, ◌∙◌, sym, ap, ap₂}
use Rattle.sha2.specs.Sha256.{add32, small_sigma0, small_sigma1}
use Rattle.sha256_lanes.proofs.LaneWords.{word_of_lane}
use Rattle.sha256_lanes.proofs.schedule.next_word.Goals as goal

pub returns : goal.returns
returns c = λ j lt.
    let word = λ (k : ℕ). sym (word_of_lane j c.args.w.now k) in
    c.add-2.ensures j lt
    ∙ ap₂ add32
    (c.add.ensures j lt
    ∙ ap₂ add32
    (c.add-near.ensures j lt ∙ ap₂ add32 (c.small_sigma1.ensures j lt ∙ ap small_sigma1 (word (c.args.t - 2))) (word (c.args.t - 7)))
    (c.small_sigma0.ensures j lt ∙ ap small_sigma0 (word (c.args.t - 15))))
    (word (c.args.t - 16))
