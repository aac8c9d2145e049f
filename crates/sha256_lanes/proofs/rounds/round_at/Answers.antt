use Rattle.std.proofs.Common.{ℕ, List, [], ◌∙◌, sym, ap, slice_index, slice_index_or}
use Rattle.sha2.specs.Sha256.{round, round_constants, rounds}
use Rattle.sha2.proofs.Schedule256.{rounds_next}
use Rattle.sha256_lanes.specs.Lanes.{lane}
use Rattle.sha256_lanes.proofs.LaneWords.{word_of_lane}
use Rattle.sha256_lanes.proofs.rounds.round_at.Goals as goal

pub returns : goal.returns
returns c = λ j lt h before.
    let t = c.args.t in
    let k = slice_index round_constants t in
    let ws = lane j c.args.w.now in
    let word = sym (word_of_lane j c.args.w.now t) in
    c.round.ensures j lt
    ∙ ap (λ (v : List ℕ). round v k (slice_index (slice_index_or c.args.w.now t []) j)) before
    ∙ ap (λ (x : ℕ). round (rounds h ws t) k x) word
    ∙ sym (rounds_next h ws t)
