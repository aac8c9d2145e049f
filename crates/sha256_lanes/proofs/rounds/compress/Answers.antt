use Rattle.std.proofs.Common.{ℕ, List, ◌∙◌, ap}
use Rattle.sha2.specs.Sha256.{add_state, compress, rounds}
use Rattle.sha256_lanes.specs.Lanes.{lane}
use Rattle.sha256_lanes.proofs.rounds.compress.Goals as goal

pub returns : goal.returns
unfolding compress
returns c = λ j lt.
    let h = lane j c.args.state.now in
    c.add_state-sum.ensures j lt
    ∙ ap (add_state h) (c.all_rounds-v.ensures j lt ∙ ap (λ (ws : List ℕ). rounds h ws 64) (c.words_of_block-w.ensures j lt))
