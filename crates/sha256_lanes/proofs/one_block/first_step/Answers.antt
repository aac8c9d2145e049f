use Rattle.std.proofs.Common.{ℕ, List, ◌∙◌, sym, ap, slice_index, arith}
use Rattle.sha2.specs.Sha256.{round, round_constants, rounds, schedule}
use Rattle.sha2.proofs.Schedule256.{rounds_next}
use Rattle.sha256_lanes.proofs.one_block.first_step.Goals as goal

pub returns : goal.returns
returns c = λ b h words before.
    let t = c.args.t in
    let k = slice_index round_constants t in
    c.round.ensures
    ∙ ap (λ (v : List ℕ). round v k (slice_index c.args.w.now t)) before
    ∙ ap (λ (x : ℕ). round (rounds h (schedule b 48) t) k x) (words t (omega arith))
    ∙ sym (rounds_next h (schedule b 48) t)
