use Rattle.std.proofs.Common.{ℕ, List, ◌∙◌, sym, ap, slice_index, arith}
use Rattle.sha2.specs.Sha256.{round, round_constants, rounds, schedule}
use Rattle.sha2.proofs.Schedule256.{rounds_next, slice_index-schedule_next}
use Rattle.sha256_lanes.proofs.LaneWords.{next_word_same, word_more}
use Rattle.sha256_lanes.proofs.one_block.step.Goals as goal

pub returns : goal.returns
returns c = λ b h before.
    let t = c.args.t in
    let k = slice_index round_constants t in
    let words = schedule b 48 in
    let word = c.next_word-word.result in
    let here = c.next_word-word.ensures
    ∙ next_word_same c.args.w.now words t c.requires.0 before.0
    ∙ sym (slice_index-schedule_next b 48 t c.requires.0 (omega arith)) in (
      word_more (λ (i : ℕ). slice_index words i) c.args.w.now t word (omega arith) before.0 here,
      c.round.ensures
          ∙ ap (λ (v : List ℕ). round v k word) before.1
          ∙ ap (λ (x : ℕ). round (rounds h words t) k x) here
          ∙ sym (rounds_next h words t),
    )
