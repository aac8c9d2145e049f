use Rattle.std.proofs.Common.{ℕ, ◌*◌, length-set, sym, ◌∙◌, arith}
use Rattle.sha2.specs.Sha256.{word_at}
use Rattle.sha2.proofs.Schedule256.{slice_index-schedule_first}
use Rattle.sha256_lanes.proofs.LaneWords.{word_more}
use Rattle.sha256_lanes.proofs.one_block.first_words.Goals as goal

pub returns : goal.returns
returns c = λ k below. c.loop-t.invariant.1 k (omega arith) ∙ sym (slice_index-schedule_first c.args.block.now 48 k below)
