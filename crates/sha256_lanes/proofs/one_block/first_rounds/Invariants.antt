use Rattle.std.proofs.Common.{◌≡◌, List, ℕ}
use Rattle.sha2.specs.Sha256.{rounds, schedule}
use Rattle.sha256_lanes.specs.OneBlock.{HasWords}
use Rattle.sha256_lanes.proofs.one_block.first_rounds.Given as goal

abbrev pub invariant-loop-t : goal.invariant-loop-t
invariant-loop-t l = (b : List ℕ) → HasWords b l.w 16 → l.v ≡ rounds l.h (schedule b 48) l.t
