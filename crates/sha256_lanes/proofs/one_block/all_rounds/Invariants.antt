use Rattle.std.proofs.Common.{◌*◌}
use Rattle.sha256_lanes.specs.OneBlock.{IsAtRound}
use Rattle.sha256_lanes.proofs.one_block.all_rounds.Given as goal

abbrev pub invariant-loop-turn : goal.invariant-loop-turn
invariant-loop-turn l = IsAtRound l.block l.h l.w l.v (8 * l.turn)
