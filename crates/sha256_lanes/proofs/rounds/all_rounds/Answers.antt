use Rattle.std.proofs.Common.{◌≡◌, ◌+◌, ◌*◌, ◌∙◌, refl, ap, arith}
use Rattle.sha2.specs.Sha256.{rounds}
use Rattle.sha256_lanes.specs.Lanes.{lane}
use Rattle.sha256_lanes.proofs.rounds.all_rounds.Goals as goal

pub loop-turn-init : goal.loop-turn-init
unfolding rounds
loop-turn-init c = λ j lt. refl
