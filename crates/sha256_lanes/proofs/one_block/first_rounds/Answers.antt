use Rattle.std.proofs.Common.{◌≡◌, ◌∙◌, refl, ap, arith}
use Rattle.sha2.specs.Sha256.{rounds, schedule}
use Rattle.sha256_lanes.proofs.one_block.first_rounds.Goals as goal

pub loop-t-init : goal.loop-t-init
unfolding rounds
loop-t-init c = λ b words. refl
