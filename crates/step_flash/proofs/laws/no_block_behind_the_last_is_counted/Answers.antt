use Rattle.step_flash.proofs.Places.{none_behind}
use Rattle.step_flash.proofs.laws.no_block_behind_the_last_is_counted.Goals as goal

pub returns : goal.returns
returns c = λ d b behind. let s = d.device.value in none_behind _ _ s.blocks s.steps.items b s.inside behind
