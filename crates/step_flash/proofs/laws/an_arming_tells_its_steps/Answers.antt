use Rattle.step_flash.proofs.Armings.{steps_by_arming}
use Rattle.step_flash.proofs.laws.an_arming_tells_its_steps.Goals as goal

pub returns : goal.returns
returns c = λ d most writes told. steps_by_arming d most writes told
