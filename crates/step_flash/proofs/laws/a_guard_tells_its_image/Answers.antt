use Rattle.step_flash.proofs.Guards.{by_guard}
use Rattle.step_flash.proofs.laws.a_guard_tells_its_image.Goals as goal

pub returns : goal.returns
returns c = λ d image file is. by_guard d image file is
