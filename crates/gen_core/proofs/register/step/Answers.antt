use Rattle.std.proofs.Common.{rules}
use Rattle.gen_core.specs.Draws.{step}
use Rattle.gen_core.proofs.register.step.Goals as goal

pub returns : goal.returns
unfolding step
returns c = search rules
