use Rattle.std.proofs.Common.{rules}
use Rattle.gen_core.specs.Draws.{drawn}
use Rattle.gen_core.proofs.register.Lcg.draw.Goals as goal

pub returns-clause-value : goal.returns-clause-value
unfolding drawn
returns-clause-value c = search rules
