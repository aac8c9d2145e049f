use Rattle.flash_core.proofs.Ahead.{less_done}
use Rattle.flash_core.proofs.laws.armed_losses_stay_ahead.Goals as goal

pub returns-clause-one : goal.returns-clause-one
returns-clause-one g c d armed is = less_done (g.D.Flash.arming d) armed 1 (g.met.D.Flash.ahead d) is

pub returns-clause-some : goal.returns-clause-some
returns-clause-some g c d armed done is = less_done (g.D.Flash.arming d) armed done (g.met.D.Flash.ahead d) is
