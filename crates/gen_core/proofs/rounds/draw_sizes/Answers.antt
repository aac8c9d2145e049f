use Rattle.std.proofs.Common.{arith}
use Rattle.gen_core.proofs.Making.{soak-sizes_fit}
use Rattle.gen_core.proofs.rounds.draw_sizes.Goals as goal

pub returns-clause-fit : goal.returns-clause-fit
returns-clause-fit c = soak-sizes_fit c.draw-first.result c.draw-second.result (omega arith) (omega arith)
