use Rattle.gpt_core.proofs.Leaving.{repair-keeps, repair-leaves, repair-spares}
use Rattle.gpt_core.proofs.repairs.repairs_leave_the_partitions.Goals as goal

pub returns-clause-images : goal.returns-clause-images
returns-clause-images c = repair-keeps

pub returns-clause-view : goal.returns-clause-view
returns-clause-view c = repair-leaves

pub returns-clause-writes : goal.returns-clause-writes
returns-clause-writes c = repair-spares
