use Rattle.moves.proofs.Composed.{calm-after}
use Rattle.moves.proofs.laws.losses_leave_calm.Goals as goal

pub returns : goal.returns
returns c = λ result E s ms old new does is may. calm-after result E s ms old new does is may
