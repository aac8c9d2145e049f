use Rattle.moves.proofs.Switching.{ends-by}
use Rattle.moves.proofs.stores.ends_switch.Goals as goal

pub returns : goal.returns
returns c = ends-by
