use Rattle.moves.proofs.Switching.{settled-ready}
use Rattle.moves.proofs.stores.barriers_keep_ready.Goals as goal

pub returns : goal.returns
returns c = settled-ready
