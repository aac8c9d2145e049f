use Rattle.moves.proofs.Trials.{clear-does}
use Rattle.moves.proofs.stores.clears_do_nothing.Goals as goal

pub returns : goal.returns
returns c = λ result s t state accepted clears E ready. clear-does result s t state accepted clears E ready
