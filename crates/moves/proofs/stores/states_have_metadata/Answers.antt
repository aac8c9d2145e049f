use Rattle.moves.proofs.MetaMoves.{shown-decides, meta-held}
use Rattle.moves.proofs.stores.states_have_metadata.Goals as goal

pub returns : goal.returns
returns c = record { decides = shown-decides; is = meta-held }
