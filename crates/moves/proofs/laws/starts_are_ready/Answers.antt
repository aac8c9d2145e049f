use Rattle.moves.proofs.Composed.{clean-ready}
use Rattle.moves.proofs.laws.starts_are_ready.Goals as goal

pub returns : goal.returns
returns c = clean-ready
