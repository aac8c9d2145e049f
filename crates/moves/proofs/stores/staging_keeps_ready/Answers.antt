use Rattle.moves.proofs.Staged.{staged-ready}
use Rattle.moves.proofs.stores.staging_keeps_ready.Goals as goal

pub returns : goal.returns
returns c = λ E s t state u ready invalid keeps. staged-ready E s t state u ready invalid keeps
