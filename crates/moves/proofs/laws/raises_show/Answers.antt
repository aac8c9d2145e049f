use Rattle.moves.proofs.Trials.{raise-shows}
use Rattle.moves.proofs.laws.raises_show.Goals as goal

pub returns : goal.returns
returns c = λ result v s t state raises L shown. raise-shows result v s t state raises L shown
