use Rattle.moves.proofs.Trials.{trial-does}
use Rattle.moves.proofs.laws.marks_do_trials.Goals as goal

pub returns : goal.returns
returns c = λ result s t state at valid at_is below adds E ready. trial-does result s t state at valid at_is below adds E ready
