use Rattle.moves.proofs.{Beside.marks-are-trials, Trials.trial-shows}
use Rattle.moves.proofs.laws.trials_show.Goals as goal

pub returns : goal.returns
returns c = record { shows = λ result s t state at valid at_is below adds L shown tidy. trial-shows result s t state at valid at_is below adds L shown tidy; counted = marks-are-trials }
