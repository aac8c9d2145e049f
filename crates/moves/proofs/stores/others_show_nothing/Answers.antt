use Rattle.moves.proofs.{Trials.clear-shows, Staged.staged-shows}
use Rattle.moves.proofs.stores.others_show_nothing.Goals as goal

pub returns : goal.returns
returns c = record {
  clear = λ result s t state accepted clears L shown. clear-shows result s t state accepted clears L shown;
  staging = λ L s t state u invalid keeps shown. staged-shows L s t state u invalid keeps shown;
}
