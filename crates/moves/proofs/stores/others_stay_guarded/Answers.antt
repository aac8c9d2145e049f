use Rattle.moves.proofs.{Trials.clear-guarded, Staged.staged-rest, Stored.store-guarded}
use Rattle.moves.proofs.stores.others_stay_guarded.Goals as goal

pub returns : goal.returns
returns c = record {
  store = λ result L s t layout rest old new decided one stores quiet. store-guarded result L s t layout rest old new decided one stores quiet;
  clear = λ result L s t layout rest clears. clear-guarded result L s t layout rest clears;
  staging = λ L s t state u shown rest invalid keeps. staged-rest L s t state u shown rest invalid keeps;
}
