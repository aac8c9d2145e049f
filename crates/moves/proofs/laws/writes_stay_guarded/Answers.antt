use Rattle.moves.proofs.Repaired.{repair-guarded, trial-guarded, raise-guarded}
use Rattle.moves.proofs.laws.writes_stay_guarded.Goals as goal

pub returns : goal.returns
returns c = record { repair = λ result L s t layout rest which r loads repairs. repair-guarded L s layout rest result t which r loads repairs; trial = λ result L s t layout rest at below adds. trial-guarded L s layout rest result t at below adds; raise = λ result L s t layout rest v raises. raise-guarded L s layout rest result t v raises }
