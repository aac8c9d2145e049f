use Rattle.moves.proofs.Repaired.{repair-shows, repair-tidy}
use Rattle.moves.proofs.laws.repairs_show.Goals as goal

pub returns : goal.returns
returns c = record { shows = λ result which r s t L state shown loads repairs. repair-shows result which r s t L state shown loads repairs; tidy = λ result which r s t L state repairs tidy. repair-tidy result which r s t L state repairs tidy }
