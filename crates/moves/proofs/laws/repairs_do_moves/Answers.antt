use Rattle.moves.proofs.Repaired.{repair-does}
use Rattle.moves.proofs.laws.repairs_do_moves.Goals as goal

pub returns : goal.returns
returns c = λ result which r s t E state L calm guarded layout loads repairs. repair-does result which r s t E state L calm guarded layout loads repairs
