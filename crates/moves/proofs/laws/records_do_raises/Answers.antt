use Rattle.moves.proofs.Trials.{raise-does}
use Rattle.moves.proofs.laws.records_do_raises.Goals as goal

pub returns : goal.returns
returns c = λ result v s t state raises E ready accepted v_is. raise-does result v s t state raises E ready accepted v_is
