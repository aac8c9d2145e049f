use Rattle.replicas.specs.declared.which.Which.TheVariants.{Same}
use Rattle.moves.proofs.Repaired.{repair-layout, repair-marks, repair-counter}
use Rattle.moves.proofs.laws.repairs_keep_counts.Goals as goal

pub returns : goal.returns
returns c = λ result r s t L repairs. record {
  layout = λ is. repair-layout result Same r s t L repairs is;
  trials = λ limit few. repair-marks result Same r s t L limit few repairs;
  counter = repair-counter result Same r s t L repairs;
}
