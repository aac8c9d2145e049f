use Rattle.moves.proofs.MetaMoves.{fits-free, fits-switch, fits-accept, fits-back}
use Rattle.moves.proofs.stores.moves_keep_fit.Goals as goal

pub returns : goal.returns
returns c = λ L m fits. record {
  free = λ b lt. fits-free L m fits b lt;
  switch = λ b p bits lt size. fits-switch L m fits b p bits lt size;
  accept = λ image. fits-accept L m fits image;
  back = fits-back L m fits;
}
