use Rattle.moves.proofs.Packages.{package-held}
use Rattle.moves.proofs.stores.slots_hold_packages.Goals as goal

pub returns : goal.returns
returns c = λ L image b p images complete holds. package-held L image b p images complete holds
