use Rattle.gen_core.proofs.Naming.{rounds-have-packages}
use Rattle.gen_core.proofs.laws.rounds_have_packages.Goals as goal

pub returns : goal.returns
returns c = rounds-have-packages
