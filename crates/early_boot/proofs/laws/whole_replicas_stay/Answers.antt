use Rattle.early_boot.proofs.Exact.{whole-replicas-stay}
use Rattle.early_boot.proofs.laws.whole_replicas_stay.Goals as goal

pub returns : goal.returns
returns c = whole-replicas-stay
