use Rattle.capsule_tables.proofs.ReadAgain.{made-is-read}
use Rattle.capsule_tables.proofs.laws.made_is_read.Goals as goal

pub returns : goal.returns
returns c = made-is-read
