use Rattle.fip_tables.proofs.Again.{passed-is-read}
use Rattle.fip_tables.proofs.laws.passed_is_read.Goals as goal

pub returns : goal.returns
returns c = passed-is-read
