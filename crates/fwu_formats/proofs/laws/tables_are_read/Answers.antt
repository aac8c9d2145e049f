use Rattle.fwu_formats.proofs.Tables.{tables-are-read}
use Rattle.fwu_formats.proofs.laws.tables_are_read.Goals as goal

pub returns : goal.returns
returns c = tables-are-read
