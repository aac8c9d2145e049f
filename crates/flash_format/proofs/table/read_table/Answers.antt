use Rattle.fwu_formats.proofs.Tables.{ends-below}
use Rattle.flash_format.proofs.table.read_table.Goals as goal

pub returns-in-Ok-clause-ends : goal.returns-in-Ok-clause-ends
returns-in-Ok-clause-ends g c = ends-below c.in-Ok.ensures.some.bytes c.in-Ok.toc c.in-Ok.ensures.some.short c.in-Ok.ensures.some.answer
