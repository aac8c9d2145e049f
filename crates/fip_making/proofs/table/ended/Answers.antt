use Rattle.std.proofs.Common.{sym}
use Rattle.fip_making.proofs.SourceLemmas.{ended-err, ended-ok}
use Rattle.fip_making.proofs.table.ended.Goals as goal

pub returns-in-Ok-clause-table : goal.returns-in-Ok-clause-table
returns-in-Ok-clause-table c = λ given fed long undecided. ended-ok given c.args.count c.in-Ok.toc long c.requires.few undecided (sym (c.in-Ok.ensures given fed))

pub returns-in-Err-clause-table : goal.returns-in-Err-clause-table
returns-in-Err-clause-table c = λ given fed long undecided. ended-err given c.args.count c.in-Err.fault long c.requires.few undecided (sym (c.in-Err.ensures given fed))
