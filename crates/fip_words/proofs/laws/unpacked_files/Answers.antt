use Rattle.fip_words.proofs.Unpacked.{only, written}
use Rattle.fip_words.proofs.laws.unpacked_files.Goals as goal

pub returns-clause-written : goal.returns-clause-written
returns-clause-written c = written

pub returns-clause-only : goal.returns-clause-only
returns-clause-only c = only
