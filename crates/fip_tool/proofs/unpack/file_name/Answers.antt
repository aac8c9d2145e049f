use Rattle.fip_tool.proofs.UnpackLemmas.{not-from}
use Rattle.fip_tool.proofs.unpack.file_name.Goals as goal

pub returns-clause-other : goal.returns-clause-other
returns-clause-other c = λ from other. not-from c.args.prefix.now c.text.new.out c.args.guid.now from c.text.array_long c.text.ensures.spelled c.text.ensures.read_again other
