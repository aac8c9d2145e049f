use Rattle.script_cmd.proofs.Serving.{serving}
use Rattle.script_cmd.proofs.top.fwu_top_with.Goals as goal

pub returns-clause-serves : goal.returns-clause-serves
returns-clause-serves g c = serving c.answer_with.ensures.answers
