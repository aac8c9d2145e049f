use Rattle.script_text.proofs.Whole.{calls-have-lines}
use Rattle.script_text.proofs.laws.calls_have_lines.Goals as goal

pub returns : goal.returns
returns c = calls-have-lines
