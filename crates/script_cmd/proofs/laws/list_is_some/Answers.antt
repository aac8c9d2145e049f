use Rattle.script_cmd.proofs.OutcomeLemmas.{list-is-some}
use Rattle.script_cmd.proofs.laws.list_is_some.Goals as goal

pub returns : goal.returns
returns c = list-is-some
