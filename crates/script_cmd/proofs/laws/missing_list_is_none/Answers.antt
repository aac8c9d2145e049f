use Rattle.script_cmd.proofs.OutcomeLemmas.{missing-list-is-none}
use Rattle.script_cmd.proofs.laws.missing_list_is_none.Goals as goal

pub returns : goal.returns
returns c = missing-list-is-none
