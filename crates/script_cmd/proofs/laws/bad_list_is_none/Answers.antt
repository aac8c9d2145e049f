use Rattle.script_cmd.proofs.OutcomeLemmas.{bad-list-is-none}
use Rattle.script_cmd.proofs.laws.bad_list_is_none.Goals as goal

pub returns : goal.returns
returns c = bad-list-is-none
