use Rattle.script_cmd.proofs.OutcomeLemmas.{nothing-is-passed-over}
use Rattle.script_cmd.proofs.laws.nothing_is_passed_over.Goals as goal

pub returns : goal.returns
returns c = nothing-is-passed-over
