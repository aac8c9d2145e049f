use Rattle.script_cmd.proofs.OutcomeLemmas.{nothing-is-touched}
use Rattle.script_cmd.proofs.laws.nothing_is_touched.Goals as goal

pub returns : goal.returns
returns c = nothing-is-touched
