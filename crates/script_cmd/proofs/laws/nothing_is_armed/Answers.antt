use Rattle.script_cmd.proofs.OutcomeLemmas.{nothing-is-armed}
use Rattle.script_cmd.proofs.laws.nothing_is_armed.Goals as goal

pub returns : goal.returns
returns c = nothing-is-armed
