use Rattle.script_cmd.proofs.OutcomeLemmas.{boots-are-permitted}
use Rattle.script_cmd.proofs.laws.boots_are_permitted.Goals as goal

pub returns : goal.returns
returns c = boots-are-permitted
