use Rattle.script_cmd.proofs.PromiseAll.{promised}
use Rattle.script_cmd.proofs.laws.ways_are_promised.Goals as goal

pub returns : goal.returns
returns c = promised
