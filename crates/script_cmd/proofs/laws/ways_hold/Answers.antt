use Rattle.script_cmd.proofs.PromiseAll.{every-way-holds}
use Rattle.script_cmd.proofs.laws.ways_hold.Goals as goal

pub returns : goal.returns
returns c = every-way-holds
