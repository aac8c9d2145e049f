use Rattle.script_cmd.proofs.OutcomeLemmas.{nothing-follows-the-sink}
use Rattle.script_cmd.proofs.laws.nothing_follows_the_sink.Goals as goal

pub returns : goal.returns
returns c = nothing-follows-the-sink
