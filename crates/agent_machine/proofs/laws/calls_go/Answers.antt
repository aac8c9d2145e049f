use Rattle.agent_machine.proofs.Going.{goes-then, goes-stopped}
use Rattle.agent_machine.proofs.laws.calls_go.Goals as goal

pub returns : goal.returns
returns c = record { next = goes-then; stopped = goes-stopped }
