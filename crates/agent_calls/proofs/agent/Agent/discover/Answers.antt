use Rattle.agent_calls.specs.Shown.{moment}
use Rattle.agent_calls.proofs.Discovered.{tells-state}
use Rattle.agent_calls.proofs.agent.Agent.discover.Goals as goal

pub returns-clause-meets : goal.returns-clause-meets
returns-clause-meets g c here passes = tells-state (moment c.args.self.now) passes _ c.state.ensures
