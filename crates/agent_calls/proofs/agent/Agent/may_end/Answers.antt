use Rattle.agent_machine.proofs.Room.{meta-of-session, rows-some}
use Rattle.agent_calls.specs.Shown.{fields}
use Rattle.agent_calls.proofs.agent.Agent.may_end.Goals as goal

pub decide-requires-clause-some : goal.decide-requires-clause-some
decide-requires-clause-some g c = rows-some (fields c.args.self.now) (c.args.self.now.fitting c.requires.here)

pub decide-requires-clause-fits : goal.decide-requires-clause-fits
decide-requires-clause-fits g c = meta-of-session (fields c.args.self.now) (c.args.self.now.fitting c.requires.here)
