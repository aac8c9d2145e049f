use Rattle.host_io.proofs.Reading.{reads-none}
use Rattle.script_turns.proofs.turning.agent_turn.Goals as goal

pub returns-in_default-clause-turns : goal.returns-in_default-clause-turns
returns-in_default-clause-turns g c =
    c.call_turn.ensures.turns (g.H.Files.contents c.args.files.now) (g.H.Files.faults c.args.files.now)

pub returns-in_default-clause-reads : goal.returns-in_default-clause-reads
returns-in_default-clause-reads g c = reads-none g.H.Files _ g.met.H.Files.at_rest _
