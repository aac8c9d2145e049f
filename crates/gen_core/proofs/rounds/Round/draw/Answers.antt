use Rattle.std.proofs.Common.{rules}
use Rattle.gen_core.specs.Rounds.{round_of}
use Rattle.gen_core.proofs.rounds.Round.draw.Goals as goal

pub returns-clause-drawn : goal.returns-clause-drawn
unfolding round_of
returns-clause-drawn c = search rules
