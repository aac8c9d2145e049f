use Rattle.std.proofs.Common.{refl, sym, ap}
use Rattle.script_turns.specs.{Powered.moment_in, declared.stage.Stage.Stage}
use Rattle.script_turns.proofs.{Staying.the-is, SendTurns.turns-as}
use Rattle.script_turns.proofs.turning.boot_in.Goals as goal

pub returns-clause-turns : goal.returns-clause-turns
returns-clause-turns g c files faults =
    turns-as _ _ _ _ _ _ refl
    (ap (λ (s : Stage _ g.D.Flash). moment_in s) (the-is _ _ c.in-Some.stage (sym c.in-Some.ensures.value)))
    (ap (λ (s : Stage _ g.D.Flash). moment_in s) (the-is _ _ c.boot_turn-turn.result.stage c.replace-before.ensures.after))
    (c.boot_turn-turn.ensures.turns files faults)
