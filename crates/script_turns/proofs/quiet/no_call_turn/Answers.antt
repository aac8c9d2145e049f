use Rattle.std.proofs.Common.{sym, ap, subst, ◌∙◌}
use Rattle.fwu_model.specs.Call as call
use Rattle.fwu_model.specs.Reply.{Reply, Turn}
use Rattle.script_turns.specs.{Powered.moment_in, Turning.Turns, Turning.quiet_turn}
use Rattle.script_turns.proofs.Quiets.{no_call-turns}
use Rattle.script_turns.proofs.quiet.no_call_turn.Goals as goal

pub returns-clause-turns : goal.returns-clause-turns
returns-clause-turns g c passes files faults =
    let m = moment_in c.args.stage.now in
    subst (λ (t : Turn). Turns passes g.D.Flash.tells files call.NoCall t m m faults faults)
    (sym (c.turn_of.ensures ∙ ap (λ (r : Reply). quiet_turn call.NoCall r) c.not_understood.ensures.value))
    (no_call-turns passes g.D.Flash.tells files m faults)
