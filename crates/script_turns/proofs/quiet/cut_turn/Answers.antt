use Rattle.std.proofs.Common.{sym, subst}
use Rattle.fwu_model.specs.Call as call
use Rattle.fwu_model.specs.Reply.{Turn}
use Rattle.script_turns.specs.{Powered.moment_in, Turning.Turns}
use Rattle.script_turns.proofs.Quiets.{cut-turns}
use Rattle.script_turns.proofs.quiet.cut_turn.Goals as goal

pub returns-clause-turns : goal.returns-clause-turns
returns-clause-turns g c passes files faults =
    let old = moment_in c.args.stage.now in
    let new = moment_in c.arm.new.stage in
    subst (λ (t : Turn). Turns passes g.D.Flash.tells files (call.Cut c.args.n c.args.k) t old new faults faults) (sym c.turn_of.ensures)
    (cut-turns passes g.D.Flash.tells files c.args.n c.args.k old new faults c.arm.ensures.arms)
