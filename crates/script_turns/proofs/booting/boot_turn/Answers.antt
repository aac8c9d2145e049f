use Rattle.std.proofs.Common.{sym, subst}
use Rattle.early_boot.specs.Ends.{ended}
use Rattle.fwu_model.specs.Call as call
use Rattle.fwu_model.specs.Reply.{Turn}
use Rattle.script_turns.specs.{Powered.moment, Powered.moment_in, Turning.Turns}
use Rattle.script_turns.proofs.{Touching.boot-touches, Boots.boots-turn}
use Rattle.script_turns.proofs.booting.boot_turn.Goals as goal

pub returns-clause-turns : goal.returns-clause-turns
returns-clause-turns g c files faults =
    let F = g.D.Flash in
    let passes = g.V.Verifier.passes c.args.verifier.now in
    let e = ended c.boot.result in
    let flash = c.with_power.result in
    let left = c.turned_by.ensures.leaves in
    let boots = rw (← left.flash_is) at c.boot.ensures.boots in
    let old = moment_in c.args.stage in
    let mid = moment F flash in
    let new = moment_in c.turned_by.result.stage in
    subst (λ (t : Turn). Turns passes F.tells files call.Boot t old new faults faults) (sym c.turned_by.ensures.turn)
    (boots-turn passes F.tells files faults e old mid new c.with_power.ensures.power (record {
      on_is = left.on;
      leaves = left.leaves;
      shows = left.shows;
      power_is = boots.power;
      costs = boots.costs;
      idle = boots.idle;
      spent = boots.spent;
      started = boots.started;
      permitted = boots.permitted;
      once = boots.once;
      unarmed = boots.unarmed;
      touches = boot-touches e _ _ boots.touches boots.touches_fewer;
      touches_fewer = boots.touches_fewer;
      ends = boots.ends;
    }) c.with_power.ensures.has)
