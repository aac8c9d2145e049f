use Rattle.std.proofs.Common.{◌≡◌, ◌+◌, ◌-◌, ◌++◌, List, None, drop, take}
use Rattle.std.specs.Prelude.{flat_map}
use Rattle.fwu_journal.specs.Shown.{turns}
use Rattle.fwu_model.specs.Call.{Call}
use Rattle.gen_core.specs.{Calls.round_calls, Rounds.rounds_from, Setup.soak_layout}
use Rattle.host_io.specs.Contents.{Directory}
use Rattle.script_turns.specs.Powered.{TurnMoment, device, has_power, moment_of}
use Rattle.flash_commands.specs.Soaking.{GoesSoaking, HasPackages}
use Rattle.flash_commands.proofs.soaking.do_rounds.Given as goal

-- the first rounds were done, and the register gives the others
abbrev pub invariant-loop-index : goal.invariant-loop-index
invariant-loop-index g l = record {
  going : (all : Directory) (done : List Call) (old : TurnMoment) → GoesSoaking g.D.Flash.tells all done (turns l.fn.run.journal) old (moment_of l.fn.run.powered)
      → HasPackages all l.fn.register l.fn.rounds → old.on ≡ None
      → GoesSoaking g.D.Flash.tells all (done ++ flat_map (round_calls soak_layout.rows) (take l.index (rounds_from l.fn.register 1 l.fn.rounds))) (turns l.run.journal) old (moment_of l.run.powered);
  left : drop l.index (rounds_from l.fn.register 1 l.fn.rounds) ≡ rounds_from l.register (l.index + 1) (l.fn.rounds - l.index);
  powered : g.D.Flash.on (device l.run.powered) ≡ has_power l.run.powered;
  size : g.D.Flash.blocks (device l.run.powered) ≡ g.D.Flash.blocks (device l.fn.run.powered);
}
