use Rattle.std.proofs.Common.{◌≡◌, ◌-◌, ◌++◌, ℕ, Contains, List, None, Option, Some, length, map, take}
use Rattle.std.specs.Prelude.{string_bytes, IsSome}
use Rattle.fwu_journal.specs.Shown.{HasRoomFor, turns}
use Rattle.fwu_model.specs.Call.{Call}
use Rattle.fwu_model.specs.Call as call
use Rattle.gen_core.specs.Calls.{shown as soak_shown}
use Rattle.host_io.specs.Contents.{Directory}
use Rattle.script_turns.specs.Powered.{TurnMoment, device, has_power, moment_of}
use Rattle.flash_commands.specs.Soaking.{GoesSoaking, only_file_of}
use Rattle.flash_commands.proofs.soaking.do_calls.Given as goal

-- the first calls were done, and there is room for the turns of the others
abbrev pub invariant-loop-index : goal.invariant-loop-index
invariant-loop-index g l = record {
  going : (all : Directory) (done : List Call) (old : TurnMoment) → GoesSoaking g.D.Flash.tells all done (turns l.fn.run.journal) old (moment_of l.fn.run.powered)
      → ((name : List ℕ) (request : ℕ) → Contains (map soak_shown l.fn.calls) (call.Send name request)
      → let here = only_file_of (string_bytes l.fn.files.name) l.fn.files.bytes.items name in (here ≡ all name) × IsSome here)
      → old.on ≡ None
      → GoesSoaking g.D.Flash.tells all (done ++ take l.index (map soak_shown l.fn.calls)) (turns l.run.journal) old (moment_of l.run.powered);
  powered : g.D.Flash.on (device l.run.powered) ≡ has_power l.run.powered;
  turns_fit : HasRoomFor l.run.journal (length l.fn.calls - l.index);
  same : ◌≡◌ {A = Option Directory} (Some (only_file_of (string_bytes l.files.name) l.files.bytes.items)) (Some (only_file_of (string_bytes l.fn.files.name) l.fn.files.bytes.items));
  size : g.D.Flash.blocks (device l.run.powered) ≡ g.D.Flash.blocks (device l.fn.run.powered);
}
