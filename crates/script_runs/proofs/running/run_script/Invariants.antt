use Rattle.std.proofs.Common.{◌≡◌, ◌≤◌, ◌-◌, ℕ, IsTrue, length}
use Rattle.std.specs.List.{slice_get}
use Rattle.fwu_journal.specs.Shown.{HasRoomFor, turns}
use Rattle.script_turns.specs.{Powered.device, Powered.has_power, Powered.moment, Powered.moment_of, Runs.calls_of, Runs.sends_none}
use Rattle.host_io.specs.Access.{Access}
use Rattle.script_runs.specs.Ending.{IsUnnamedIn}
use Rattle.script_runs.proofs.RunEnds.{GoesOn}
use Rattle.script_runs.proofs.running.run_script.Given as goal

-- the run goes on; the calls that are left are the script's; there is room for their turns; no file was read where
-- no turn is a `send`, and none that no turn names
abbrev pub invariant-loop-index : goal.invariant-loop-index
invariant-loop-index g l = record {
  goes : GoesOn (g.V.Verifier.passes l.verifier) g.D.Flash.tells (g.H.Files.contents l.fn.files) l.fn.ready.script l.index (turns l.run.journal)
      (moment g.D.Flash (device l.fn.start))
      (moment_of l.run.powered) (g.H.Files.faults l.fn.files) (g.H.Files.faults l.files)
      (g.O.Sink.taken l.fn.sink) (g.O.Sink.taken l.sink) (g.O.Sink.faults l.fn.sink) (g.O.Sink.faults l.sink);
  length_is : length l.script ≡ length l.fn.ready.script;
  calls_left : (k : ℕ) → l.index ≤ k → slice_get l.script k ≡ slice_get l.fn.ready.script k;
  powered : g.D.Flash.on (device l.run.powered) ≡ has_power l.run.powered;
  turns_fit : HasRoomFor l.run.journal (length l.fn.ready.script - l.index);
  size : g.D.Flash.blocks (device l.run.powered) ≡ g.D.Flash.blocks (device l.fn.start);
  same_files : g.H.Files.contents l.files ≡ g.H.Files.contents l.fn.files;
  unwritten : g.H.Files.writes l.files ≡ g.H.Files.writes l.fn.files;
  unsent : IsTrue (sends_none (calls_of (turns l.run.journal))) → l.files ≡ l.fn.files;
  spares : (access : Access) → IsUnnamedIn (turns l.run.journal) access → g.H.Files.spares l.fn.files l.files access;
}
