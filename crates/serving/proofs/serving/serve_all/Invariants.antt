use Rattle.std.proofs.Common.{◌≡◌, ◌-◌}
use Rattle.host_io.specs.Once.{ReadsBytes}
use Rattle.script_turns.specs.Powered.{device, has_power}
use Rattle.serving.specs.Scene.{at, port, scene}
use Rattle.serving.proofs.Steps.{SoFar}
use Rattle.serving.proofs.serving.serve_all.Given as goal

-- the requests so far were served, on the flash that was handed in, and no file was read
abbrev pub invariant-loop-size : goal.invariant-loop-size
invariant-loop-size g l = record {
  so_far : SoFar (scene (g.V.Verifier.passes l.fn.verifier) g.D.Flash.tells (g.H.Files.contents l.fn.files) (g.H.Files.faults l.fn.files))
      (at l.fn.serving (port (g.O.Sink.taken l.fn.sink) (g.O.Sink.faults l.fn.sink))) (at l.serving (port (g.O.Sink.taken l.sink) (g.O.Sink.faults l.sink)))
      (port (g.I.Source.left l.fn.source) (g.I.Source.faults l.fn.source)) (port (g.I.Source.left l.source) (g.I.Source.faults l.source)) l.reader;
  powered : g.D.Flash.on (device l.serving.powered) ≡ has_power l.serving.powered;
  size : g.D.Flash.blocks (device l.serving.powered) ≡ g.D.Flash.blocks (device l.fn.serving.powered);
  files : l.files ≡ l.fn.files;
  reads : ReadsBytes g.I.Source l.fn.source l.source;
}

abbrev pub decreases-loop-size : goal.decreases-loop-size
decreases-loop-size g l = 1073741824 - l.reader
