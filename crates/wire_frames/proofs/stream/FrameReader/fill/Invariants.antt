use Rattle.std.proofs.Common.{◌≡◌, ◌+◌, ◌-◌, ◌≤◌, length, take}
use Rattle.std.specs.Io.KnownBytes.{Consumes}
use Rattle.host_io.specs.Once.{ReadsBytes}
use Rattle.wire_frames.specs.Stream.{most_bytes}
use Rattle.wire_frames.proofs.stream.FrameReader.fill.Given as goal

-- so many bytes of the piece came
abbrev pub invariant-loop-at : goal.invariant-loop-at
invariant-loop-at g l = record {
  came : Consumes (g.I.Source.left l.fn.source) (g.I.Source.left l.source) (take l.at l.out);
  taken : l.self ≡ l.fn.self + l.at;
  most : l.self ≤ most_bytes;
  within : l.at ≤ length l.out;
  faults : g.I.Source.faults l.source ≡ g.I.Source.faults l.fn.source;
  reads : ReadsBytes g.I.Source l.fn.source l.source;
}

abbrev pub decreases-loop-at : goal.decreases-loop-at
decreases-loop-at g l = length l.initial.out - l.at
