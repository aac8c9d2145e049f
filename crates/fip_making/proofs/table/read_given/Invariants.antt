use Rattle.std.proofs.Common.{◌-◌}
use Rattle.host_io.specs.Once.{ReadsBytes}
use Rattle.fip_making.proofs.SourceLemmas.{IsReading}
use Rattle.fip_making.proofs.table.read_given.Given as goal

abbrev pub invariant-loop-count : goal.invariant-loop-count
invariant-loop-count g l = record {
  read : IsReading (g.I.Source.left l.fn.source) (g.I.Source.left l.source) (g.I.Source.faults l.fn.source) (g.I.Source.faults l.source) l.stream l.count;
  reads : ReadsBytes g.I.Source l.fn.source l.source;
}

abbrev pub decreases-loop-count : goal.decreases-loop-count
decreases-loop-count g l = 4294971393 - l.count
