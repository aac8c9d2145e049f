use Rattle.std.proofs.Common.{◌-◌, vec_len}
use Rattle.host_io.specs.Once.{ReadsBytes}
use Rattle.script_runs.proofs.TopSources.{IsReading}
use Rattle.script_runs.proofs.reading.read_source.Given as goal

abbrev pub invariant-loop-count : goal.invariant-loop-count
invariant-loop-count g l = record {
  text : IsReading (g.I.Source.left l.fn.source) (g.I.Source.left l.source) (g.I.Source.faults l.fn.source) (g.I.Source.faults l.source) l.limit l.text.items;
  reads : ReadsBytes g.I.Source l.fn.source l.source;
}

abbrev pub decreases-loop-count : goal.decreases-loop-count
decreases-loop-count g l = 4194305 - vec_len l.text
