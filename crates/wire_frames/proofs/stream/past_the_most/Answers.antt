use Rattle.std.proofs.Common.{rules}
use Rattle.host_io.proofs.Once.{once-one}
use Rattle.wire_frames.proofs.Filling.{read-none}
use Rattle.wire_frames.proofs.stream.past_the_most.Goals as goal

pub returns-in-Ok-eq0-clause-reads : goal.returns-in-Ok-eq0-clause-reads
returns-in-Ok-eq0-clause-reads g c =
    read-none g.I.Source _ _ _ (search rules) (search rules)
    (once-one g.I.Source c.args.source.now c.read.new.self _ c.in-Ok-eq0.ensures.made)

pub returns-in-Ok-clause-reads : goal.returns-in-Ok-clause-reads
returns-in-Ok-clause-reads g c =
    read-none g.I.Source _ _ _ (search rules) (search rules)
    (once-one g.I.Source c.args.source.now c.read.new.self _ c.in-Ok.ensures.made)

pub returns-in-Err-clause-reads : goal.returns-in-Err-clause-reads
returns-in-Err-clause-reads g c =
    read-none g.I.Source _ _ _ (search rules) (search rules)
    (once-one g.I.Source c.args.source.now c.read.new.self _ c.in-Err.ensures.made)
