use Rattle.host_io.proofs.Reading.{reads-then}
use Rattle.host_io.proofs.whole.read_whole.Goals as goal

pub returns-in_err-read_onto-clause-reads : goal.returns-in_err-read_onto-clause-reads
returns-in_err-read_onto-clause-reads g c =
    reads-then g.H.Files _ g.met.H.Files.joins c.args.files.now c.size.new.self c.read_onto.new.self
    (record { same = c.size.ensures.same; unwritten = c.size.ensures.unwritten; later = c.size.ensures.cause.later; spares = c.size.ensures.spares })
    (record { same = c.read_onto.ensures.same; unwritten = c.read_onto.ensures.unwritten; later = c.read_onto.ensures.cause.later; spares = c.read_onto.ensures.spares })

pub returns-clause-reads : goal.returns-clause-reads
returns-clause-reads g c =
    reads-then g.H.Files _ g.met.H.Files.joins c.args.files.now c.size.new.self c.read_onto.new.self
    (record { same = c.size.ensures.same; unwritten = c.size.ensures.unwritten; later = c.size.ensures.cause.later; spares = c.size.ensures.spares })
    (record { same = c.read_onto.ensures.same; unwritten = c.read_onto.ensures.unwritten; later = c.read_onto.ensures.cause.later; spares = c.read_onto.ensures.spares })
