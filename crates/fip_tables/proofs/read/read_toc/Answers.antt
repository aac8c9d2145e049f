use Rattle.std.proofs.Common.{sym, subst, Option}
use Rattle.host_io.specs.Contents.{Directory}
use Rattle.host_io.proofs.Reading.{reads-then}
use Rattle.fip_tables.specs.Files.{Tells}
use Rattle.fip_tables.proofs.Told.{stopped-some, stopped-told}
use Rattle.fip_tables.proofs.read.read_toc.Goals as goal

pub returns-in-Err-clause-told : goal.returns-in-Err-clause-told
returns-in-Err-clause-told g c = λ bytes told.
    stopped-told _ c.args.name.now c.in-Err.stop c.in-Err.ensures.fault bytes
    (subst (λ (o : Option Directory). Tells o c.args.name.now bytes) (sym c.in-Ok-Some.ensures.same) told)

pub returns-in-Err-clause-some : goal.returns-in-Err-clause-some
returns-in-Err-clause-some g c = stopped-some _ c.args.name.now c.in-Err.stop c.in-Err.ensures.fault

pub returns-in-Err-clause-reads : goal.returns-in-Err-clause-reads
returns-in-Err-clause-reads g c =
    reads-then g.H.Files _ g.met.H.Files.joins c.args.files.now c.size.new.self _
    (record { same = c.size.ensures.same; unwritten = c.size.ensures.unwritten; later = c.size.ensures.cause.later; spares = c.size.ensures.spares })
    c.feed_table.ensures.reads

pub returns-in-Ok-end-clause-reads : goal.returns-in-Ok-end-clause-reads
returns-in-Ok-end-clause-reads g c =
    reads-then g.H.Files _ g.met.H.Files.joins c.args.files.now c.size.new.self _
    (record { same = c.size.ensures.same; unwritten = c.size.ensures.unwritten; later = c.size.ensures.cause.later; spares = c.size.ensures.spares })
    c.feed_table.ensures.reads

pub returns-in-Err-end-clause-reads : goal.returns-in-Err-end-clause-reads
returns-in-Err-end-clause-reads g c =
    reads-then g.H.Files _ g.met.H.Files.joins c.args.files.now c.size.new.self _
    (record { same = c.size.ensures.same; unwritten = c.size.ensures.unwritten; later = c.size.ensures.cause.later; spares = c.size.ensures.spares })
    c.feed_table.ensures.reads
