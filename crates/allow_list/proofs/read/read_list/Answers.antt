use Rattle.std.proofs.Common.{ℕ, List, [], Option, Ok, Err, IfOk, arith, subst, sym}
use Rattle.host_io.specs.Contents.{Directory, TellsSize}
use Rattle.host_io.proofs.Reading.{reads-then}
use Rattle.allow_list.specs.Lists.{IsAnswerOf}
use Rattle.allow_list.proofs.Reading.{at_end, at_first}
use Rattle.allow_list.proofs.read.read_list.Goals as goal

pub returns-in_err-read_at-clause-reads : goal.returns-in_err-read_at-clause-reads
returns-in_err-read_at-clause-reads g c =
    reads-then g.H.Files _ g.met.H.Files.joins c.args.files.now c.size.new.self c.read_at.new.self
    (record { same = c.size.ensures.same; unwritten = c.size.ensures.unwritten; later = c.size.ensures.cause.later; spares = c.size.ensures.spares })
    (record { same = c.read_at.ensures.same; unwritten = c.read_at.ensures.unwritten; later = c.read_at.ensures.cause.later; spares = c.read_at.ensures.spares })

pub returns-then-size-eq0-clause-reads : goal.returns-then-size-eq0-clause-reads
returns-then-size-eq0-clause-reads g c =
    reads-then g.H.Files _ g.met.H.Files.joins c.args.files.now c.size.new.self c.read_at.new.self
    (record { same = c.size.ensures.same; unwritten = c.size.ensures.unwritten; later = c.size.ensures.cause.later; spares = c.size.ensures.spares })
    (record { same = c.read_at.ensures.same; unwritten = c.read_at.ensures.unwritten; later = c.read_at.ensures.cause.later; spares = c.read_at.ensures.spares })

pub returns-clause-reads : goal.returns-clause-reads
returns-clause-reads g c =
    reads-then g.H.Files _ g.met.H.Files.joins c.args.files.now c.size.new.self c.read_lines.new.files
    (record { same = c.size.ensures.same; unwritten = c.size.ensures.unwritten; later = c.size.ensures.cause.later; spares = c.size.ensures.spares })
    c.read_lines.ensures.reads

pub returns-clause-ok : goal.returns-clause-ok
returns-clause-ok g c = subst (λ (o : Option Directory). IfOk c.read_lines.result (λ list. IsAnswerOf o c.args.name.now (Ok list))) c.size.ensures.same c.read_lines.ensures.ok

pub returns-clause-bad : goal.returns-clause-bad
returns-clause-bad g c = λ line e. subst (λ (o : Option Directory). IsAnswerOf o c.args.name.now (Err line)) c.size.ensures.same (c.read_lines.ensures.bad line e)

pub returns-then-size-eq0-clause-ok : goal.returns-then-size-eq0-clause-ok
returns-then-size-eq0-clause-ok g c =
    let told = g.H.Files.contents c.args.files.now in
    let name = c.args.name.now in
    let known = subst (λ (size : Option ℕ). TellsSize told name size) c.in-Some.is c.in_ok-size.ensures.size in
    subst (λ (digests : List (List ℕ)). IsAnswerOf told name (Ok digests)) (sym c.new.ensures)
    (at_end told name c.in-Some.size 0 1 [] known (omega (arith, c.if-size-eq0.true)) (at_first told name))
