use Rattle.std.proofs.Common.{[], inl, Option, sym, subst}
use Rattle.host_io.proofs.Reading.{reads-then}
use Rattle.host_io.specs.Contents.{Directory}
use Rattle.fip_tables.specs.Files.{Tells}
use Rattle.fwu_formats.specs.Capsule.{capsule_of, items_of, shape_of}
use Rattle.capsule_tables.proofs.OneByOne.{capsule-is, headers-fault, items-fault}
use Rattle.capsule_tables.proofs.Headers.{handed-on, stop-answers}
use Rattle.capsule_tables.proofs.read.read_capsule.Goals as goal

pub returns-in_err-shape-clause-told : goal.returns-in_err-shape-clause-told
returns-in_err-shape-clause-told g c = λ bytes told.
    let later = subst (λ (o : Option Directory). Tells o c.args.name.now bytes) (sym c.size.ensures.same) told in
    stop-answers _ c.in_err-shape.field-0.0 (shape_of bytes) (capsule_of bytes) (handed-on _ _ c.from_residual-in_err-shape.ensures.1) (c.in_err-shape.ensures.told bytes later) (headers-fault bytes)

pub returns-in_err-entries-clause-told : goal.returns-in_err-entries-clause-told
returns-in_err-entries-clause-told g c = λ bytes told.
    let later = subst (λ (o : Option Directory). Tells o c.args.name.now bytes) (sym c.size.ensures.same) told in
    let last = subst (λ (o : Option Directory). Tells o c.args.name.now bytes) (sym c.read_shape.ensures.reads.same) later in
    stop-answers _ c.in_err-entries.field-0.0 (items_of bytes c.in_ok-shape.shape) (capsule_of bytes) (handed-on _ _ c.from_residual-in_err-entries.ensures.1) (c.in_err-entries.ensures.told bytes last) (λ f. items-fault bytes c.in_ok-shape.shape f (c.in_ok-shape.ensures.told bytes later))

pub returns-clause-told : goal.returns-clause-told
returns-clause-told g c = λ bytes told.
    let later = subst (λ (o : Option Directory). Tells o c.args.name.now bytes) (sym c.size.ensures.same) told in
    let last = subst (λ (o : Option Directory). Tells o c.args.name.now bytes) (sym c.read_shape.ensures.reads.same) later in
    capsule-is bytes c.in_ok-shape.shape c.in_ok-entries.entries (c.in_ok-shape.ensures.told bytes later) (c.in_ok-entries.ensures.told bytes last)

pub returns-in_err-shape-clause-reads : goal.returns-in_err-shape-clause-reads
returns-in_err-shape-clause-reads g c =
    reads-then g.H.Files _ g.met.H.Files.joins c.args.files.now c.size.new.self _
    (record { same = c.size.ensures.same; unwritten = c.size.ensures.unwritten; later = c.size.ensures.cause.later; spares = c.size.ensures.spares })
    c.read_shape.ensures.reads

pub returns-in_err-entries-clause-reads : goal.returns-in_err-entries-clause-reads
returns-in_err-entries-clause-reads g c =
    reads-then g.H.Files _ g.met.H.Files.joins c.args.files.now c.size.new.self _
    (record { same = c.size.ensures.same; unwritten = c.size.ensures.unwritten; later = c.size.ensures.cause.later; spares = c.size.ensures.spares })
    (reads-then g.H.Files _ g.met.H.Files.joins _ _ _ c.read_shape.ensures.reads c.read_items.ensures.reads)

pub returns-clause-reads : goal.returns-clause-reads
returns-clause-reads g c =
    reads-then g.H.Files _ g.met.H.Files.joins c.args.files.now c.size.new.self _
    (record { same = c.size.ensures.same; unwritten = c.size.ensures.unwritten; later = c.size.ensures.cause.later; spares = c.size.ensures.spares })
    (reads-then g.H.Files _ g.met.H.Files.joins _ _ _ c.read_shape.ensures.reads c.read_items.ensures.reads)

pub returns-in_default-clause-some : goal.returns-in_default-clause-some
returns-in_default-clause-some g c =
    inl (record { size = 0; head = []; fields = []; answer = tt })
