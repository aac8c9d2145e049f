use Rattle.std.proofs.Common.{[], ◌∙◌, ℕ, List, Option, take, drop, ap, sym, subst, arith}
use Rattle.host_io.proofs.Reading.{reads-then}
use Rattle.host_io.specs.Contents.{Directory}
use Rattle.fip_tables.proofs.Told.{size_is}
use Rattle.fip_tables.specs.Files.{Tells}
use Rattle.capsule_tables.specs.Ranges.{header_read, shape_read}
use Rattle.capsule_tables.proofs.Headers.{header-fault, header-passes, of-fields, of-header, of-shape, too-short, fault-answers}
use Rattle.capsule_tables.proofs.shape.read_shape.Goals as goal

pub returns-then-size-lt-HEADER_SIZE-clause-told : goal.returns-then-size-lt-HEADER_SIZE-clause-told
returns-then-size-lt-HEADER_SIZE-clause-told g c = λ bytes told.
    too-short bytes (let size = size_is _ c.args.name.now bytes c.args.size told c.requires.known in omega (arith, size, c.if-size-lt-HEADER_SIZE.true))

pub returns-in_err-header-clause-told : goal.returns-in_err-header-clause-told
returns-in_err-header-clause-told g c = λ bytes told.
    let size = size_is _ c.args.name.now bytes c.args.size told c.requires.known in
    let head = c.in_ok-read_range.ensures.bytes bytes told in
    let found = ap (λ (n : ℕ). header_read (take 28 (drop 0 bytes)) n) (sym size) ∙ ap (λ (h : List ℕ). header_read h c.args.size) (sym head) ∙ sym c.header_in.ensures.value ∙ c.in_err-header.was in
    fault-answers c.from_residual-in_err-header.result c.in_err-header.field-0.0 _ c.from_residual-in_err-header.ensures.1
    (header-fault bytes (omega (arith, size, c.if-size-lt-HEADER_SIZE.false)) c.in_err-header.field-0.0 found)

pub returns-in_err-shape-clause-told : goal.returns-in_err-shape-clause-told
returns-in_err-shape-clause-told g c = λ bytes told.
    let size = size_is _ c.args.name.now bytes c.args.size told c.requires.known in
    let later = subst (λ (o : Option Directory). Tells o c.args.name.now bytes) (sym c.read_range.ensures.reads.same) told in
    let head = c.in_ok-read_range.ensures.bytes bytes told in
    let fields = c.in_ok-read_range-2.ensures.bytes bytes later in
    let found = ap (λ (n : ℕ). header_read (take 28 (drop 0 bytes)) n) (sym size) ∙ ap (λ (h : List ℕ). header_read h c.args.size) (sym head) ∙ sym c.header_in.ensures.value ∙ c.in_ok-header.was in
    let passes = header-passes bytes (omega (arith, size, c.if-size-lt-HEADER_SIZE.false)) c.in_ok-header.header c.in_ok-header.end found in
    fault-answers c.from_residual-in_err-shape.result c.in_err-shape.field-0.0 _ c.from_residual-in_err-shape.ensures.1
    (passes ∙ ap (shape_read c.in_ok-header.header c.in_ok-header.end) (sym fields) ∙ sym c.shape_in.ensures.value ∙ c.in_err-shape.was)

pub returns-clause-told : goal.returns-clause-told
returns-clause-told g c = λ bytes told.
    let size = size_is _ c.args.name.now bytes c.args.size told c.requires.known in
    let later = subst (λ (o : Option Directory). Tells o c.args.name.now bytes) (sym c.read_range.ensures.reads.same) told in
    let head = c.in_ok-read_range.ensures.bytes bytes told in
    let fields = c.in_ok-read_range-2.ensures.bytes bytes later in
    let found = ap (λ (n : ℕ). header_read (take 28 (drop 0 bytes)) n) (sym size) ∙ ap (λ (h : List ℕ). header_read h c.args.size) (sym head) ∙ sym c.header_in.ensures.value ∙ c.in_ok-header.was in
    let passes = header-passes bytes (omega (arith, size, c.if-size-lt-HEADER_SIZE.false)) c.in_ok-header.header c.in_ok-header.end found in
    passes ∙ ap (shape_read c.in_ok-header.header c.in_ok-header.end) (sym fields) ∙ sym c.shape_in.ensures.value ∙ c.in_ok-shape.was

pub returns-in_err-read_range-2-clause-reads : goal.returns-in_err-read_range-2-clause-reads
returns-in_err-read_range-2-clause-reads g c =
    reads-then g.H.Files _ g.met.H.Files.joins _ _ _ c.read_range.ensures.reads c.read_range-2.ensures.reads

pub returns-in_err-shape-clause-reads : goal.returns-in_err-shape-clause-reads
returns-in_err-shape-clause-reads g c =
    reads-then g.H.Files _ g.met.H.Files.joins _ _ _ c.read_range.ensures.reads c.read_range-2.ensures.reads

pub returns-clause-reads : goal.returns-clause-reads
returns-clause-reads g c =
    reads-then g.H.Files _ g.met.H.Files.joins _ _ _ c.read_range.ensures.reads c.read_range-2.ensures.reads

pub returns-in_err-header-clause-some : goal.returns-in_err-header-clause-some
returns-in_err-header-clause-some g c =
    of-header c.args.size c.read_range.new.out [] (omega (arith, c.if-size-lt-HEADER_SIZE.false)) c.from_residual-in_err-header.result c.in_err-header.field-0.0 c.from_residual-in_err-header.ensures.1
    (sym c.header_in.ensures.value ∙ c.in_err-header.was)

pub returns-in_err-shape-clause-some : goal.returns-in_err-shape-clause-some
returns-in_err-shape-clause-some g c =
    of-fields c.args.size c.read_range.new.out c.read_range-2.new.out (omega (arith, c.if-size-lt-HEADER_SIZE.false)) c.in_ok-header.header c.in_ok-header.end (sym c.header_in.ensures.value ∙ c.in_ok-header.was)
    c.from_residual-in_err-shape.result c.in_err-shape.field-0.0 c.from_residual-in_err-shape.ensures.1 (sym c.shape_in.ensures.value ∙ c.in_err-shape.was)

pub returns-clause-some : goal.returns-clause-some
returns-clause-some g c =
    of-shape c.args.size c.read_range.new.out c.read_range-2.new.out (omega (arith, c.if-size-lt-HEADER_SIZE.false)) c.in_ok-header.header c.in_ok-header.end (sym c.header_in.ensures.value ∙ c.in_ok-header.was) c.in_ok-shape.shape
    (sym c.shape_in.ensures.value ∙ c.in_ok-shape.was)
