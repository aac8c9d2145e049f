use Rattle.std.proofs.Common.{◌≡◌, ◌<◌, false, List, ℕ, ◌∙◌, subst, sym, refl, length, take, drop, ◌++◌, arith, length-append, rules}
use Rattle.std.proofs.lemmas.List.{length-take, length-take-le}
use Rattle.std.proofs.lemmas.Bool.{false≢true}
use Rattle.host_io.proofs.Once.{bytes-then, once-then}
use Rattle.wire_frames.specs.Stream.{StopsReading}
use Rattle.wire_frames.proofs.Filling.{cuts-behind, partial-body, reads-frame, stops-by, read-none}
use Rattle.wire_frames.proofs.stream.FrameReader.next.Goals as goal

pub returns-in-Ok-clause-frame : goal.returns-in-Ok-clause-frame
returns-in-Ok-clause-frame g c =
    let room = c.requires.room in
    let n = c.length_in-length.result in
    let few = c.if-length-gt-MOST_BODY_BYTES.false in
    let size : length c.fill-2.new.out ≡ n = c.fill-2.auto.out ∙ length-take-le n c.args.body.now (omega (arith, room, few)) in
    reads-frame c.fill.new.out c.fill-2.new.out (drop n c.args.body.now) _ n _ c.fill.new.self _ _ (g.I.Source.left c.fill.new.source) _
    c.fill.auto.out c.length_in-length.ensures.spelled c.if-length-lt-FEWEST_BODY_BYTES.false few size refl c.in_default.ensures.bytes c.in-Ok.ensures.bytes c.in_default.ensures.taken c.in-Ok.ensures.taken

pub returns-in-Err-fill-clause-stops : goal.returns-in-Err-fill-clause-stops
returns-in-Err-fill-clause-stops g c =
    let room = c.requires.room in
    let n = c.length_in-length.result in
    let few = c.if-length-gt-MOST_BODY_BYTES.false in
    let head = c.fill.new.out in
    let short = c.in-Err-fill.short in
    let got : List ℕ = take short.count c.fill-2.new.out in
    let less : short.count < n = omega (arith, c.in-Err-fill.ensures.short, length-take-le n c.args.body.now (omega (arith, room, few))) in
    let fewer : length got < n = omega (arith, less, length-take short.count c.fill-2.new.out) in
    subst (λ why. StopsReading why c.args.self.now c.fill-2.new.self (g.I.Source.left c.args.source.now) (g.I.Source.left c.fill-2.new.source)) (sym c.stop_of-in-Err-fill.ensures)
    (stops-by short.why (head ++ got) c.args.self.now c.fill-2.new.self false _ _
    (cuts-behind short.why head got _ c.fill.new.self _ _ (g.I.Source.left c.fill.new.source) _ c.in_default.ensures.bytes c.in_default.ensures.taken c.in-Err-fill.ensures.cut)
    (partial-body head got n c.fill.auto.out c.length_in-length.ensures.value c.if-length-lt-FEWEST_BODY_BYTES.false few fewer)
    (λ is. absurd (false≢true is)) (λ is. omega (arith, length-append head got, c.fill.auto.out)))

pub returns-in-Ok-clause-reads : goal.returns-in-Ok-clause-reads
returns-in-Ok-clause-reads g c = record {
  faults = search rules;
  later = search rules;
  goes = bytes-then g.I.Source g.met.I.Source.joins c.args.source.now c.fill.new.source c.fill-2.new.source c.in_default.ensures.reads.goes c.in-Ok.ensures.reads.goes;
  once = once-then g.I.Source g.met.I.Source.joins c.args.source.now c.fill.new.source c.fill-2.new.source c.in_default.ensures.reads.goes c.fill-2.ensures.reads.once;
}

pub returns-in-Err-fill-clause-reads : goal.returns-in-Err-fill-clause-reads
returns-in-Err-fill-clause-reads g c =
    read-none g.I.Source _ _ _ (search rules) (search rules)
    (once-then g.I.Source g.met.I.Source.joins c.args.source.now c.fill.new.source c.fill-2.new.source c.in_default.ensures.reads.goes c.fill-2.ensures.reads.once)
