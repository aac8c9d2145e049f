use Rattle.std.proofs.Common.{◌∙◌, ap, arith, refl, subst, sym, ℕ, List, Option, Err}
use Rattle.host_io.specs.Contents.{Directory}
use Rattle.host_io.proofs.Reading.{reads-none, reads-then}
use Rattle.allow_list.specs.{declared.stops.ListStop.ListStop, Lists.AddsLine, Lists.IsAnswerOf, Lists.LacksLine}
use Rattle.allow_list.proofs.Reading.{IsReadTo, at_bad, at_end, at_first, at_next, whole_line}
use Rattle.allow_list.proofs.read.read_lines.Goals as goal

pub loop-at-init : goal.loop-at-init
loop-at-init g c = record {
  reads = reads-none g.H.Files _ g.met.H.Files.at_rest c.args.files.now;
  quiet = refl;
  inside = omega arith;
  few = omega arith;
  so_far = subst (λ (digests : List (List ℕ)). IsReadTo (g.H.Files.contents c.args.files.now) c.args.name.now 0 1 digests) (sym c.new-list.ensures)
      (at_first (g.H.Files.contents c.args.files.now) c.args.name.now);
}

pub overflow_add-at : goal.overflow_add-at
overflow_add-at g c =
    let long = (whole_line _ c.args.name.now c.args.size c.loop-at.at c.loop-at.list c.add_line.new.list c.in_ok-add_line.ensures.added).1 in
    omega (arith, long, c.ranges.size)

pub overflow_add-number : goal.overflow_add-number
overflow_add-number g c =
    let long = (whole_line _ c.args.name.now c.args.size c.loop-at.at c.loop-at.list c.add_line.new.list c.in_ok-add_line.ensures.added).1 in
    omega (arith, long, c.loop-at.invariant.few, c.ranges.size)

pub loop-at-preserved : goal.loop-at-preserved
loop-at-preserved g c =
    let h = c.loop-at.invariant in
    let told = g.H.Files.contents c.args.files.now in
    let added = subst (λ (o : Option Directory). AddsLine o c.args.name.now c.args.size c.loop-at.at c.loop-at.list c.add_line.new.list) h.reads.same c.in_ok-add_line.ensures.added in
    let long = (whole_line told c.args.name.now c.args.size c.loop-at.at c.loop-at.list c.add_line.new.list added).1 in
    record {
      reads = reads-then g.H.Files _ g.met.H.Files.joins _ _ _ h.reads c.add_line.ensures.reads;
      quiet = c.in_ok-add_line.ensures.cause.done ∙ h.quiet;
      inside = omega (arith, long);
      few = omega (arith, h.few);
      so_far = at_next told c.args.name.now c.args.size c.loop-at.at c.loop-at.number c.loop-at.list c.add_line.new.list h.so_far added;
    }

pub returns-in_err-add_line-clause-bad : goal.returns-in_err-add_line-clause-bad
returns-in_err-add_line-clause-bad g c = λ line e.
    let h = c.loop-at.invariant in
    let told = g.H.Files.contents c.args.files.now in
    let why = rw e at c.from_residual.ensures.1 in
    let bad = c.in_err-add_line.ensures.bad line (ap (λ (s : ListStop). Err s) (sym why)) in
    subst (λ (n : ℕ). IsAnswerOf told c.args.name.now (Err n)) (sym bad.0)
    (at_bad told c.args.name.now c.args.size c.loop-at.at c.loop-at.number c.loop-at.list c.requires.known c.loop-at-test.true h.so_far
    (subst (λ (o : Option Directory). LacksLine o c.args.name.now c.args.size c.loop-at.at) h.reads.same bad.1))

pub returns-in_err-add_line-clause-reads : goal.returns-in_err-add_line-clause-reads
returns-in_err-add_line-clause-reads g c = reads-then g.H.Files _ g.met.H.Files.joins _ _ _ c.loop-at.invariant.reads c.add_line.ensures.reads

pub returns-clause-ok : goal.returns-clause-ok
returns-clause-ok g c =
    at_end (g.H.Files.contents c.args.files.now) c.args.name.now c.args.size c.loop-at.at c.loop-at.number c.loop-at.list c.requires.known c.loop-at-test.false c.loop-at.invariant.so_far
