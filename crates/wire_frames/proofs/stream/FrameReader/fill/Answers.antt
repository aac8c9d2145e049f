use Rattle.std.proofs.Common.{◌≡◌, ◌≤◌, ◌+◌, ◌-◌, ◌++◌, List, ℕ, ◌∙◌, ap, subst, sym, length, take, drop, arith, length-append, rules}
use Rattle.std.specs.Io.KnownBytes.{Consumes}
use Rattle.std.proofs.KnownBytes.{Consumes-trans}
use Rattle.std.proofs.lemmas.List.{length-take-le, length-drop, take_rest}
use Rattle.host_io.proofs.Once.{bytes-then, once-then}
use Rattle.wire_frames.proofs.Filling.{taken-more, read-none}
use Rattle.wire_frames.proofs.stream.FrameReader.fill.Goals as goal

pub loop-at-preserved : goal.loop-at-preserved
loop-at-preserved g c =
    let at = c.loop-at.at in
    let out = c.loop-at.out in
    let new = c.read_some.new.out in
    let was = c.loop-at.invariant in
    let tail : List ℕ = drop (length out - at) (drop at out) in
    let long : length new ≡ length out - at = c.read_some.auto.out ∙ ap length (take_rest out at) ∙ length-drop at out in
    let room : c.in-Ok.count ≤ length out - at = omega (arith, c.in-Ok.ensures.few, ap length (take_rest out at), length-drop at out) in
    record {
      came = subst (Consumes (g.I.Source.left c.args.source.now) (g.I.Source.left c.read_some.new.source))
          (sym (taken-more at c.in-Ok.count out new tail was.within (omega (arith, long, room))))
          (Consumes-trans _ (g.I.Source.left c.loop-at.source) _ (take at out) (take c.in-Ok.count new) was.came c.in-Ok.ensures.bytes);
      taken = c.in-Ok.ensures.taken ∙ ap (λ (n : ℕ). n + c.in-Ok.count) was.taken ∙ omega arith;
      within =
          let front = length-take-le at out was.within in
          let whole = length-append (take at out) (new ++ tail) in
          let rest = length-append new tail in
          omega (arith, front, whole, rest, long, room, was.within);
      most = c.read_some.ensures.within;
      faults = c.in-Ok.ensures.reads.faults ∙ was.faults;
      reads = bytes-then g.I.Source g.met.I.Source.joins _ c.loop-at.source _ was.reads c.in-Ok.ensures.reads.goes;
    }

pub returns-in-Err-clause-reads : goal.returns-in-Err-clause-reads
returns-in-Err-clause-reads g c =
    read-none g.I.Source _ _ _ (search rules) (search rules)
    (once-then g.I.Source g.met.I.Source.joins c.args.source.now c.loop-at.source c.read_some.new.source c.loop-at.invariant.reads c.read_some.ensures.reads.once)
