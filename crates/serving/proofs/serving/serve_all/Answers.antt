use Rattle.std.proofs.Common.{refl, Ok, arith, ◌∙◌, take}
use Rattle.host_io.proofs.Once.{bytes-none, bytes-then, once-bytes, once-then}
use Rattle.wire_frames.proofs.Readings.{length-frame}
use Rattle.serving.proofs.Steps.{ends-at, ends-there, so-far-more, so-far-none}
use Rattle.serving.proofs.serving.serve_all.Goals as goal

pub loop-size-init : goal.loop-size-init
loop-size-init g c =
    record {
      so_far = so-far-none _ _ _ c.new-reader.result c.new-reader.ensures (omega (arith, c.new-reader.ensures));
      powered = c.requires.powered;
      size = refl;
      files = refl;
      reads = bytes-none g.I.Source g.met.I.Source.at_rest c.args.source.now;
    }

pub returns-in-Err-clause-goes : goal.returns-in-Err-clause-goes
returns-in-Err-clause-goes g c =
    ends-there _ _ _ _ _ _ c.loop-size.invariant.so_far _ c.next.new.self c.end_of_stop.result c.in-Err.why c.in-Err.ensures.stops c.next.ensures.within c.in-Err.ensures.reads.faults c.next.ensures.reads.later c.end_of_stop.ensures

pub returns-in-Err-served-clause-goes : goal.returns-in-Err-served-clause-goes
returns-in-Err-served-clause-goes g c =
    let serves = rw c.loop-size.invariant.files at c.in-Err-served.ensures.serves in
    ends-at _ _ _ _ _ _ c.loop-size.invariant.so_far _ c.next.new.self (take c.in-Ok.size c.next.new.body) c.in-Ok.ensures.frame _ c.in-Err-served.end c.in-Ok.ensures.reads.faults c.next.ensures.within serves c.in-Err-served.ensures.ends

pub loop-size-smaller : goal.loop-size-smaller
loop-size-smaller g c = omega (arith, length-frame (take c.in-Ok.size c.next.new.body), c.in-Ok.ensures.frame.count, c.next.ensures.within)

pub loop-size-preserved : goal.loop-size-preserved
loop-size-preserved g c =
    let serves = rw c.loop-size.invariant.files at c.in_default.ensures.serves in
    record {
      so_far = so-far-more _ _ _ _ _ _ c.loop-size.invariant.so_far _ c.next.new.self (take c.in-Ok.size c.next.new.body) c.in-Ok.ensures.frame _ (Ok tt) c.in-Ok.ensures.reads.faults c.next.ensures.within serves refl;
      powered = c.in_default.ensures.leaves.powered;
      size = c.serve_one-served.ensures.leaves.size ∙ c.loop-size.invariant.size;
      files = c.serve_one-served.ensures.leaves.files ∙ c.loop-size.invariant.files;
      reads = bytes-then g.I.Source g.met.I.Source.joins c.args.source.now c.loop-size.source c.next.new.source c.loop-size.invariant.reads c.in-Ok.ensures.reads.goes;
    }

-- ---- what was read

pub returns-in-Err-clause-once : goal.returns-in-Err-clause-once
returns-in-Err-clause-once g c =
    once-then g.I.Source g.met.I.Source.joins c.args.source.now c.loop-size.source c.next.new.source c.loop-size.invariant.reads c.next.ensures.reads.once

pub returns-in-Err-served-clause-once : goal.returns-in-Err-served-clause-once
returns-in-Err-served-clause-once g c =
    once-bytes g.I.Source c.args.source.now c.next.new.source
    (bytes-then g.I.Source g.met.I.Source.joins c.args.source.now c.loop-size.source c.next.new.source c.loop-size.invariant.reads c.in-Ok.ensures.reads.goes)
