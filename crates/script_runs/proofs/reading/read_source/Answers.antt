use Rattle.std.proofs.Common.{arith, ap, ◌∙◌, inr, refl, length-take, List, [], subst, sym, ℕ}
use Rattle.std.specs.Prelude.{not}
use Rattle.host_io.specs.Calls.{raised}
use Rattle.host_io.proofs.Once.{bytes-none, bytes-one, bytes-then, once-one, once-then}
use Rattle.script_runs.proofs.TopSources.{IsReading, goes-on, may-fail, none-fails, nothing-yet, raised-rose, starves-piece, takes-failed, takes-long, takes-none, takes-short}
use Rattle.script_runs.proofs.reading.read_source.Goals as goal

pub loop-count-init : goal.loop-count-init
loop-count-init g c = record {
  text =
      let left = g.I.Source.left c.args.source.now in
      let faults = g.I.Source.faults c.args.source.now in
      subst (λ (l : List ℕ). IsReading left left faults faults c.new-limit.result l) (sym c.new-text.ensures.items) (nothing-yet left faults c.new-limit.result c.new-limit.ensures);
  reads = bytes-none g.I.Source g.met.I.Source.at_rest c.args.source.now;
}

pub loop-count-preserved : goal.loop-count-preserved
loop-count-preserved g c = record {
  text =
      goes-on _ _ _ _ _ _ c.loop-count.limit _ _ _ _ c.in-Ok.count c.feed.result _ c.loop-count.invariant.text c.in-Ok.ensures.cause.count c.in-Ok.ensures.bytes.0 c.in-Ok.ensures.bound.1
      c.feed.ensures.some c.if-feed-count.false c.feed.ensures.taken c.extend_from_slice.ensures.items (c.is_err.ensures.negation ∙ ap not c.if-is_err.false);
  reads =
      bytes-then g.I.Source g.met.I.Source.joins c.args.source.now c.loop-count.source c.read.new.self c.loop-count.invariant.reads
      (bytes-one g.I.Source c.loop-count.source c.read.new.self _ c.in-Ok.ensures.made (omega arith));
}

-- ---- what was read, and how often that failed

pub returns-in-Err-clause-takes : goal.returns-in-Err-clause-takes
returns-in-Err-clause-takes g c = takes-failed _ _ _ _ _ c.loop-count.limit _ c.loop-count.invariant.text c.in-Err.ensures.bytes

pub returns-in-Err-clause-failed : goal.returns-in-Err-clause-failed
returns-in-Err-clause-failed g c = λ is. raised-rose _ _ (c.in-Err.ensures.cause.count ∙ ap raised c.loop-count.invariant.text.none)

pub returns-in-Err-clause-count : goal.returns-in-Err-clause-count
returns-in-Err-clause-count g c = may-fail 2 _ _ refl (inr (c.in-Err.ensures.cause.count ∙ ap raised c.loop-count.invariant.text.none))

pub returns-then-count-eq0-clause-takes : goal.returns-then-count-eq0-clause-takes
returns-then-count-eq0-clause-takes g c =
    takes-none _ _ _ _ _ c.loop-count.limit _ _ 0 c.loop-count.invariant.text c.in-Ok.ensures.bytes.0 (omega (arith, c.if-count-eq0.true, c.in-Ok.ensures.bound.1)) (λ is. absurd (omega arith))
    (λ all. c.in-Ok.ensures.bytes.1 c.if-count-eq0.true (omega (arith, c.min-room.ensures, c.len.ensures, c.loop-count.invariant.text.extent.few, c.read.auto.out, length-take c.min-room.result c.loop-count.buffer)))

pub returns-then-count-eq0-clause-count : goal.returns-then-count-eq0-clause-count
returns-then-count-eq0-clause-count g c = none-fails [] _ _ _ (c.in-Ok.ensures.cause.count ∙ c.loop-count.invariant.text.none)

pub returns-then-feed-count-clause-takes : goal.returns-then-feed-count-clause-takes
returns-then-feed-count-clause-takes g c =
    takes-long _ _ _ _ _ c.loop-count.limit _ _ c.feed.result c.loop-count.invariant.text c.in-Ok.ensures.bytes.0
    (omega (arith, c.in-Ok.ensures.bound.0, c.in-Ok.ensures.bound.1, c.min-room.ensures, c.read.auto.out, length-take c.min-room.result c.loop-count.buffer))
    (omega (arith, c.in-Ok.ensures.bound.0, c.in-Ok.ensures.bound.1, c.min-room.ensures, c.len.ensures, c.loop-count.invariant.text.extent.few, c.read.auto.out, length-take c.min-room.result c.loop-count.buffer))
    (omega (arith, c.if-feed-count.true, c.in-Ok.ensures.bound.1)) c.feed.ensures.full

pub returns-then-feed-count-clause-count : goal.returns-then-feed-count-clause-count
returns-then-feed-count-clause-count g c = none-fails [] _ _ _ (c.in-Ok.ensures.cause.count ∙ c.loop-count.invariant.text.none)

pub returns-then-is_err-clause-starved : goal.returns-then-is_err-clause-starved
returns-then-is_err-clause-starved g c is =
    starves-piece _ _ _ _ _ _ c.loop-count.limit _ _ _ c.feed.result c.loop-count.invariant.text c.in-Ok.ensures.cause.count c.in-Ok.ensures.bytes.0
    (omega (arith, c.in-Ok.ensures.bound.0, c.in-Ok.ensures.bound.1, c.min-room.ensures, c.read.auto.out, length-take c.min-room.result c.loop-count.buffer))
    (omega (arith, c.in-Ok.ensures.bound.0, c.in-Ok.ensures.bound.1, c.min-room.ensures, c.len.ensures, c.loop-count.invariant.text.extent.few, c.read.auto.out, length-take c.min-room.result c.loop-count.buffer))
    c.feed.ensures.some (omega (arith, c.if-feed-count.false, c.in-Ok.ensures.bound.1)) c.feed.ensures.taken

pub returns-then-is_err-clause-takes : goal.returns-then-is_err-clause-takes
returns-then-is_err-clause-takes g c =
    takes-short 9 _ _ (returns-then-is_err-clause-starved g c refl).in_time (λ eight. absurd (omega arith)) refl refl

pub returns-then-is_err-clause-count : goal.returns-then-is_err-clause-count
returns-then-is_err-clause-count g c = none-fails [] _ _ _ (c.in-Ok.ensures.cause.count ∙ c.loop-count.invariant.text.none)

-- ---- no read behind the end, or behind a failure

pub returns-in-Err-clause-once : goal.returns-in-Err-clause-once
returns-in-Err-clause-once g c =
    once-then g.I.Source g.met.I.Source.joins c.args.source.now c.loop-count.source c.read.new.self c.loop-count.invariant.reads (once-one g.I.Source c.loop-count.source c.read.new.self _ c.in-Err.ensures.made)

pub returns-then-count-eq0-clause-once : goal.returns-then-count-eq0-clause-once
returns-then-count-eq0-clause-once g c =
    once-then g.I.Source g.met.I.Source.joins c.args.source.now c.loop-count.source c.read.new.self c.loop-count.invariant.reads (once-one g.I.Source c.loop-count.source c.read.new.self _ c.in-Ok.ensures.made)

pub returns-then-feed-count-clause-once : goal.returns-then-feed-count-clause-once
returns-then-feed-count-clause-once g c =
    once-then g.I.Source g.met.I.Source.joins c.args.source.now c.loop-count.source c.read.new.self c.loop-count.invariant.reads (once-one g.I.Source c.loop-count.source c.read.new.self _ c.in-Ok.ensures.made)

pub returns-then-is_err-clause-once : goal.returns-then-is_err-clause-once
returns-then-is_err-clause-once g c =
    once-then g.I.Source g.met.I.Source.joins c.args.source.now c.loop-count.source c.read.new.self c.loop-count.invariant.reads (once-one g.I.Source c.loop-count.source c.read.new.self _ c.in-Ok.ensures.made)
