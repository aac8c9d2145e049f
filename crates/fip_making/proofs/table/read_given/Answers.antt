use Rattle.std.proofs.Common.{ℕ, List, Ok, ap, arith, subst, ◌∙◌}
use Rattle.std.proofs.lemmas.Result.{IfErr-weaker}
use Rattle.base_core.specs.Counts.{Rose}
use Rattle.host_io.proofs.Once.{bytes-none, bytes-one, bytes-then, once-then}
use Rattle.fip_making.proofs.{Tables.rose-from, Refusing.handed-on}
use Rattle.fip_making.proofs.SourceLemmas.{goes-on, last, nothing-yet, stopped, too-long, ended-quiet}
use Rattle.fip_making.specs.{Answers.FedSome, Answers.source_failed, Stops.IsOfSource, Stops.Unstarved}
use Rattle.fip_making.proofs.table.read_given.Goals as goal

pub loop-count-init : goal.loop-count-init
loop-count-init g c = record {
  read = nothing-yet _ _ _ c.new-stream.ensures;
  reads = bytes-none g.I.Source g.met.I.Source.at_rest c.args.source.now;
}

pub loop-count-preserved : goal.loop-count-preserved
loop-count-preserved g c =
    let so-far = c.loop-count.invariant.read.so-far in record {
      read =
          goes-on _ _ _ _ _ _ c.loop-count.stream c.feed_some.new.stream c.loop-count.count c.in_ok-some.some (Rose (g.I.Source.faults c.loop-count.source) (g.I.Source.faults c.feed_some.new.source)) c.loop-count.invariant.read (omega (arith, c.loop-count-test.true)) c.in_ok-some.ensures.few c.in_ok-some.ensures.source.later
          c.in_ok-some.ensures.source.count (c.in_ok-some.ensures.fed so-far.given so-far.fed);
      reads =
          bytes-then g.I.Source g.met.I.Source.joins c.args.source.now c.loop-count.source c.feed_some.new.source c.loop-count.invariant.reads
          (bytes-one g.I.Source c.loop-count.source c.feed_some.new.source _ c.in_ok-some.ensures.made (omega arith));
    }

pub returns-in_err-some-clause-given : goal.returns-in_err-some-clause-given
returns-in_err-some-clause-given g c =
    rw (handed-on c.from_residual.result c.in_err-some.field-0.0 c.from_residual.ensures.1) (stopped _ _ _ c.loop-count.stream c.feed_some.new.stream c.loop-count.count _ _ 0 _ _ (λ r. rose-from _ _ _ c.loop-count.invariant.read.later r) (omega (arith, c.loop-count-test.true)) c.loop-count.invariant.read c.in_err-some.field-0.0
    (c.in_err-some.ensures.fed c.loop-count.invariant.read.so-far.given c.loop-count.invariant.read.so-far.fed))

pub returns-then-some-eq0-clause-given : goal.returns-then-some-eq0-clause-given
returns-then-some-eq0-clause-given g c =
    let given = c.loop-count.invariant.read.so-far.given in
    last _ _ _ _ _ 0 c.loop-count.stream c.feed_some.new.stream c.loop-count.count (Unit {0}) _ c.ended.result (omega (arith, c.loop-count-test.true)) c.loop-count.invariant.read
    (subst (λ (n : ℕ). (piece : List ℕ) × FedSome c.feed_some.new.stream given piece (g.I.Source.left c.loop-count.source) (g.I.Source.left c.feed_some.new.source) (Rose (g.I.Source.faults c.loop-count.source) (g.I.Source.faults c.feed_some.new.source)) (Ok n))
    c.if-some-eq0.true (c.in_ok-some.ensures.fed given c.loop-count.invariant.read.so-far.fed))
    c.ended.ensures.table c.ended.ensures.asks.file

pub returns-clause-given : goal.returns-clause-given
returns-clause-given g c = too-long _ _ _ _ c.loop-count.stream c.loop-count.count (Unit {0}) c.loop-count.invariant.read (omega (arith, c.loop-count-test.false))

pub returns-in_err-some-clause-source : goal.returns-in_err-some-clause-source
returns-in_err-some-clause-source g c =
    let e = c.in_err-some.ensures.source in
    rw (handed-on c.from_residual.result c.in_err-some.field-0.0 c.from_residual.ensures.1) (record {
      once = once-then g.I.Source g.met.I.Source.joins c.args.source.now c.loop-count.source c.feed_some.new.source c.loop-count.invariant.reads e.once;
      later = omega (arith, c.loop-count.invariant.read.later, e.later);
      count = e.count ∙ ap (source_failed c.in_err-some.field-0.0) c.loop-count.invariant.read.none;
      sink = λ same. e.sink cc;
      refusals = e.refusals;
    })

pub returns-then-some-eq0-clause-source : goal.returns-then-some-eq0-clause-source
returns-then-some-eq0-clause-source g c =
    let e = c.in_ok-some.ensures.source in record {
      once = once-then g.I.Source g.met.I.Source.joins c.args.source.now c.loop-count.source c.feed_some.new.source c.loop-count.invariant.reads e.once;
      later = omega (arith, c.loop-count.invariant.read.later, e.later);
      count = e.count ∙ c.loop-count.invariant.read.none ∙ ended-quiet c.ended.result _ c.ended.ensures.asks.file;
      sink = c.ended.ensures.asks.sink;
      refusals = IfErr-weaker c.ended.result (Unstarved IsOfSource) IsOfSource (λ s own. own.0) c.ended.ensures.asks.refusals;
    }
