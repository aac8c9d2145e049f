use Rattle.host_io.proofs.Once.{once-one}
use Rattle.fip_making.proofs.Refusing.{handed-on}
use Rattle.fip_making.specs.declared.stops.Stop.TheVariants as stop
use Rattle.fip_making.proofs.table.feed_some.Goals as goal

pub returns-in_err-count-clause-source : goal.returns-in_err-count-clause-source
returns-in_err-count-clause-source g c =
    rw (handed-on c.from_residual.result stop.FileFault c.from_residual.ensures.1) (record {
      once = once-one g.I.Source c.args.source.now c.read.new.self _ c.in_err-count.ensures.made;
      later = c.in_err-count.ensures.cause.later;
      count = c.in_err-count.ensures.cause.count;
      sink = λ e. cc;
      refusals = tt;
    })

pub returns-in-Ok-clause-source : goal.returns-in-Ok-clause-source
returns-in-Ok-clause-source g c = record {
  once = once-one g.I.Source c.args.source.now c.read.new.self _ c.in_ok-count.ensures.made;
  later = c.in_ok-count.ensures.cause.later;
  count = c.in_ok-count.ensures.cause.count;
  sink = λ e. cc;
  refusals = tt;
}

pub returns-in-Err-clause-source : goal.returns-in-Err-clause-source
returns-in-Err-clause-source g c = record {
  once = once-one g.I.Source c.args.source.now c.read.new.self _ c.in_ok-count.ensures.made;
  later = c.in_ok-count.ensures.cause.later;
  count = c.in_ok-count.ensures.cause.count;
  sink = λ e. cc;
  refusals = tt;
}
