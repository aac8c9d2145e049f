use Rattle.std.proofs.Common.{arith}
use Rattle.meta_layout.proofs.Fits.{meta-fits}
use Rattle.early_boot.proofs.taking_up.may_run.Goals as goal

pub state-requires : goal.state-requires
state-requires c =
    let f = meta-fits c.args.shown.now.layout c.args.shown.now.meta.meta c.requires in
    omega (arith, f.active, f.states, c.active.ensures, c.if-bank-active.true)

pub state-requires-then-bank-previous : goal.state-requires-then-bank-previous
state-requires-then-bank-previous c =
    let f = meta-fits c.args.shown.now.layout c.args.shown.now.meta.meta c.requires in
    omega (arith, f.previous, f.states, c.previous.ensures, c.if-bank-previous.true)
