use Rattle.std.proofs.Common.{arith}
use Rattle.meta_layout.proofs.Fits.{meta-fits}
use Rattle.early_boot.proofs.choosing.tried_first.Goals as goal

pub state-requires : goal.state-requires
state-requires c =
    let f = meta-fits c.args.shown.now.layout c.args.shown.now.meta.meta c.requires in
    omega (arith, f.active, f.states, c.active-active.ensures)
