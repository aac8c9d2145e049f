use Rattle.std.proofs.Common.{arith}
use Rattle.meta_layout.proofs.Fits.{meta-fits}
use Rattle.early_boot.proofs.showing.read_shown.Goals as goal

pub count_trials-requires-clause-active : goal.count_trials-requires-clause-active
count_trials-requires-clause-active g c =
    let f = meta-fits c.in_ok-layout.layout c.in_ok-meta.meta.meta c.in_ok-meta.ensures.fits in
    omega (arith, f.active, f.states)
