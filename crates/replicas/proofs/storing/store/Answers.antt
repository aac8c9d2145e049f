use Rattle.std.proofs.Common.{subst, List, ℕ}
use Rattle.flash_core.specs.Replaces.{padded}
use Rattle.replicas.specs.Stores.{WritesBoth}
use Rattle.replicas.proofs.Both.{stored}
use Rattle.replicas.proofs.storing.store.Goals as goal

pub returns-clause-stores : goal.returns-clause-stores
returns-clause-stores g c tells =
    let s = g.D.Flash.told c.args.flash.now in
    let writes = subst (λ (bytes : List ℕ). WritesBoth c.write_both.result (padded bytes) s (g.D.Flash.told c.write_both.new.flash)) c.spell-size.ensures.spelled (c.write_both.ensures.writes tells) in
    stored c.write_both.result c.args.layout.now c.spell-size.ensures.layout c.args.meta.now.meta c.requires.fits s _ writes
