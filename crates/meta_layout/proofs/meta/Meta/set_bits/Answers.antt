use Rattle.std.proofs.Common.{IsTrue, sym, subst}
use Rattle.fwu_formats.specs.Metadata.{MetaRead, fits_meta}
use Rattle.meta_layout.proofs.Fits.{fits-bits}
use Rattle.meta_layout.proofs.meta.Meta.set_bits.Goals as goal

pub returns-clause-fits : goal.returns-clause-fits
returns-clause-fits c L row h =
    rw c.set_bank.ensures (fits-bits L (record { active = c.self.inside.active; previous = c.self.inside.previous; states = c.self.inside.states; bits = c.self.inside.bits })
    (subst (λ (m : MetaRead). IsTrue (fits_meta L m.meta)) (sym c.self.view_is) h) c.args.bank c.args.bits row)
