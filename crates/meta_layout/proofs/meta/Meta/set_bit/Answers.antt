use Rattle.std.proofs.Common.{◌<◌, IsTrue, length, sym, subst}
use Rattle.fwu_formats.specs.Metadata.{MetaRead, fits_meta}
use Rattle.meta_layout.proofs.Fits.{fits-bit}
use Rattle.meta_layout.proofs.meta.Meta.set_bit.Goals as goal

pub returns-clause-fits : goal.returns-clause-fits
returns-clause-fits c L h =
    rw c.set.ensures (fits-bit L (record { active = c.self.inside.active; previous = c.self.inside.previous; states = c.self.inside.states; bits = c.self.inside.bits })
    (subst (λ (m : MetaRead). IsTrue (fits_meta L m.meta)) (sym c.self.view_is) h) c.args.bank c.args.image c.args.on
    (subst (λ (m : MetaRead). c.args.bank < length m.meta.bits) (sym c.self.view_is) c.requires.below))
