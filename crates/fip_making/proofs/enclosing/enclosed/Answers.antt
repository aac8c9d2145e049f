use Rattle.std.proofs.Common.{◌∙◌}
use Rattle.capsule_tables.specs.Making.{capsule_bytes}
use Rattle.fip_making.specs.{Stops.packed_by, Values.enclose_value}
use Rattle.fip_making.proofs.{Makings.makes-framed, Makings.makes-unpacked, Refusing.handed-on}
use Rattle.fip_making.proofs.Conversions.{encloses-not, encloses-zeroed}
use Rattle.fip_making.proofs.enclosing.enclosed.Goals as goal

pub returns-in_err-frame : goal.returns-in_err-frame
returns-in_err-frame c =
    rw (handed-on c.from_residual-in_err-frame.result (packed_by c.in_err-frame.field-0.0) c.from_residual-in_err-frame.ensures.1)
    (makes-unpacked enclose_value c.args.payloads.now c.as_slice.result.now (c.as_slice.ensures.value ∙ c.in_ok-outlines.ensures) c.in_err-frame.field-0.0
    (λ parts same f is. encloses-not parts c.as_slice.result.now same f (c.in_err-frame.ensures.fault.err f cc)))

pub returns : goal.returns
returns c =
    makes-framed enclose_value c.args.payloads.now c.as_slice.result.now (c.as_slice.ensures.value ∙ c.in_ok-outlines.ensures) capsule_bytes c.in_ok-frame.frame c.in_ok-new.field-0
    c.in_ok-new.ensures c.in_ok-frame.ensures.frame (λ parts same. encloses-zeroed parts c.as_slice.result.now same c.in_ok-frame.ensures.fault.fits)
