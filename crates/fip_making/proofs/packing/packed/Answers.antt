use Rattle.std.proofs.Common.{◌∙◌, List}
use Rattle.fwu_formats.specs.Package.{Part, packed}
use Rattle.fip_making.specs.{Stops.packed_by, Values.pack_value}
use Rattle.fip_making.proofs.{Packings.packs-not, Packings.packs-zeroed, Refusing.handed-on}
use Rattle.fip_making.proofs.Makings.{makes-framed, makes-unpacked}
use Rattle.fip_making.proofs.packing.packed.Goals as goal

pub returns-in_err-frame : goal.returns-in_err-frame
returns-in_err-frame c =
    rw (handed-on c.from_residual-in_err-frame.result (packed_by c.in_err-frame.field-0.0) c.from_residual-in_err-frame.ensures.1)
    (makes-unpacked (λ (parts : List Part). pack_value c.args.serial c.args.flags parts c.args.align) c.args.payloads.now c.as_slice.result.now (c.as_slice.ensures.value ∙ c.in_ok-outlines.ensures)
    c.in_err-frame.field-0.0 (λ parts same f is. packs-not c.args.serial c.args.flags c.args.align parts c.as_slice.result.now same f (c.in_err-frame.ensures.fault.err f cc)))

pub returns : goal.returns
returns c =
    makes-framed (λ (parts : List Part). pack_value c.args.serial c.args.flags parts c.args.align) c.args.payloads.now c.as_slice.result.now (c.as_slice.ensures.value ∙ c.in_ok-outlines.ensures)
    (λ (parts : List Part). packed c.args.serial c.args.flags parts c.args.align) c.in_ok-frame.frame c.in_ok-new.field-0
    c.in_ok-new.ensures c.in_ok-frame.ensures.frame (λ parts same. packs-zeroed c.args.serial c.args.flags c.args.align parts c.as_slice.result.now same c.in_ok-frame.ensures.fault.fits)
