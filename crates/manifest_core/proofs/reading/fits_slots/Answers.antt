use Rattle.std.proofs.Common.{◌∙◌, sym, arith}
use Rattle.fwu_formats.specs.Manifest.{row_at}
use Rattle.manifest_core.specs.Shown.{fits_slot}
use Rattle.manifest_core.proofs.Paired.{all_pass, one_fails}
use Rattle.manifest_core.proofs.reading.fits_slots.Goals as goal

pub returns-then-not-fits_blocks : goal.returns-then-not-fits_blocks
returns-then-not-fits_blocks c =
    one_fails fits_slot (row_at c.args.bytes.now) c.args.images.now c.loop-j.j _ c.loop-j-test.true (sym c.if-not-fits_blocks.true ∙ c.fits_blocks.ensures)

pub returns : goal.returns
returns c = all_pass fits_slot (row_at c.args.bytes.now) c.args.images.now (λ k d below. c.loop-j.invariant k d (omega arith))
