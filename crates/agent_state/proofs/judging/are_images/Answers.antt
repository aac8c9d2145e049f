use Rattle.std.proofs.Common.{length, sym, ap, ap₂, ◌∙◌, arith}
use Rattle.agent_kept.specs.{Kept.kept, Judged.is_part_of}
use Rattle.agent_state.proofs.Judges.{all-rows, one-row}
use Rattle.agent_state.proofs.judging.are_images.Goals as goal

pub returns-then-not-is_image : goal.returns-then-not-is_image
returns-then-not-is_image c =
    let k = kept c.args.session.now in
    one-row k c.args.manifest.now c.loop-image.image c.requires.some c.requires.count c.loop-image.auto.image (omega (arith, c.loop-image-test.true, ap length c.rows-image-end.ensures.value))
    (ap₂ is_part_of (sym c.row_at.ensures) (sym c.part.ensures) ∙ sym c.is_image.ensures ∙ c.if-not-is_image.true)

pub returns : goal.returns
returns c =
    let some = c.requires.some in
    all-rows (kept c.args.session.now) c.args.manifest.now c.requires.some c.requires.count (λ j lt. c.loop-image.invariant j (omega (arith, lt, some, c.loop-image-test.false, ap length c.rows-image-end.ensures.value)))
