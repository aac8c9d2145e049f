use Rattle.std.proofs.Common.{◌≡◌, ◌∙◌, ◌<◌, ◌≤◌, ◌+◌, List, ap, drop, length, take, sym, arith}
use Rattle.std.proofs.lemmas.List.{drop-drop, drop-set-lt, length-set, take_more_set}
use Rattle.meta_layout.proofs.Places.{pushed}
use Rattle.fwu_c.specs.{Found.slot_of, declared.slots.Slot.Slot}
use Rattle.fwu_c.proofs.slots.put_slots.Goals as goal

pub loop-image-preserved : goal.loop-image-preserved
loop-image-preserved c =
    let slots = c.loop-image.slots.slots in
    let image = c.loop-image.image in
    let all : length slots ≡ 16 = c.loop-image.invariant.1 in
    let few : length c.rows-images.result.now ≤ 16 = rw c.rows-images.ensures.value c.rows-images.ensures.high in
    let near : image < length slots = omega (arith, all, few, c.loop-image-test.true) in (
      take_more_set slots image c.slot_at.result near
          ∙ pushed (slot_of c.args.layout.now c.args.bank) (take image slots) image c.slot_at.result c.loop-image.invariant.0 c.slot_at.ensures,
      length-set slots image c.slot_at.result ∙ all,
      drop-set-lt (image + 1) slots image c.slot_at.result (omega arith)
          ∙ sym (drop-drop 1 image slots) ∙ ap (λ (ks : List Slot). drop 1 ks) c.loop-image.invariant.2 ∙ drop-drop 1 image c.args.slots.now.slots,
    )
