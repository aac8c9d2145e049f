use Rattle.std.proofs.Common.{◌≡◌, ◌∙◌, ◌<◌, ℕ, ap, sym, arith, length, refl}
use Rattle.std.proofs.lemmas.List.{length-replicate}
use Rattle.fwu_formats.specs.Package.{Part}
use Rattle.fip_tables.specs.Frame.{last_end, table_end}
use Rattle.fip_tables.proofs.Plans.{next-le-last}
use Rattle.fip_tables.proofs.frame.places_of.Goals.{then-offset-gt-LIMIT-via-then-offset-gt-LIMIT, then-offset-gt-LIMIT-via-else-offset-gt-LIMIT+then-part-offset}
use Rattle.fip_tables.proofs.frame.places_of.Goals as goal

pub returns-then-offset-gt-LIMIT-clause-err : goal.returns-then-offset-gt-LIMIT-clause-err
returns-then-offset-gt-LIMIT-clause-err c =
    let parts = c.args.parts.now in
    let next = next-le-last c.args.align c.loop-part.end c.loop-part.part-index parts c.part-item.result c.loop-part-test.true in
    let size : length c.part-item.result.bytes ≡ c.part.inside.size = ap (λ (p : Part). length p.bytes) (sym c.part.view_is) ∙ length-replicate {A = ℕ} c.part.inside.size 0 in
    let here = ap (λ (p : Part). length p.bytes) c.part-item.is in
    let offset = c.next_multiple_of-offset.ensures.value in
    let last = c.loop-part.invariant.last in
    let large : 67108864 < last_end c.args.align (table_end parts) parts =
    elim c.then-offset-gt-LIMIT.branch [
      | then-offset-gt-LIMIT-via-then-offset-gt-LIMIT w ↦ omega (arith, w.if-offset-gt-LIMIT.true, next, offset, last)
      | then-offset-gt-LIMIT-via-else-offset-gt-LIMIT+then-part-offset w ↦ omega (arith, w.if-offset-gt-LIMIT.false, w.if-part-offset.true, next, offset, last, size, here)
    ] in
    (refl, large)
