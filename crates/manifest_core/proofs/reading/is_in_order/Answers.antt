use Rattle.std.proofs.Common.{◌≡◌, ℕ, ◌∙◌, sym, ap, true, get_or, arith, inl, inr}
use Rattle.std.proofs.lemmas.Bool.{cases_lt}
use Rattle.std.proofs.lemmas.List.{get_or_default}
use Rattle.base_core.specs.declared.rows.ImageRow.{ImageRow}
use Rattle.fwu_formats.specs.Manifest.{row_at}
use Rattle.manifest_core.specs.Shown.{is_named}
use Rattle.manifest_core.proofs.Paired.{all_pass, one_fails}
use Rattle.manifest_core.proofs.reading.is_in_order.Goals as goal

pub loop-j-preserved : goal.loop-j-preserved
loop-j-preserved c = λ k d below.
    elim (cases_lt k c.loop-j.j) [
      | inl under ↦ c.loop-j.invariant k d under
      | inr over ↦
          let at : c.loop-j.j ≡ k = omega arith in
          let here : true ≡ is_named (get_or c.args.images.now c.loop-j.j c.index-images-j.result) (row_at c.args.bytes.now c.loop-j.j) = sym c.if-not-is_row_of.false ∙ c.is_row_of.ensures in
          here
          ∙ ap (λ (r : ImageRow). is_named r (row_at c.args.bytes.now c.loop-j.j)) (get_or_default c.args.images.now c.loop-j.j c.index-images-j.result d c.loop-j-test.true)
          ∙ ap (λ (n : ℕ). is_named (get_or c.args.images.now n d) (row_at c.args.bytes.now n)) at
    ]

pub returns-then-not-is_row_of : goal.returns-then-not-is_row_of
returns-then-not-is_row_of c =
    one_fails is_named (row_at c.args.bytes.now) c.args.images.now c.loop-j.j _ c.loop-j-test.true (sym c.if-not-is_row_of.true ∙ c.is_row_of.ensures)

pub returns : goal.returns
returns c = all_pass is_named (row_at c.args.bytes.now) c.args.images.now (λ k d below. c.loop-j.invariant k d (omega arith))
