use Rattle.std.proofs.Common.{◌≡◌, ◌∙◌, List, ap, map, subst, sym}
use Rattle.fwu_formats.specs.Layout.{are_distinct}
use Rattle.fip_words.specs.declared.values.ImageWord.{ImageWord}
use Rattle.fip_words.proofs.Distinct.{rows-distinct, rows-repeated}
use Rattle.fip_words.proofs.values.rows.Goals as goal

pub returns-then-differ : goal.returns-then-differ
returns-then-differ c =
    rows-distinct (map (λ s. s.now) c.args.texts.now) c.in_ok-rows.rows.items c.in-Ok.guids.items c.in_ok-rows.ensures
    (subst (λ (l : List ImageWord). c.in-Ok.guids.items ≡ map (λ (x : ImageWord). x.guid) l) c.as_slice.ensures.value c.in-Ok.ensures)
    (sym (c.differ.ensures ∙ ap are_distinct c.as_slice-2.ensures.value) ∙ c.if-differ.true)

pub returns : goal.returns
returns c =
    rows-repeated (map (λ s. s.now) c.args.texts.now) c.in_ok-rows.rows.items c.in-Ok.guids.items c.in_ok-rows.ensures
    (subst (λ (l : List ImageWord). c.in-Ok.guids.items ≡ map (λ (x : ImageWord). x.guid) l) c.as_slice.ensures.value c.in-Ok.ensures)
    (sym (c.differ.ensures ∙ ap are_distinct c.as_slice-2.ensures.value) ∙ c.if-differ.false)
