use Rattle.std.proofs.Common.{◌≡◌, ◌∙◌, List, ap, map, subst, sym}
use Rattle.fwu_formats.specs.Layout.{are_distinct}
use Rattle.fip_words.specs.declared.values.FileWord.{FileWord}
use Rattle.fip_words.proofs.Distinct.{parts-distinct, parts-repeated}
use Rattle.fip_words.proofs.values.parts.Goals as goal

pub returns-then-differ : goal.returns-then-differ
returns-then-differ c =
    parts-distinct (map (λ s. s.now) c.args.texts.now) c.in_ok-parts.parts.items c.in-Ok.guids.items c.in_ok-parts.ensures
    (subst (λ (l : List FileWord). c.in-Ok.guids.items ≡ map (λ (x : FileWord). x.guid) l) c.as_slice.ensures.value c.in-Ok.ensures)
    (sym (c.differ.ensures ∙ ap are_distinct c.as_slice-2.ensures.value) ∙ c.if-differ.true)

pub returns : goal.returns
returns c =
    parts-repeated (map (λ s. s.now) c.args.texts.now) c.in_ok-parts.parts.items c.in-Ok.guids.items c.in_ok-parts.ensures
    (subst (λ (l : List FileWord). c.in-Ok.guids.items ≡ map (λ (x : FileWord). x.guid) l) c.as_slice.ensures.value c.in-Ok.ensures)
    (sym (c.differ.ensures ∙ ap are_distinct c.as_slice-2.ensures.value) ∙ c.if-differ.false)
