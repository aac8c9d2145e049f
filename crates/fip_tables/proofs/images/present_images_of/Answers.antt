use Rattle.std.proofs.Common.{◌≤◌, ℕ, Some, length, sym, ap, ◌∙◌, arith, eq-eqb, ne_eqb}
use Rattle.std.specs.Prelude.{◌==◌}
use Rattle.std.proofs.lemmas.List.{get_or_default}
use Rattle.fwu_formats.specs.Layout.{ImageRow, no_row}
use Rattle.fip_tables.specs.declared.images.ImageFault.TheVariants.{Missing}
use Rattle.fip_tables.proofs.Chosen.{all_present, none_present}
use Rattle.fip_tables.proofs.images.present_images_of.Goals as goal

pub returns-then-len-eq0 : goal.returns-then-len-eq0
returns-then-len-eq0 c =
    let rows = c.args.rows.now in
    let all : length rows ≤ c.loop-k.k = omega arith in
    none_present rows c.args.toc.now c.loop-k.k c.loop-k.entries all c.loop-k.invariant.entries_are
    (ap (λ (n : ℕ). n == 0) (sym c.len.ensures.length) ∙ eq-eqb c.len.result 0 c.if-len-eq0.true)
    ∙ ap (λ (r : ImageRow). Some (Missing r.guid)) (get_or_default rows 0 no_row c.index-rows-0.result c.requires.some)

pub returns : goal.returns
returns c =
    let rows = c.args.rows.now in
    let all : length rows ≤ c.loop-k.k = omega arith in
    all_present rows c.args.toc.now c.loop-k.k c.loop-k.entries all c.loop-k.invariant.entries_are
    (ap (λ (n : ℕ). n == 0) (sym c.len.ensures.length) ∙ ne_eqb c.len.result 0 c.if-len-eq0.false) c.loop-k.invariant.rest
