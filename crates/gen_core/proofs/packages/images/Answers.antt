use Rattle.std.proofs.Common.{◌≡◌, ◌+◌, ◌++◌, ◌∷◌, [], ℕ, List, length, sym, ap, subst, ◌∙◌, arith, get_or, add-one, ◌≤◌}
use Rattle.std.specs.List.{All}
use Rattle.fwu_formats.specs.Package.{Part}
use Rattle.gen_core.specs.Generated.{image_bytes, image_parts}
use Rattle.gen_core.proofs.Making.{all-parts, image_parts-length, image_parts-more, image_parts-small}
use Rattle.gen_core.proofs.packages.images.Goals as goal

pub loop-k-preserved : goal.loop-k-preserved
loop-k-preserved c =
    let rows = c.args.rows.now in
    let sizes = c.args.sizes.now in
    let number = c.args.number in
    let k = c.loop-k.k in
    let row = c.index-rows-k.result in
    let bytes : c.in_ok-image.field-0.items ≡ image_bytes number (1 + k) (get_or sizes k 0) =
    c.in_ok-image.ensures ∙ ap (λ (i : ℕ). image_bytes number i (get_or sizes k 0)) (let e : k + 1 ≡ 1 + k = omega arith in e) in
    rw add-one
    (c.in_ok-push.ensures.items
    ∙ ap (λ (b : List ℕ). c.loop-k.parts.items ++ record { guid = (get_or rows k row).guid; flags = 0; bytes = b } ∷ []) bytes
    ∙ ap (λ (ps : List Part). ps ++ record { guid = (get_or rows k row).guid; flags = 0; bytes = image_bytes number (1 + k) (get_or sizes k 0) }
    ∷ []) c.loop-k.invariant
    ∙ sym (image_parts-more number 1 rows sizes k row (omega arith) (omega arith)))

pub returns-clause-count : goal.returns-clause-count
returns-clause-count c =
    ap length (all-parts c.args.number c.args.rows.now c.args.sizes.now c.loop-k.k _ (omega arith) c.requires.count c.loop-k.invariant)
    ∙ image_parts-length c.args.number 1 c.args.rows.now c.args.sizes.now (sym c.requires.count) ∙ c.requires.count

pub returns-clause-small : goal.returns-clause-small
returns-clause-small c =
    let is : c.loop-k.parts.items ≡ image_parts c.args.number 1 c.args.rows.now c.args.sizes.now =
    all-parts c.args.number c.args.rows.now c.args.sizes.now c.loop-k.k _ (omega arith) c.requires.count c.loop-k.invariant in
    subst (λ (ps : List Part). All (λ p. length p.bytes ≤ 1048576) ps) (sym is)
    (image_parts-small c.args.number 1 c.args.rows.now c.args.sizes.now c.requires.small)
