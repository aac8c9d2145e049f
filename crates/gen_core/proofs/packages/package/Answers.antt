use Rattle.std.proofs.Common.{◌≡◌, ◌-◌, ℕ, List, length, drop, arith, ap, sym, subst, ◌∙◌, Err}
use Rattle.std.proofs.lemmas.List.{length-take-le, length-drop}
use Rattle.fwu_formats.specs.Package.{Part, packed}
use Rattle.fip_tables.specs.Packing.{pack_fault}
use Rattle.gen_core.specs.{Generated.generated, Generated.generated_images, Law.InstallsPackage}
use Rattle.gen_core.proofs.Making.{are-sizes, images-are, sizes-fit}
use Rattle.gen_core.proofs.Completing.{generated-are-complete, made-pass, parts-made}
use Rattle.gen_core.proofs.packages.package.Goals as goal

pub bounds-rows-0 : goal.bounds-rows-0
bounds-rows-0 c = let images = images-are c.args.rows.now c.requires.images in omega arith

pub bounds-rows-0-2 : goal.bounds-rows-0-2
bounds-rows-0-2 c = let images = images-are c.args.rows.now c.requires.images in omega arith

pub slice_bounds-parts-count : goal.slice_bounds-parts-count
slice_bounds-parts-count c = let images = images-are c.args.rows.now c.requires.images in omega arith

pub slice_bounds-parts-start : goal.slice_bounds-parts-start
slice_bounds-parts-start c = let images = images-are c.args.rows.now c.requires.images in omega arith

pub parts-requires-clause-count : goal.parts-requires-clause-count
parts-requires-clause-count c =
    let rows = c.args.rows.now in
    let sizes = are-sizes rows c.args.sizes.now c.requires.images c.requires.sizes in
    length-take-le (length rows - 1) (drop 1 rows) (omega (arith, length-drop 1 rows)) ∙ sym (length-drop 1 rows) ∙ sizes.count

pub parts-requires-clause-some : goal.parts-requires-clause-some
parts-requires-clause-some c = (are-sizes c.args.rows.now c.args.sizes.now c.requires.images c.requires.sizes).some

pub parts-requires-clause-few : goal.parts-requires-clause-few
parts-requires-clause-few c = (are-sizes c.args.rows.now c.args.sizes.now c.requires.images c.requires.sizes).few

pub parts-requires-clause-small : goal.parts-requires-clause-small
parts-requires-clause-small c = (are-sizes c.args.rows.now c.args.sizes.now c.requires.images c.requires.sizes).small

pub returns-in-Ok-clause-made : goal.returns-in-Ok-clause-made
unfolding generated
returns-in-Ok-clause-made c =
    let made = parts-made c.args.rows.now c.args.sizes.now c.args.number c.args.security c.index-rows-0.result
    (images-are c.args.rows.now c.requires.images) in
    c.in-Ok.ensures.ok ∙ ap (λ (ps : List Part). packed 0x12345678 0 ps 1) (c.in_ok-parts.ensures ∙ made)

pub returns-in-Ok-clause-installs : goal.returns-in-Ok-clause-installs
unfolding generated
returns-in-Ok-clause-installs c =
    let rows = c.args.rows.now in
    let sizes = c.args.sizes.now in
    let number = c.args.number in
    let security = c.args.security in
    let made = parts-made rows sizes number security c.index-rows-0.result (images-are rows c.requires.images) in
    let is : c.in-Ok.file.items ≡ generated rows sizes number security = c.in-Ok.ensures.ok
    ∙ ap (λ (ps : List Part). packed 0x12345678 0 ps 1) (c.in_ok-parts.ensures ∙ made) in
    subst (λ (file : List ℕ). InstallsPackage rows file (generated_images rows sizes number security) security) (sym is)
    (generated-are-complete rows sizes number security c.requires.images c.requires.sizes (omega arith) c.requires.version)

pub unreachable-requires : goal.unreachable-requires
unreachable-requires c =
    let rows = c.args.rows.now in
    let sizes = c.args.sizes.now in
    let images = images-are rows c.requires.images in
    let made = parts-made rows sizes c.args.number c.args.security c.index-rows-0.result images in
    let pass = made-pass rows sizes c.args.number c.args.security images (sizes-fit rows sizes c.requires.sizes) in
    let none = ap (λ (ps : List Part). pack_fault ps 1) (c.in_ok-parts.ensures ∙ made) ∙ pass in
    let fault = c.in-Err-Fault.ensures.fault.err c.in-Err-Fault.field-0-0 (ap Err c.in-Err-Fault.field-0-is) in
    absurd cc
