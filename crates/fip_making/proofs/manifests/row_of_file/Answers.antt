use Rattle.fip_words.specs.Order.{image_view}
use Rattle.manifest_core.specs.Shown.{row}
use Rattle.std.proofs.Common.{Vec, ℕ, option_map}
use Rattle.std.specs.Global.{Global}
use Rattle.fip_making.proofs.{ManifestLemmas.row-made, ManifestLemmas.row-stopped, Tables.gives-err, Refusing.handed-on}
use Rattle.fip_making.proofs.manifests.row_of_file.Goals as goal

pub returns-clause-told : goal.returns-clause-told
returns-clause-told g c = λ told e.
    row-made told (image_view c.args.named.now) c.in_ok-image.image.items c.as_slice.result.now (option_map row c.row_of.result) (c.in_ok-image.ensures.told told e) c.as_slice.ensures.value c.row_of.ensures

pub returns-in_err-image-clause-told : goal.returns-in_err-image-clause-told
returns-in_err-image-clause-told g c =
    rw (handed-on c.from_residual.result c.in_err-image.field-0.0 c.from_residual.ensures.1) (λ told e.
    gives-err (λ (v : Vec ℕ Global). v.items) (option_map row) _ _ _ _ c.in_err-image.field-0.0 (λ r. r) (row-stopped told (image_view c.args.named.now) _) (c.in_err-image.ensures.told told e))
