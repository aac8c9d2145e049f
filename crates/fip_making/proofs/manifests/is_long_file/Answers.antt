use Rattle.std.proofs.Common.{ℕ, Bool, refl}
use Rattle.fip_words.specs.Order.{image_view}
use Rattle.fip_making.proofs.{ManifestLemmas.long-made, ManifestLemmas.long-stopped, Refusing.handed-on, Tables.gives-err}
use Rattle.fip_making.proofs.manifests.is_long_file.Goals as goal

pub returns-clause-told : goal.returns-clause-told
returns-clause-told g c = λ told e. long-made told (image_view c.args.named.now) c.in_ok-size_of.field-0 _ (c.in_ok-size_of.ensures.told told e) refl

pub returns-in_err-size_of-clause-told : goal.returns-in_err-size_of-clause-told
returns-in_err-size_of-clause-told g c =
    rw (handed-on c.from_residual.result c.in_err-size_of.field-0.0 c.from_residual.ensures.1) (λ told e.
    gives-err (λ (n : ℕ). n) (λ (long : Bool). long) _ _ _ _ c.in_err-size_of.field-0.0 (λ r. r) (long-stopped told (image_view c.args.named.now) _) (c.in_err-size_of.ensures.told told e))
