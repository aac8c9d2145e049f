-- Plain words are taken as they stand.
use Rattle.std.proofs.Common.{◌≡◌, [], ◌∷◌, Some, refl, codes}
use Rattle.clap.specs.Words.{Text}
use Rattle.clap.proofs.OnLiterals.{clap_on_literals}
use Rattle.fip_words.specs.Order.{asked, capsule_by, create_by, info_by, manifest_by, repackage_by, remove_by, unpack_by, update_by}
use Rattle.clap_words.specs.Plain.{IsPlain}
use Rattle.clap_words.proofs.NoFlags.{IsNoFlag, plain_is_no_flag}
use Rattle.fip_words.specs.Values.{file_named, names_of, number_read, named_parts_of, named_rows_of}

module _ (a : Text) (p : IsPlain a) where
  one : IsNoFlag a
  one = plain_is_no_flag a p

  pub plain_info : asked (codes "info" ∷ a ∷ []) ≡ info_by (file_named a)
  unfolding clap_on_literals
  plain_info = rw (one.long, one.short, one.dashes) refl

module _ (a b : Text) (p : IsPlain a) (q : IsPlain b) where
  first : IsNoFlag a
  first = plain_is_no_flag a p

  last : IsNoFlag b
  last = plain_is_no_flag b q

  pub plain_create : asked (codes "create" ∷ a ∷ b ∷ []) ≡ create_by (Some 1) (file_named a) (named_parts_of (b ∷ []))
  unfolding clap_on_literals
  plain_create = rw (first.long, first.short, first.dashes, last.long, last.short, last.dashes) refl

  pub plain_capsule : asked (codes "capsule" ∷ a ∷ b ∷ []) ≡ capsule_by (file_named a) (file_named b)
  unfolding clap_on_literals
  plain_capsule = rw (first.long, first.short, first.dashes, last.long, last.short, last.dashes) refl

  pub plain_package : asked (codes "package" ∷ a ∷ b ∷ []) ≡ repackage_by (Some 1) (file_named a) (file_named b)
  unfolding clap_on_literals
  plain_package = rw (first.long, first.short, first.dashes, last.long, last.short, last.dashes) refl

module _ (a b c : Text) (o : IsPlain a) (p : IsPlain b) (q : IsPlain c) where
  x : IsNoFlag a
  x = plain_is_no_flag a o

  y : IsNoFlag b
  y = plain_is_no_flag b p

  z : IsNoFlag c
  z = plain_is_no_flag c q

  pub plain_aligned : asked (codes "create" ∷ codes "--align" ∷ a ∷ b ∷ c ∷ []) ≡ create_by (number_read a) (file_named b) (named_parts_of (c ∷ []))
  unfolding clap_on_literals
  plain_aligned = rw (x.long, x.short, x.dashes, y.long, y.short, y.dashes, z.long, z.short, z.dashes) refl

  pub plain_update : asked (codes "update" ∷ a ∷ b ∷ c ∷ []) ≡ update_by (Some 1) (file_named a) (file_named b) (named_parts_of (c ∷ []))
  unfolding clap_on_literals
  plain_update = rw (x.long, x.short, x.dashes, y.long, y.short, y.dashes, z.long, z.short, z.dashes) refl

  pub plain_remove : asked (codes "remove" ∷ a ∷ b ∷ c ∷ []) ≡ remove_by (Some 1) (file_named a) (file_named b) (names_of (c ∷ []))
  unfolding clap_on_literals
  plain_remove = rw (x.long, x.short, x.dashes, y.long, y.short, y.dashes, z.long, z.short, z.dashes) refl

  pub plain_unpack : asked (codes "unpack" ∷ a ∷ b ∷ c ∷ []) ≡ unpack_by (file_named a) (file_named b) (names_of (c ∷ []))
  unfolding clap_on_literals
  plain_unpack = rw (x.long, x.short, x.dashes, y.long, y.short, y.dashes, z.long, z.short, z.dashes) refl

  pub plain_manifest : asked (codes "manifest" ∷ a ∷ b ∷ c ∷ []) ≡ manifest_by (file_named a) (number_read b) (named_rows_of (c ∷ []))
  unfolding clap_on_literals
  plain_manifest = rw (x.long, x.short, x.dashes, y.long, y.short, y.dashes, z.long, z.short, z.dashes) refl

  pub plain_aligned_package : asked (codes "package" ∷ codes "--align" ∷ a ∷ b ∷ c ∷ []) ≡ repackage_by (number_read a) (file_named b) (file_named c)
  unfolding clap_on_literals
  plain_aligned_package = rw (x.long, x.short, x.dashes, y.long, y.short, y.dashes, z.long, z.short, z.dashes) refl
