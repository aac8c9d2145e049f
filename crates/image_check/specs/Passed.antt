-- What a verdict has on every device: what was read that gives it.
use Rattle.std.specs.Prelude.{◌≡◌, ◌+◌, ◌-◌, ◌≤◌, ◌<◌, ⊤, ℕ, Bool, List, ◌∷◌, length, is_ok, IsTrue, IsFalse, Option, Some, None}
use Rattle.fwu_formats.specs.Layout.{ImageRow}
use Rattle.fwu_formats.specs.Manifest.{Row, manifest_of, manifest_part, manifest_size, row_at, is_complete, is_image_of, version}
use Rattle.image_check.specs.{Verdict.ManifestFitsSlots, declared.bank.Verdict.Verdict}
use Rattle.image_check.specs.declared.bank.Verdict.TheVariants as verdict

-- ---- of the images

-- some image is what the row says
abbrev pub HasImage : Row → Type 0
HasImage row = (bytes : List ℕ) × IsTrue (is_image_of row bytes)

-- Where none is bad, there is an image for each row of the manifest. Else the bad one is of a row, and there is one for each row
-- before it.
abbrev pub HasImages : List ℕ → ℕ → Option ℕ → Type 0
HasImages manifest count None = (k : ℕ) → k < count → HasImage (row_at manifest k)
HasImages manifest count (Some image) = (1 ≤ image) × (image ≤ count) × ((k : ℕ) → k + 1 < image → HasImage (row_at manifest k))

-- ---- of the bank

-- the bytes are a manifest of these rows, and nothing more
pub record IsManifest (rows : List ImageRow) (manifest : List ℕ) : Type 0 where
  pub size : length manifest ≡ manifest_size (length rows - 1)
  pub reads : IsTrue (is_ok (manifest_of rows manifest))

-- some complete package of this version has a manifest that passes
pub record HasPackage (passes : List ℕ → Bool) (rows : List ImageRow) (v : ℕ) : Type 0 where
  pub parts : List (List ℕ)
  pub complete : IsTrue (is_complete rows parts)
  pub version_is : version parts ≡ v
  pub passed : IsTrue (passes (manifest_part parts))

-- and some complete package of this version has this very manifest, by which each image fits its slot
pub record HasPackageBy (passes : List ℕ → Bool) (rows : List ImageRow) (manifest : List ℕ) (v : ℕ) : Type 0 where
  pub others : List (List ℕ)
  pub complete : IsTrue (is_complete rows (manifest ∷ others))
  pub sizes : ManifestFitsSlots rows manifest
  pub version_is : version (manifest ∷ others) ≡ v
  pub passed : IsTrue (passes manifest)

-- some manifest is refused by the verifier
pub record HasRefused (passes : List ℕ → Bool) (rows : List ImageRow) : Type 0 where
  pub manifest : List ℕ
  pub is_manifest : IsManifest rows manifest
  pub refused : IsFalse (passes manifest)

-- some manifest passes, and this image is one of its rows
pub record HasRow (passes : List ℕ → Bool) (rows : List ImageRow) (image : ℕ) : Type 0 where
  pub manifest : List ℕ
  pub is_manifest : IsManifest rows manifest
  pub passed : IsTrue (passes manifest)
  pub after_it : 1 ≤ image
  pub within : image ≤ length rows - 1

-- A bank is good, or below the counter, only by a complete package that passes, of this version.
abbrev pub HasPassed : (List ℕ → Bool) → List ImageRow → ℕ → Verdict → Type 0
HasPassed passes rows counter (verdict.Good v) = (counter ≤ v) × HasPackage passes rows v
HasPassed passes rows counter verdict.BadManifest = ⊤
HasPassed passes rows counter verdict.NotAccepted = HasRefused passes rows
HasPassed passes rows counter (verdict.BadImage image) = HasRow passes rows image
HasPassed passes rows counter (verdict.BelowCounter v c) = (v < c) × (c ≡ counter) × HasPackage passes rows v

-- And it is so by this manifest.
abbrev pub IsVerdictBy : (List ℕ → Bool) → List ImageRow → List ℕ → Verdict → Type 0
IsVerdictBy passes rows manifest (verdict.Good v) = HasPackageBy passes rows manifest v
IsVerdictBy passes rows manifest verdict.BadManifest = IsFalse (is_ok (manifest_of rows manifest))
IsVerdictBy passes rows manifest verdict.NotAccepted = IsManifest rows manifest × IsFalse (passes manifest)
IsVerdictBy passes rows manifest (verdict.BadImage image) =
    IsManifest rows manifest × IsTrue (passes manifest) × HasImages manifest (length rows - 1) (Some image)
IsVerdictBy passes rows manifest (verdict.BelowCounter v c) = HasPackageBy passes rows manifest v
