-- The verdict on a bank, by what a flash holds.
use Rattle.std.specs.Prelude.{ℕ, zero, suc, ◌+◌, Bool, not, nat_lt, if◌then◌else◌, List, [], length, Option, Some, None, Result, Ok, Err, slice_index_or, ◌-◌, ◌*◌, ◌<◌, ◌≤◌, take, drop}
use Rattle.fwu_formats.specs.{Image.slot, Image.images_in, declared.kinds.ManifestFault.ManifestFault}
use Rattle.fwu_formats.specs.Layout.{Layout, ImageRow, slot_total}
use Rattle.fwu_formats.specs.Manifest.{Manifest, manifest_of, manifest_part, is_image_of, manifest_size, row_at}
use Rattle.image_check.specs.declared.bank.Verdict.{Verdict}
use Rattle.image_check.specs.declared.bank.Verdict.TheVariants as verdict
use Rattle.base_core.specs.{Block.block_bytes, Bytes.same_bytes}
use Rattle.sha2.specs.Sha256.{sha256}
use Rattle.manifest_core.specs.Shown.{version_of}

-- the lowest image after the manifest that isn't good, of n from row k on; row k is that of image k + 1
abbrev pub lowest_bad : (ℕ → Bool) → ℕ → ℕ → Option ℕ
lowest_bad good k zero = None
lowest_bad good k (suc n) = if good k then lowest_bad good (k + 1) n else Some (k + 1)

-- a version equal to the counter is not below it
abbrev pub by_counter : ℕ → ℕ → Verdict
by_counter counter version = if nat_lt version counter then verdict.BelowCounter version counter else verdict.Good version

abbrev pub by_images : ℕ → ℕ → Option ℕ → Verdict
by_images counter version None = by_counter counter version
by_images counter version (Some image) = verdict.BadImage image

-- whether image j + 1 of the package is what row j says
abbrev pub package_has_image : Manifest → List (List ℕ) → ℕ → Bool
package_has_image m p j =
    is_image_of (slice_index_or m.rows j (record { guid = []; size = 0; version = 0; digest = [] })) (slice_index_or p (j + 1) [])

abbrev pub by_package : (List ℕ → Bool) → ℕ → Manifest → List (List ℕ) → Verdict
by_package passes counter m p =
    if not (passes (manifest_part p)) then verdict.NotAccepted
    else by_images counter m.security (lowest_bad (package_has_image m p) 0 (length m.rows))

abbrev pub by_manifest : (List ℕ → Bool) → ℕ → Layout → List ℕ → ℕ → Result Manifest ManifestFault → Verdict
by_manifest passes counter L image bank (Err e) = verdict.BadManifest
by_manifest passes counter L image bank (Ok m) = by_package passes counter m (images_in L image bank m)

-- the verdict on a bank of a flash
unfoldable pub verdict_on : (List ℕ → Bool) → ℕ → Layout → List ℕ → ℕ → Verdict
verdict_on passes counter L image bank = by_manifest passes counter L image bank (manifest_of L.rows (slot L image bank 0))

-- ---- by one image, by all images, and by a bank that begins at a block

-- the block at which image i begins, where the bank begins at block first
abbrev pub place : List ImageRow → ℕ → ℕ → ℕ
place rows first i = first + slot_total (take i rows)

-- image k + 1 has the digest that row k of the manifest says
abbrev pub is_good : List ℕ → List ImageRow → ℕ → List ℕ → ℕ → Bool
is_good image rows first manifest k =
    let row = row_at manifest k in
    same_bytes (sha256 (take row.size (drop (block_bytes * place rows first (k + 1)) image))) row.digest

-- what the manifest says of each image fits its slot
abbrev pub ManifestFitsSlots : List ImageRow → List ℕ → Type 0
ManifestFitsSlots rows manifest = (k : ℕ) (d : ImageRow) → k + 1 < length rows
    → (row_at manifest k).size ≤ block_bytes * (slice_index_or rows (k + 1) d).slots

-- by the manifest's version or fault, whether it is accepted, and the lowest bad image
abbrev pub by_version : Bool → ℕ → Option ℕ → Result ℕ ManifestFault → Verdict
by_version accepted counter bad (Err e) = verdict.BadManifest
by_version accepted counter bad (Ok version) = if not accepted then verdict.NotAccepted else by_images counter version bad

-- what is found where this manifest stands at the front of a bank that begins at block first
abbrev pub found : (List ℕ → Bool) → ℕ → List ℕ → List ImageRow → ℕ → List ℕ → Verdict
found passes counter image rows first manifest =
    by_version (passes manifest) counter (lowest_bad (is_good image rows first manifest) 0 (length rows - 1))
    (version_of (manifest_of rows manifest))

-- the bytes of the manifest at the front of such a bank
abbrev pub front_of : List ℕ → List ImageRow → ℕ → List ℕ
front_of image rows first = take (manifest_size (length rows - 1)) (drop (block_bytes * first) image)
