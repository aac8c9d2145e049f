-- Packages made from a number: what each byte of each image is, the manifest that tells of the images, and how they are packed.
use Rattle.std.specs.Prelude.{ℕ, ◌+◌, ◌*◌, ◌%◌, Bool, ◌&&◌, ◌==◌, nat_le, List, [], ◌∷◌, length, drop, map}
use Rattle.std.specs.List.{list_all}
use Rattle.sha2.specs.Sha256.{sha256}
use Rattle.base_core.specs.{Block.block_bytes, Bytes.listed, Limits.fewest_images, Limits.most_images}
use Rattle.fwu_formats.specs.{Layout.ImageRow, Layout.is_row, Layout.are_distinct, Package.Part, Package.packed}
use Rattle.fwu_formats.specs.Manifest.{Row, Manifest, manifest_bytes, all_paired}

-- ---- for which images, and of which sizes

-- the images of a layout: 2 to 16 of them, of different types
unfoldable pub are_images : List ImageRow → Bool
are_images rows = nat_le fewest_images (length rows) && nat_le (length rows) most_images
    && list_all is_row rows && are_distinct (map (λ r. r.guid) rows)

-- a size in bytes for each image but the first, within its slot
unfoldable pub fit_sizes : List ImageRow → List ℕ → Bool
fit_sizes rows sizes =
    (length sizes + 1 == length rows) && all_paired (λ r size. nat_le size (block_bytes * r.slots)) (drop 1 rows) sizes

-- ---- the package

-- the bytes of image i of the package of a number: byte j is 7j + i + number, in its lowest eight bits
unfoldable pub image_bytes : ℕ → ℕ → ℕ → List ℕ
image_bytes number i size = listed size (λ j. (7 * j + i + number) % 256)

-- the images from number i on, each of its size
abbrev pub image_parts : ℕ → ℕ → List ImageRow → List ℕ → List Part
image_parts number i [] sizes = []
image_parts number i (r ∷ rows) [] = []
image_parts number i (r ∷ rows) (size ∷ sizes) =
    record { guid = r.guid; flags = 0; bytes = image_bytes number i size } ∷ image_parts number (i + 1) rows sizes

-- what a manifest says of an image of this version
abbrev pub manifest_row_of : ℕ → Part → Row
manifest_row_of number p = record { guid = p.guid; size = length p.bytes; version = number; digest = sha256 p.bytes }

abbrev pub manifest_for : ℕ → ℕ → List Part → Manifest
manifest_for number security images = record { security = security; rows = map (manifest_row_of number) images }

-- the manifest, of a type of its own, and then the images of these rows
abbrev pub parts_from : List ℕ → List ImageRow → List ℕ → ℕ → ℕ → List Part
parts_from guid rows sizes number security =
    record { guid = guid; flags = 0; bytes = manifest_bytes (manifest_for number security (image_parts number 1 rows sizes)) }
    ∷ image_parts number 1 rows sizes

abbrev pub generated_parts : List ImageRow → List ℕ → ℕ → ℕ → List Part
generated_parts [] sizes number security = []
generated_parts (r ∷ rows) sizes number security = parts_from r.guid rows sizes number security

abbrev pub generated_images : List ImageRow → List ℕ → ℕ → ℕ → List (List ℕ)
generated_images rows sizes number security = map (λ p. p.bytes) (generated_parts rows sizes number security)

-- the package of a number: its serial number is that of packages that are made, it has no flags, and no payload is aligned
unfoldable pub generated : List ImageRow → List ℕ → ℕ → ℕ → List ℕ
generated rows sizes number security = packed 0x12345678 0 (generated_parts rows sizes number security) 1
