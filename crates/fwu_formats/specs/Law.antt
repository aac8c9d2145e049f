-- The laws of the formats: what is read is within its limits and sealed, what is written is read again, and how marks are counted.
-- Each stands as a clause of a function of its own.
use Rattle.std.specs.Prelude.{◌≡◌, ℕ, ◌<◌, ◌≤◌, List, ◌++◌, Some, Ok, IsTrue, length, IsFalse, map, ◌-◌, take}
use Rattle.base_core.specs.{Block.granule, Bytes.are_bytes, Seal.is_sealed}
use Rattle.fwu_formats.specs.Layout.{Layout, ImageRow, layout_of, layout_size, layout_bytes, fits_layout, blocks_needed}
use Rattle.fwu_formats.specs.Metadata.{Meta, MetaRead, meta_of, meta_read, meta_size, meta_bytes, meta_bytes_v1, fits_meta, IsSayableInV1}
use Rattle.fwu_formats.specs.Manifest.{Manifest, FitsImages, manifest_of, manifest_size, manifest_bytes}
use Rattle.fwu_formats.specs.Package.{Toc, Part, FitsPackage, IsTable, toc_of, packed, payload}
use Rattle.fwu_formats.specs.Image.{marks, is_blank, is_tidy}
use Rattle.fwu_formats.specs.Counter.{is_record, record_size, record_bytes, recorded}

-- ---- what is read

-- a layout that was read is within its limits
abbrev pub ReadLayoutsFit : Type 0
ReadLayoutsFit = (bytes : List ℕ) (blocks : ℕ) (L : Layout) → layout_of bytes blocks ≡ Ok L → IsTrue (fits_layout L)

-- layouts, metadata of either version, and records of the counter are sealed, so a block that isn't sealed is none of them
pub record FormatsAreSealed : Type 0 where
  pub layout : (block : List ℕ) (blocks : ℕ) (L : Layout) → layout_of block blocks ≡ Ok L → IsTrue (is_sealed block)
  pub metadata : (L : Layout) (block : List ℕ) (r : MetaRead) → IsTrue (fits_layout L) → meta_of L block ≡ Ok r
      → IsTrue (is_sealed block)
  pub replica : (L : Layout) (block : List ℕ) (r : MetaRead) → IsTrue (fits_layout L) → meta_read L block ≡ Some r
      → IsTrue (is_sealed block)
  pub counter : (block : List ℕ) → IsTrue (is_record block) → IsTrue (is_sealed block)

-- a package is read exactly where the equations of its table hold
pub record TablesAreRead : Type 0 where
  pub read : (bytes : List ℕ) (toc : Toc) → IsTable bytes toc → toc_of bytes ≡ Ok toc
  pub table : (bytes : List ℕ) (toc : Toc) → toc_of bytes ≡ Ok toc → IsTable bytes toc

-- ---- what is written

-- each format that is written is read again as what it says, whatever stands behind it
pub record WrittenIsRead : Type 0 where
  pub layout : (L : Layout) (rest : List ℕ) (blocks : ℕ) → IsTrue (fits_layout L) → blocks_needed L ≤ blocks
      → layout_of (layout_bytes L ++ rest) blocks ≡ Ok L
  pub metadata : (L : Layout) (m : Meta) (rest : List ℕ) → IsTrue (fits_layout L) → IsTrue (fits_meta L m)
      → meta_of L (meta_bytes L m ++ rest) ≡ Ok (record { form = 2; meta = m })
  -- as many bytes as version 2 has are wanted
  pub metadata_v1 : (L : Layout) (m : Meta) (rest : List ℕ) → IsTrue (fits_layout L) → IsTrue (fits_meta L m) → IsSayableInV1 L m
      → 24 ≤ length rest → meta_of L (meta_bytes_v1 L m ++ rest) ≡ Ok (record { form = 1; meta = m })
  pub counter : (v : ℕ) (rest : List ℕ) → v < 4294967296
      → IsTrue (is_record (record_bytes v ++ rest)) × (recorded (record_bytes v ++ rest) ≡ v)
  pub manifest : (images : List ImageRow) (m : Manifest) (rest : List ℕ) → FitsImages images m
      → manifest_of images (manifest_bytes m ++ rest) ≡ Ok m

-- a package that is packed is read again: its table has the parts' types and flags in their order, and the payloads are their bytes
abbrev pub PackedIsRead : Type 0
PackedIsRead =
    (serial flags : ℕ) (parts : List Part) (a : ℕ) → FitsPackage serial flags parts a
    → (toc : Toc) × (toc_of (packed serial flags parts a) ≡ Ok toc) × (toc.serial ≡ serial) × (toc.flags ≡ flags)
    × (map (λ e. e.guid) toc.entries ≡ map (λ p. p.guid) parts) × (map (λ e. e.flags) toc.entries ≡ map (λ p. p.flags) parts)
    × (map (payload (packed serial flags parts a)) toc.entries ≡ map (λ p. p.bytes) parts)

-- what is read has one spelling: the bytes follow from the value, up to its length
pub record HaveOneSpelling : Type 0 where
  pub layout : (L : Layout) (blocks : ℕ) (block : List ℕ) → IsTrue (are_bytes block) → layout_of block blocks ≡ Ok L
      → take (layout_size L) block ≡ layout_bytes L
  pub metadata : (L : Layout) (m : Meta) (block : List ℕ) → IsTrue (fits_layout L) → IsTrue (are_bytes block)
      → meta_of L block ≡ Ok (record { form = 2; meta = m }) → take (meta_size L) block ≡ meta_bytes L m
  pub counter : (block : List ℕ) → IsTrue (are_bytes block) → IsTrue (is_record block)
      → take record_size block ≡ record_bytes (recorded block)
  pub manifest : (images : List ImageRow) (m : Manifest) (bytes : List ℕ) → IsTrue (are_bytes bytes)
      → manifest_of images bytes ≡ Ok m → take (manifest_size (length images - 1)) bytes ≡ manifest_bytes m

-- ---- marks

-- The number of marks by the granules: each one before it is a mark, the one at it is blank, and that fixes it. A block is tidy
-- where those after it are blank.
pub record MarksAreCounted : Type 0 where
  pub limit : (image : List ℕ) (b most : ℕ) → marks image b most ≤ most
  pub before : (image : List ℕ) (b most j : ℕ) → j < marks image b most → IsFalse (is_blank (granule b j image))
  pub at : (image : List ℕ) (b most : ℕ) → marks image b most < most → IsTrue (is_blank (granule b (marks image b most) image))
  pub is : (image : List ℕ) (b most n : ℕ) → n ≤ most → ((j : ℕ) → j < n → IsFalse (is_blank (granule b j image)))
      → (n < most → IsTrue (is_blank (granule b n image))) → marks image b most ≡ n
  pub then_blank : (image : List ℕ) (b most : ℕ) → IsTrue (is_tidy image b most) → (j : ℕ) → marks image b most ≤ j → j < most
      → IsTrue (is_blank (granule b j image))
  pub where_blank : (image : List ℕ) (b most : ℕ)
      → ((j : ℕ) → marks image b most ≤ j → j < most → IsTrue (is_blank (granule b j image))) → IsTrue (is_tidy image b most)
