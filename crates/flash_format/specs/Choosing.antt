-- What is refused before the flash is touched, and the plan of a format.
use Rattle.std.specs.Prelude.{◌≡◌, ◌+◌, ◌-◌, ◌*◌, ◌/◌, ◌^◌, ◌<◌, ◌≤◌, ℕ, All, List, length, slice_index_or, sum_by, Option, Some, Result, Ok, Err, option_map}
use Rattle.base_core.specs.Block.{block_bytes}
use Rattle.flash_core.specs.{Told.Told, Told.NothingDirty, Counts.lowered_by, declared.flash.Arming.Arming}
use Rattle.host_io.specs.Contents.{Directory}
use Rattle.fwu_formats.specs.{Package.Entry, Package.Toc, Package.toc_of, declared.kinds.FipFault.FipFault, declared.kinds.LayoutFault.LayoutFault}
use Rattle.fwu_formats.specs.Layout.{Layout, blocks_needed, no_row, slot_total}
use Rattle.meta_layout.specs.Rows.{fitted}
use Rattle.fip_tables.specs.{Files.Lacks, Files.Tells, Images.AreImages, Images.images_fault, Images.no_entry, declared.images.ImageFault.ImageFault}
use Rattle.fip_tables.specs.declared.images.ImageFault.TheVariants as image
use Rattle.flash_format.specs.{Formatted.IsBlank, Places.AllStand, declared.stops.InputFault.InputFault}
use Rattle.flash_format.specs.declared.stops.InputFault.TheVariants.{Layout as BadLayout, Package as BadPackage, Missing, TooLarge}

-- the fault of an image, as a refusal
abbrev pub input_refusal : ImageFault → InputFault
input_refusal (image.Missing guid) = Missing guid
input_refusal (image.TooLarge guid) = TooLarge guid

abbrev pub refusal_by : Result Layout LayoutFault → Result Toc FipFault → Option InputFault
refusal_by (Err fault) answer = Some (BadLayout fault)
refusal_by (Ok L) (Err fault) = Some (BadPackage fault)
refusal_by (Ok L) (Ok toc) = option_map input_refusal (images_fault L.rows toc)

-- What is refused of these rows and banks on a flash of so many blocks, and of the file. It is the first of these:
-- that they are no layout of the flash, that the file is no package, and the fault of the lowest image that has one.
unfoldable pub refusal : Layout → ℕ → List ℕ → Option InputFault
refusal L blocks file = refusal_by (fitted L blocks) (toc_of file)

-- ---- the entries of a layout's images in a package, and what a format by them leaves

-- The payload of an entry can be read of the file of this name.
pub record IsStored (told : Option Directory) (name : List ℕ) (e : Entry) : Type 0 where
  pub ends : e.offset + e.size < 2 ^ 64
  pub within : (file : List ℕ) → Tells told name file → e.offset + e.size ≤ length file
  pub there : Lacks told name → ⊥

-- A plan by the file of this name: each payload can be read of it, and fits its slot.
pub record IsPlan (told : Option Directory) (name : List ℕ) (L : Layout) (entries : List Entry) : Type 0 where
  pub count : length entries ≡ length L.rows
  pub fit : (k : ℕ) → k < length L.rows → (slice_index_or entries k no_entry).size
      ≤ block_bytes * (slice_index_or L.rows k no_row).slots
  pub stored : All (IsStored told name) entries
  -- Where the file is told, the entries are those of its table.
  pub chosen : (file : List ℕ) (toc : Toc) → Tells told name file → toc_of file ≡ Ok toc → AreImages L.rows toc entries

-- What a plan by the file of this name leaves on a flash, where it is carried out: nothing is dirty.
pub record IsFilled (told : Option Directory) (name : List ℕ) (L : Layout) (entries : List Entry) (t : Told) : Type 0 where
  -- Where the file is told, its images stand in bank 0.
  pub bytes : (file : List ℕ) → Tells told name file → AllStand (length L.rows) L file entries t.now
  -- No old mark, record of the counter or other bank is left.
  pub blank : IsBlank L t.now
  pub clean : NothingDirty t

-- ---- how many erases and programs it takes, as an armed loss counts them

-- how many pieces of at most 4096 bytes so many bytes have
abbrev pub block_pieces_of : ℕ → ℕ
block_pieces_of size = (size + (block_bytes - 1)) / block_bytes

abbrev pub pieces_in : List Entry → ℕ
pieces_in entries = sum_by (λ (e : Entry). block_pieces_of e.size) entries

-- an erase of each block up to the last bank's end, a program of each piece of an image, and of so many records
abbrev pub writes_to_format : Layout → List Entry → ℕ → ℕ
writes_to_format L entries records = blocks_needed L + pieces_in entries + records

-- On any device and any files: the images have no more pieces than a bank has blocks; those of a file that is told are known.
pub record FormatTakes (told : Option Directory) (name : List ℕ) (L : Layout) (records : ℕ)
    (armed arming : Option Arming) : Type 0 where
  pub entries : List Entry
  pub few : pieces_in entries ≤ slot_total L.rows
  pub exact : (file : List ℕ) (toc : Toc) → Tells told name file → toc_of file ≡ Ok toc → AreImages L.rows toc entries
  pub taken : arming ≡ lowered_by (writes_to_format L entries records) armed
