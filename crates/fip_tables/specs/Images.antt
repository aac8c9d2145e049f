-- Which entries of a package are the images of a layout, and what is wrong with them.
use Rattle.std.specs.Prelude.{◌≡◌, ◌*◌, ◌<◌, ◌≤◌, ℕ, Bool, true, nat_lt, if◌then◌else◌, List, [], ◌∷◌, Option, Some, None, Result, Ok, Err, filter_map, length, slice_index_or}
use Rattle.std.specs.List.{list_any}
use Rattle.std.specs.Option.{option_or}
use Rattle.base_core.specs.Block.{block_bytes}
use Rattle.fwu_formats.specs.{Layout.ImageRow, Layout.no_row, Package.Entry, Package.Toc, Package.entry_of, Package.has_image}
use Rattle.fip_tables.specs.declared.images.ImageFault.{ImageFault}
use Rattle.fip_tables.specs.declared.images.ImageFault.TheVariants.{Missing, TooLarge}

-- what stands past the end of a list of entries
abbrev pub no_entry : Entry
no_entry = record { guid = []; offset = 0; size = 0; flags = 0 }

-- ---- faults

-- an image that the table has is larger than its slot
abbrev pub size_fault : ImageRow → Option Entry → Option ImageFault
size_fault row None = None
size_fault row (Some e) = if nat_lt (block_bytes * row.slots) e.size then Some (TooLarge row.guid) else None

-- the table lacks an image, or that is larger than its slot
abbrev pub image_fault : ImageRow → Option Entry → Option ImageFault
image_fault row None = Some (Missing row.guid)
image_fault row (Some e) = size_fault row (Some e)

-- the fault of the lowest image that has one of these
abbrev pub lowest_fault : (ImageRow → Option Entry → Option ImageFault) → List ImageRow → Toc → Option ImageFault
lowest_fault fault [] toc = None
lowest_fault fault (row ∷ rows) toc = option_or (fault row (entry_of toc row.guid)) (lowest_fault fault rows toc)

-- where all images are wanted
abbrev pub images_fault : List ImageRow → Toc → Option ImageFault
images_fault rows toc = lowest_fault image_fault rows toc

-- where those are wanted that the table has: one at least
abbrev pub present_fault : List ImageRow → Toc → Option ImageFault
present_fault rows toc =
    if list_any (has_image toc) rows then lowest_fault size_fault rows toc else Some (Missing (slice_index_or rows 0 no_row).guid)

-- ---- one image

abbrev pub FindsPresent : ImageRow → Toc → Result (Option Entry) ImageFault → Type 0
FindsPresent row toc (Ok found) = (entry_of toc row.guid ≡ found) × (size_fault row found ≡ None)
FindsPresent row toc (Err fault) = (has_image toc row ≡ true) × (size_fault row (entry_of toc row.guid) ≡ Some fault)

abbrev pub FindsImage : ImageRow → Toc → Result Entry ImageFault → Type 0
FindsImage row toc (Ok entry) = (entry_of toc row.guid ≡ Some entry) × (entry.size ≤ block_bytes * row.slots)
FindsImage row toc (Err fault) = image_fault row (entry_of toc row.guid) ≡ Some fault

-- ---- all images

-- the entry of each image's type, in the order of the images, and each payload fits its slot
pub record AreImages (rows : List ImageRow) (toc : Toc) (entries : List Entry) : Type 0 where
  pub none : images_fault rows toc ≡ None
  pub count : length entries ≡ length rows
  pub each : (k : ℕ) → k < length rows → entry_of toc (slice_index_or rows k no_row).guid ≡ Some (slice_index_or entries k no_entry)
  pub fit : (k : ℕ) → k < length rows → (slice_index_or entries k no_entry).size
      ≤ block_bytes * (slice_index_or rows k no_row).slots

abbrev pub ChoosesImages : List ImageRow → Toc → Result (List Entry) ImageFault → Type 0
ChoosesImages rows toc (Ok entries) = AreImages rows toc entries
ChoosesImages rows toc (Err fault) = images_fault rows toc ≡ Some fault

-- ---- those that the table has

-- their entries, in the order of the images
abbrev pub present : List ImageRow → Toc → List Entry
present rows toc = filter_map (λ (row : ImageRow). entry_of toc row.guid) rows

pub record ArePresent (rows : List ImageRow) (toc : Toc) (entries : List Entry) : Type 0 where
  pub none : present_fault rows toc ≡ None
  pub entries_are : entries ≡ present rows toc

abbrev pub ChoosesPresent : List ImageRow → Toc → Result (List Entry) ImageFault → Type 0
ChoosesPresent rows toc (Ok entries) = ArePresent rows toc entries
ChoosesPresent rows toc (Err fault) = present_fault rows toc ≡ Some fault
