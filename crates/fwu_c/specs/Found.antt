-- What C is told of a package, of a manifest, and of where a bank keeps its images.
use Rattle.std.specs.Prelude.{◌≡◌, ℕ, ◌*◌, List, Option, Some, None, Result, Ok, Err, drop, length, take, slice_index_or}
use Rattle.base_core.specs.{Block.block_bytes, Bytes.listed}
use Rattle.fwu_formats.specs.{Layout.Layout, Layout.no_row, Layout.slot_bytes, Layout.start, Manifest.Manifest, Manifest.manifest_of}
use Rattle.fwu_formats.specs.{declared.kinds.FipFault.FipFault, declared.kinds.LayoutFault.LayoutFault}
use Rattle.fwu_formats.specs.{declared.kinds.ManifestFault.ManifestFault, Package.Toc, Package.Entry, Package.entry_of}
use Rattle.fwu_c.specs.{declared.packages.Place.Place, declared.slots.Slot.Slot, declared.slots.Slots.Slots}

-- 0: there is an entry, whose place is told; 1: there is none, and the place stays
abbrev pub FindsEntry : Option Entry → ℕ → Place → Place → Type 0
FindsEntry (Some e) number old new = (number ≡ 0) × (new.offset ≡ e.offset) × (new.size ≡ e.size)
FindsEntry None number old new = (number ≡ 1) × (new ≡ old)

-- 2: the bytes are no package
abbrev pub FindsIn : List ℕ → Result Toc FipFault → ℕ → Place → Place → Type 0
FindsIn guid (Err f) number old new = (number ≡ 2) × (new ≡ old)
FindsIn guid (Ok toc) number old new = FindsEntry (entry_of toc guid) number old new

abbrev pub security_of : Result Manifest ManifestFault → Option ℕ
security_of (Err f) = None
security_of (Ok m) = Some m.security

-- the security version of a manifest, where the block is a layout and the bytes begin with a manifest of its images
abbrev pub security_version : List ℕ → Result Layout LayoutFault → Option ℕ
security_version manifest (Err f) = None
security_version manifest (Ok L) = security_of (manifest_of L.rows manifest)

-- the slot of an image of a bank, in bytes
abbrev pub slot_of : Layout → ℕ → ℕ → Slot
slot_of L bank image = record {
  guid = (slice_index_or L.rows image no_row).guid;
  offset = block_bytes * start L bank image;
  size = slot_bytes L image;
}

-- the bank's slots, in the order of the layout
pub record TellsSlots (L : Layout) (bank : ℕ) (old s : Slots) : Type 0 where
  pub banks : s.banks ≡ L.banks
  pub images : s.images ≡ length L.rows
  pub slots : take s.images s.slots ≡ listed (length L.rows) (slot_of L bank)
  -- nothing is told behind the last image
  pub behind : drop s.images s.slots ≡ drop s.images old.slots
