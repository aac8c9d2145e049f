-- The values of the code as those of the model.
use Rattle.std.specs.Prelude.{◌≡◌, ℕ, ◌+◌, ◌*◌, Bool, IsTrue, List, length, drop, Result, Ok, Err, nat_le}
use Rattle.base_core.specs.{Block.block_bytes, Bytes.same_bytes, declared.rows.ImageRow.ImageRow}
use Rattle.fwu_formats.specs.Manifest as model
use Rattle.fwu_formats.specs.declared.kinds.ManifestFault.{ManifestFault}
use Rattle.manifest_core.specs.{declared.rows.Row.Row, declared.value.ManifestStop.ManifestStop}
use Rattle.manifest_core.specs.declared.value.ManifestStop.TheVariants.{Fault, NoMemory}

-- what a manifest says of an image
abbrev pub row : Row → model.Row
row r = record { guid = r.guid; size = r.size; version = r.version; digest = r.digest }

-- the security version, or the fault
abbrev pub version_of : Result model.Manifest ManifestFault → Result ℕ ManifestFault
version_of (Ok m) = Ok m.security
version_of (Err e) = Err e

-- the row is of the image's type
abbrev pub is_named : ImageRow → model.Row → Bool
is_named i r = same_bytes i.guid r.guid

-- the image fits its slot
abbrev pub fits_slot : ImageRow → model.Row → Bool
fits_slot i r = nat_le r.size (block_bytes * i.slots)

-- The manifest has a row for each image but the first, of its type and within its slot. It is neither of a wrong count, nor of a
-- wrong order, nor too large.
pub record Suits (images : List ImageRow) (m : model.Manifest) : Type 0 where
  pub count : length m.rows + 1 ≡ length images
  pub order : IsTrue (model.all_paired is_named (drop 1 images) m.rows)
  pub sizes : IsTrue (model.all_paired fits_slot (drop 1 images) m.rows)

-- the bytes are no manifest, with this fault, or memory was wanting
abbrev pub IsStopOf : Result model.Manifest ManifestFault → ManifestStop → Type 0
IsStopOf r (Fault f) = r ≡ Err f
IsStopOf r NoMemory = Unit {0}
