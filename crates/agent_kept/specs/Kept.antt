-- What a session keeps, and which session of the machine it means, where the bytes of its staged images are given.
use Rattle.std.specs.Prelude.{◌≡◌, ◌≢◌, ℕ, ◌+◌, ◌-◌, ◌<◌, ◌≤◌, min, Bool, if◌then◌else◌, List, [], ◌++◌, length, take, map, Option, Some, None, slice_index_or, slice_set, replicate}
use Rattle.base_core.specs.Bytes.{listed}
use Rattle.sha2.specs.{Sha256.sha256, Hashers.Holds256, declared.Sha256.Sha256}
use Rattle.fwu_formats.specs.{Layout.ImageRow, Manifest.manifest_size}
use Rattle.fwu_model.specs.{State.State, Sound.Setting, Answer.content}
use Rattle.fwu_model.specs.Session as machine
use Rattle.agent_kept.specs.{declared.parts.Part.Part, declared.parts.Handle.Handle, declared.session.Session.Session}
use Rattle.agent_kept.specs.declared.parts.Part.TheVariants.{Nothing, Open, Committed}
use Rattle.agent_kept.specs.declared.parts.Handle.TheVariants.{Free, Reads, Writes}
pub use Rattle.agent_kept.specs.Sound.{is_free_kept, is_writer_kept, FrontGrows, size_of, is_part_open, slot_room_of, IsSoundKept, CommitsTo}

pub record Kept : Type 0 where
  pub rows : List ImageRow
  pub staging : Bool
  pub parts : List Part
  -- the first bytes of image 0
  pub front : List ℕ
  pub handles : List Handle

abbrev pub kept : Session → Kept
kept s = record { rows = take s.images s.rows; staging = s.staging; parts = s.parts; front = s.front; handles = s.handles }

abbrev pub part_at : Kept → ℕ → Part
part_at k image = slice_index_or k.parts image Nothing

abbrev pub handle_kept : Kept → ℕ → Handle
handle_kept k place = slice_index_or k.handles place Free

abbrev pub committed_part : Part → Option ℕ
committed_part (Committed size digest bit) = Some size
committed_part other = None

-- how many bytes an image has that is committed
abbrev pub committed_size : Kept → ℕ → Option ℕ
committed_size k image = if k.staging then committed_part (part_at k image) else None

-- an open image with more bytes behind it
abbrev pub GrowsPart : Part → Part → List ℕ → Type 0
GrowsPart (Open size hasher) (Open grown next) bytes = (grown ≡ size + length bytes)
    × ((m : List ℕ) → Holds256 hasher m → Holds256 next (m ++ bytes))
GrowsPart _ _ bytes = ⊥

-- the front after bytes were written behind so many of an image
pub record GrowsFront (image size : ℕ) (bytes old new : List ℕ) : Type 0 where
  pub first : image ≡ 0 → FrontGrows size bytes old new
  pub other : image ≢ 0 → new ≡ old

-- all that is kept beside the images and the front is the same
pub record SameBesideParts (old new : Kept) : Type 0 where
  pub rows : new.rows ≡ old.rows
  pub staging : new.staging ≡ old.staging
  pub handles : new.handles ≡ old.handles

-- an image without bytes
abbrev pub IsNewPart : Part → Type 0
IsNewPart (Open size hasher) = (size ≡ 0) × Holds256 hasher []
IsNewPart other = ⊥

-- an image is open, without bytes, and the handle at a place writes it; all else is the same
pub record OpensPart (old : Kept) (image place : ℕ) (new : Kept) : Type 0 where
  pub part : IsNewPart (part_at new image)
  pub others : (other : ℕ) → other ≢ image → part_at new other ≡ part_at old other
  pub handles : new.handles ≡ slice_set old.handles place (Writes image)
  pub rows : new.rows ≡ old.rows
  pub staging : new.staging ≡ old.staging
  pub front : new.front ≡ old.front

-- an open image is committed, and the handle at a place, which wrote it, is free; all else is the same
pub record CommitsPart (old : Kept) (image place : ℕ) (bit : Bool) (new : Kept) : Type 0 where
  pub part : CommitsTo (part_at old image) (part_at new image) bit
  pub others : (other : ℕ) → other ≢ image → part_at new other ≡ part_at old other
  pub handles : new.handles ≡ slice_set old.handles place Free
  pub rows : new.rows ≡ old.rows
  pub staging : new.staging ≡ old.staging
  pub front : new.front ≡ old.front

-- nothing is kept of any image
abbrev pub HasNothing : Kept → Type 0
HasNothing k = (image : ℕ) → part_at k image ≡ Nothing

-- from here on nothing is kept of any image, and no handle is open; a package may be staged, or not
pub record Restarts (staging : Bool) (old new : Kept) : Type 0 where
  pub rows : new.rows ≡ old.rows
  pub staging_is : new.staging ≡ staging
  pub nothing : HasNothing new
  pub closed : new.handles ≡ replicate 32 Free

-- with this handle at a number from 1 on
abbrev pub with_handle : Kept → ℕ → Handle → Kept
with_handle k number h = record k { handles = slice_set k.handles (number - 1) h }

-- an open image has more bytes behind it
pub record AppendsPart (old : Kept) (image : ℕ) (bytes : List ℕ) (new : Kept) : Type 0 where
  pub part : GrowsPart (part_at old image) (part_at new image) bytes
  pub others : (other : ℕ) → other ≢ image → part_at new other ≡ part_at old other
  pub rest : SameBesideParts old new
  pub front : GrowsFront image (size_of (part_at old image)) bytes old.front new.front

-- ---- the session that is meant

abbrev pub part_meant : Part → List ℕ → machine.Staged
part_meant Nothing bytes = machine.Nothing
part_meant (Open size hasher) bytes = machine.Open bytes
part_meant (Committed size digest bit) bytes = machine.Committed bytes bit

abbrev pub handle_meant : Handle → machine.Handle
handle_meant Free = machine.Free
handle_meant (Reads image at total) = machine.Reads image at
handle_meant (Writes image) = machine.Writes image

abbrev pub parts_meant : Kept → (ℕ → List ℕ) → List machine.Staged
parts_meant k bytes = listed (length k.rows) (λ i. part_meant (part_at k i) (bytes i))

abbrev pub staging_meant : Kept → (ℕ → List ℕ) → Option (List machine.Staged)
staging_meant k bytes = if k.staging then Some (parts_meant k bytes) else None

abbrev pub handles_meant : Kept → List machine.Handle
handles_meant k = map handle_meant k.handles

-- of an agent that was started from a bank
abbrev pub session_meant : Kept → ℕ → (ℕ → List ℕ) → machine.Session
session_meant k boot bytes = machine.On boot (staging_meant k bytes) (handles_meant k)

-- ---- what is kept fits the bytes

-- of image 0 the bytes that a manifest would have, as far as they were written
abbrev pub IsManifestFront : ℕ → List ℕ → List ℕ → Type 0
IsManifestFront most front bytes = take (min most (length bytes)) front ≡ take most bytes

pub record IsKept (k : Kept) (bytes : ℕ → List ℕ) : Type 0 where
  -- of an open image the length, and the hash so far
  pub opened : (i size : ℕ) (hasher : Sha256) → i < length k.rows → part_at k i ≡ Open size hasher
      → (size ≡ length (bytes i)) × ∥ Holds256 hasher (bytes i) ∥₁
  -- of a committed one the length and the digest
  pub committed : (i size : ℕ) (digest : List ℕ) (bit : Bool) → i < length k.rows → part_at k i ≡ Committed size digest bit
      → (size ≡ length (bytes i)) × (digest ≡ sha256 (bytes i))
  pub front : IsManifestFront (manifest_size (length k.rows - 1)) k.front (take (size_of (part_at k 0)) (bytes 0))

-- each reader has the total of what it reads, and is within it
pub record HasTotals (E : Setting) (s : State) (boot : ℕ) (k : Kept) : Type 0 where
  pub total : (place : ℕ) (image : Option ℕ) (at total : ℕ) → handle_kept k place ≡ Reads image at total
      → total ≡ length (content E s boot image)
  pub within : (place : ℕ) (image : Option ℕ) (at total : ℕ) → handle_kept k place ≡ Reads image at total → at ≤ total
