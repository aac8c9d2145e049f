-- What a handle, an image and the first bytes of image 0 are, and what a session keeps to, whatever was called: no handle and no image
-- is beyond what the layout has.
use Rattle.std.specs.Prelude.{◌≡◌, ℕ, ◌+◌, ◌*◌, ◌<◌, ◌≤◌, ◌++◌, min, Bool, true, false, List, [], length, take, Option, slice_index_or}
use Rattle.base_core.specs.Block.{block_bytes}
use Rattle.sha2.specs.{Sha256.sha256, Hashers.Holds256}
use Rattle.fwu_formats.specs.Layout.{ImageRow}
use Rattle.manifest_core.specs.Sizes.{most_manifest_bytes}
use Rattle.agent_kept.specs.{declared.parts.Part.Part, declared.parts.Handle.Handle}
use Rattle.agent_kept.specs.declared.parts.Part.TheVariants.{Nothing, Open, Committed}
use Rattle.agent_kept.specs.declared.parts.Handle.TheVariants.{Free, Reads, Writes}

abbrev pub is_free_kept : Handle → Bool
is_free_kept Free = true
is_free_kept other = false

abbrev pub is_writer_kept : Handle → Bool
is_writer_kept (Writes image) = true
is_writer_kept other = false

-- The first bytes of image 0, of which as many are kept as the largest manifest has, at most: with bytes behind the first ones, as
-- many as there is room for.
abbrev pub FrontGrows : ℕ → List ℕ → List ℕ → List ℕ → Type 0
FrontGrows size bytes old new =
    take (min most_manifest_bytes (size + length bytes)) new
    ≡ take most_manifest_bytes (take (min most_manifest_bytes size) old ++ bytes)

-- how many bytes of an image were written
abbrev pub size_of : Part → ℕ
size_of Nothing = 0
size_of (Open size hasher) = size
size_of (Committed size digest bit) = size

abbrev pub is_part_open : Part → Bool
is_part_open (Open size hasher) = true
is_part_open other = false

-- an open image is committed: its length stays, and its digest is that of each message that it holds
abbrev pub CommitsTo : Part → Part → Bool → Type 0
CommitsTo (Open size hasher) (Committed n digest b) bit = (n ≡ size) × (b ≡ bit)
    × ((m : List ℕ) → Holds256 hasher m → digest ≡ sha256 m)
CommitsTo (Open size hasher) new bit = ⊥
CommitsTo old new bit = new ≡ old

-- the bytes that an image's slot has room for
abbrev pub slot_room_of : List ImageRow → ℕ → ℕ
slot_room_of rows image = block_bytes * (slice_index_or rows image (record { guid = []; slots = 0 })).slots

pub record IsSoundKept (staging : Bool) (rows : List ImageRow) (parts : List Part) (handles : List Handle) : Type 0 where
  pub few : length rows ≤ 16
  -- a slot has at most 256 blocks, and no image is longer than its slot
  pub slots : (image : ℕ) → slot_room_of rows image ≤ 1048576
  pub sizes : (image : ℕ) → image < length rows → size_of (slice_index_or parts image Nothing) ≤ slot_room_of rows image
  -- what a handle writes is an open image, and no other handle writes it
  pub within : (place image : ℕ) → slice_index_or handles place Free ≡ Writes image → image < length rows
  pub opened : (place image : ℕ) → slice_index_or handles place Free ≡ Writes image
      → is_part_open (slice_index_or parts image Nothing) ≡ true
  pub alone : (place other image : ℕ) → slice_index_or handles place Free ≡ Writes image
      → slice_index_or handles other Free ≡ Writes image → place ≡ other
  -- only a staged image is written
  pub staged : (place image : ℕ) → slice_index_or handles place Free ≡ Writes image → staging ≡ true
  -- a reader is within what it reads
  pub readers : (place : ℕ) (image : Option ℕ) (at total : ℕ) → slice_index_or handles place Free ≡ Reads image at total
      → at ≤ total
