-- How many erases and programs a partial begin makes, as an armed loss counts them, on every device.
use Rattle.std.specs.Prelude.{◌≡◌, ℕ, zero, suc, ◌+◌, ◌-◌, ◌*◌, ◌/◌, ◌<◌, min, Bool, true, List, [], length, replicate, Option, Some, if◌then◌else◌, slice_index_or}
use Rattle.base_core.specs.Block.{block_bytes}
use Rattle.flash_core.specs.{declared.flash.Arming.Arming, Counts.lowered_by}
use Rattle.fwu_model.specs.{State.State, Sound.Setting, Session.Staged, Session.Nothing}
use Rattle.slot_writer.specs.Writes.{writes_to_append, writes_to_finish}
use Rattle.agent_machine.specs.{Fields.Fields, Fields.total_of, Moment.Moment, Moment.Shows, Filling.between, Filling.within}
use Rattle.agent_calls.specs.Metas.{has_invalid_target}

-- so many erases and programs were done, and no other
abbrev pub Takes : ℕ → Option Arming → Option Arming → Type 0
Takes writes armed arming = arming ≡ lowered_by writes armed

-- a begin: the two erases and two programs of a store, or nothing where the update bank is invalid already
abbrev pub writes_to_begin : Fields → ℕ
writes_to_begin f = if has_invalid_target f then 0 else 4

-- how many pieces so many bytes have that are written `size` at a time, the last one shorter
abbrev pub pieces_of : ℕ → ℕ → ℕ
pieces_of size total = (total + (size - 1)) / size

-- how many bytes such a piece has, by its place
abbrev pub piece_at : ℕ → ℕ → ℕ → ℕ
piece_at size total at = min size (total - at)

-- an image's first pieces, each appended behind those before
abbrev pub writes_of_pieces : ℕ → ℕ → ℕ → ℕ
writes_of_pieces size total zero = 0
writes_of_pieces size total (suc k) =
    writes_of_pieces size total k + writes_to_append (size * k) (piece_at size total (size * k))

-- all of them, and the end of the image
abbrev pub writes_of_image : ℕ → ℕ → ℕ
writes_of_image size total = writes_of_pieces size total (pieces_of size total) + writes_to_finish total

-- the images that aren't named, of the first ones, in pieces of 4096 bytes
abbrev pub writes_to_copy : List Bool → List ℕ → ℕ → ℕ
writes_to_copy named lengths zero = 0
writes_to_copy named lengths (suc k) = writes_to_copy named lengths k
    + (if slice_index_or named k true then 0 else writes_of_image block_bytes (slice_index_or lengths k 0))

-- ---- within a staging, whose parts the agent shows

-- so many bytes more of an image, behind those before
abbrev pub PieceTakes : ℕ → ℕ → ℕ → Moment → Option Arming → Option Arming → Type 0
PieceTakes image at n old armed arming = (s : State) (boot : ℕ) (parts : List Staged) (before : List ℕ) → image < length parts
    → length before ≡ at → Shows old s (within boot parts image before) → Takes (writes_to_append at n) armed arming

-- the first pieces of an image
abbrev pub FrontTakes : ℕ → ℕ → Moment → Option Arming → Option Arming → Type 0
FrontTakes image pieces old armed arming = (E : Setting) (s : State) (boot : ℕ) (parts : List Staged)
    → E.layout ≡ old.fields.layout → image < length parts → Shows old s (within boot parts image [])
    → Takes (writes_of_pieces block_bytes (total_of old.fields (Some image)) pieces) armed arming

-- an image
abbrev pub CopyTakes : ℕ → Moment → Option Arming → Option Arming → Type 0
CopyTakes image old armed arming = (E : Setting) (s : State) (boot : ℕ) (parts : List Staged) → E.layout ≡ old.fields.layout
    → image < length parts → slice_index_or parts image Nothing ≡ Nothing → Shows old s (between boot parts)
    → Takes (writes_of_image block_bytes (total_of old.fields (Some image))) armed arming

-- the first images
abbrev pub CopiesTake : List Bool → ℕ → Moment → Option Arming → Option Arming → Type 0
CopiesTake named k old armed arming = (E : Setting) (s : State) (boot : ℕ) → E.layout ≡ old.fields.layout
    → Shows old s (between boot (replicate (length named) Nothing)) → Takes (writes_to_copy named old.fields.lengths k) armed arming
