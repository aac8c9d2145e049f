-- What an agent keeps beside its device.
use Rattle.std.specs.Prelude.{ℕ, ◌+◌, ◌*◌, ◌%◌, ◌<◌, List, [], length, Option, Some, None, slice_index_or}
use Rattle.fwu_formats.specs.{Layout.Layout, Metadata.MetaRead}
use Rattle.agent_kept.specs.Kept.{Kept}

pub record Fields : Type 0 where
  pub layout : Layout
  pub meta : MetaRead
  pub session : Kept
  -- the bank that was started
  pub boot : ℕ
  pub trials : ℕ
  pub counter : ℕ
  -- the length of each image in the bank that was started
  pub lengths : List ℕ
  -- of each staged image the bytes that fill no granule yet, at the front of 16
  pub rests : List (List ℕ)

-- the update bank: the one behind the active bank
abbrev pub target : Fields → ℕ
target f = (f.meta.meta.active + 1) % f.layout.banks

abbrev pub rest_of : Fields → ℕ → List ℕ
rest_of f image = slice_index_or f.rests image []

-- how many bytes the directory of so many images has
abbrev pub directory_size : ℕ → ℕ
directory_size images = 16 + 32 * images

-- how many bytes a read handle reads in all: the directory's, or those of an image of the bank that was started
abbrev pub total_of : Fields → Option ℕ → ℕ
total_of f None = directory_size (length f.layout.rows)
total_of f (Some image) = slice_index_or f.lengths image 0

-- an image of the layout, or the directory
abbrev pub IsImageOrDirectory : Fields → Option ℕ → Type 0
IsImageOrDirectory f None = Unit {0}
IsImageOrDirectory f (Some image) = image < length f.layout.rows

-- the same agent with another session, and other bytes kept of the staged images
abbrev pub with_session : Fields → Kept → List (List ℕ) → Fields
with_session f k rests = record f { session = k; rests = rests }
