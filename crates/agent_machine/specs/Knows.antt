-- What an agent that isn't gone knows of its flash, sound or not.
use Rattle.std.specs.Prelude.{◌≡◌, ℕ, ◌+◌, ◌*◌, ◌<◌, ◌≤◌, Bool, true, false, List, length, take, map, Option, Some, Ok, IsTrue, IsFalse, is_some}
use Rattle.base_core.specs.Block.{block_bytes}
use Rattle.flash_core.specs.{Told.Told, May.Quiet}
use Rattle.sha2.specs.declared.Sha256.{Sha256}
use Rattle.fwu_formats.specs.{Metadata.fits_meta, Metadata.state_at, Image.layout_seen, Image.package_in}
use Rattle.fwu_formats.specs.Layout.{fits_layout, start, slot_bytes}
use Rattle.fwu_model.specs.{Replica.BothHold, State.is_invalid, State.is_accepted, Answer.held_package}
use Rattle.slot_writer.specs.Slots.{IsBlankAhead, done_of}
use Rattle.agent_kept.specs.declared.parts.Part.TheVariants.{Open, Committed}
use Rattle.agent_kept.specs.declared.parts.Handle.TheVariants.{Reads}
use Rattle.agent_kept.specs.Kept.{Kept, IsKept, IsSoundKept, HasNothing, part_at, handle_kept}
use Rattle.agent_machine.specs.{Fields.Fields, Fields.target, Fields.total_of, Machine.staged_bytes, Machine.state_in}

-- The fields fit each other, whatever the flash holds.
pub record Fitting (f : Fields) : Type 0 where
  pub layout : IsTrue (fits_layout f.layout)
  pub meta : IsTrue (fits_meta f.layout f.meta.meta)
  pub boot : f.boot < f.layout.banks
  pub rows : f.session.rows ≡ f.layout.rows
  pub lengths : length f.lengths ≡ 16
  pub within : (image : ℕ) → image < length f.layout.rows → total_of f (Some image) ≤ slot_bytes f.layout image
  pub rests : length f.rests ≡ 16
  -- an update is staged only from the active bank, and into an invalid one
  pub active : f.session.staging ≡ true → f.boot ≡ f.meta.meta.active
  pub free : f.session.staging ≡ true → IsTrue (is_invalid (state_at f.meta.meta (target f)))
  -- only where something is staged is something kept of an image
  pub idle : f.session.staging ≡ false → HasNothing f.session
  -- each reader is of an image that is there, or of the directory, and has the total of what it reads
  pub readers : (place : ℕ) (image : Option ℕ) (at total : ℕ) → handle_kept f.session place ≡ Reads image at total
      → total ≡ total_of f image
  pub readable : (place image at total : ℕ) → handle_kept f.session place ≡ Reads (Some image) at total
      → image < length f.layout.rows

-- what the session keeps to, whatever was called
abbrev pub SessionSound : Fields → Type 0
SessionSound f = IsSoundKept f.session.staging f.session.rows f.session.parts f.session.handles

-- What the flash has of the staged image: behind each the block that it ends in is blank, and a committed one is sure.
pub record HasStaged (f : Fields) (t : Told) : Type 0 where
  pub kept : IsKept f.session (staged_bytes f t.now)
  pub ahead : (image size : ℕ) (hasher : Sha256) → image < length f.layout.rows → part_at f.session image ≡ Open size hasher
      → IsBlankAhead (start f.layout (target f) image) (done_of size) t.now
  pub padded : (image size : ℕ) (digest : List ℕ) (bit : Bool) → image < length f.layout.rows
      → part_at f.session image ≡ Committed size digest bit → IsBlankAhead (start f.layout (target f) image) size t.now
  pub sure : (image size : ℕ) (digest : List ℕ) (bit : Bool) → image < length f.layout.rows
      → part_at f.session image ≡ Committed size digest bit
      → let at = block_bytes * start f.layout (target f) image in Quiet at (at + slot_bytes f.layout image) t

pub record Knows (f : Fields) (t : Told) : Type 0 where
  pub layout_is : layout_seen t.now ≡ Ok f.layout
  pub both : BothHold f.layout f.meta t.now
  pub version : f.meta.form ≡ 2
  pub used : IsFalse (is_invalid (state_at f.meta.meta f.boot))
  -- an update is staged only from an accepted bank
  pub accepted : f.session.staging ≡ true → IsTrue (is_accepted (state_at f.meta.meta f.meta.meta.active))
  pub counter_is : f.counter ≡ (state_in f t.now).counter
  pub trials_are : f.trials ≡ (state_in f t.now).trials
  -- the bank that was started holds a package, with images of these lengths
  pub held : IsTrue (is_some (package_in f.layout t.now f.boot))
  pub lengths_are : take (length f.layout.rows) f.lengths
      ≡ map (λ (bytes : List ℕ). length bytes) (held_package (package_in f.layout t.now f.boot))
  pub staged : HasStaged f t

-- there are bytes of the staged images that what is kept fits
pub record SomeStaged (k : Kept) : Type 0 where
  pub staged : ℕ → List ℕ
  pub kept : IsKept k staged
