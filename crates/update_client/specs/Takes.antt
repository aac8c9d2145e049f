-- How many erases and programs a sending makes, as an armed loss counts them, on every device.
use Rattle.std.specs.Prelude.{◌≡◌, ℕ, ◌+◌, ◌*◌, ◌<◌, ◌≤◌, List, [], ◌∷◌, length, take, Option, Some, Result, Err, OnOk, slice_index_or, ⊤}
use Rattle.flash_core.specs.{declared.flash.Arming.Arming, Counts.lowered_by}
use Rattle.fwu_formats.specs.{Layout.ImageRow, Layout.find_image, Layout.slot_bytes, Package.Entry, Package.Toc}
use Rattle.fwu_model.specs.{State.State, Sound.Setting, Session.Staged, Session.Nothing}
use Rattle.slot_writer.specs.Writes.{writes_to_append}
use Rattle.fip_tables.specs.Images.{no_entry, present}
use Rattle.agent_machine.specs.{Ends.TakesSwitch, Moment.Moment, Moment.Shows, Filling.between, Filling.within}
use Rattle.agent_calls.specs.Takes.{Takes, writes_of_image, writes_of_pieces}
use Rattle.update_client.specs.{Images.AreUnstaged, declared.stops.SendStop.SendStop}
use Rattle.update_client.specs.declared.stops.SendStop.TheVariants.{End, ReadFailed}

-- the writes and commits of these payloads, written `size` bytes at a time
abbrev pub writes_in : ℕ → List Entry → ℕ
writes_in size [] = 0
writes_in size (e ∷ entries) = writes_of_image size e.size + writes_in size entries

-- and of the images of a layout that the table has
abbrev pub writes_sent : ℕ → List ImageRow → Toc → ℕ
writes_sent size rows toc = writes_in size (present rows toc)

-- ---- within a staging, in which no image is at fault

-- so many bytes more of an image, behind those before
abbrev pub PayloadPieceTakes : ℕ → ℕ → Moment → Option Arming → Option Arming → Type 0
PayloadPieceTakes at n old armed arming = (s : State) (boot : ℕ) (parts : List Staged) (image : ℕ) (before : List ℕ)
    → image < length parts → length before ≡ at → Shows old s (within boot parts image before)
    → Takes (writes_to_append at n) armed arming

-- so many for an image of which nothing is written
abbrev pub UnwrittenTakes : ℕ → Entry → Moment → Option Arming → Option Arming → Type 0
UnwrittenTakes writes e old armed arming = (E : Setting) (s : State) (boot : ℕ) (parts : List Staged) (image : ℕ)
    → E.layout ≡ old.fields.layout → image < length parts
    → e.size ≤ slot_bytes E.layout image → Shows old s (within boot parts image [])
    → Takes writes armed arming

-- so many for an image of which nothing is staged
abbrev pub UnstagedTakes : ℕ → Entry → Moment → Option Arming → Option Arming → Type 0
UnstagedTakes writes e old armed arming = (E : Setting) (s : State) (boot : ℕ) (parts : List Staged) (image : ℕ)
    → E.layout ≡ old.fields.layout → image < length parts → find_image E.layout.rows e.guid ≡ Some image
    → e.size ≤ slot_bytes E.layout image → slice_index_or parts image Nothing ≡ Nothing → Shows old s (between boot parts)
    → Takes writes armed arming

-- so many for images of which nothing is staged
abbrev pub AllUnstagedTake : List Entry → Moment → Option Arming → Option Arming → ℕ → Type 0
AllUnstagedTake entries old armed arming writes = (E : Setting) (s : State) (boot : ℕ) (parts : List Staged) (places : List ℕ)
    → E.layout ≡ old.fields.layout → AreUnstaged E entries places parts → Shows old s (between boot parts)
    → Takes writes armed arming

-- all writes of the first of them
abbrev pub ImagesTake : ℕ → List Entry → ℕ → Moment → Option Arming → Option Arming → Type 0
ImagesTake size entries k old armed arming = AllUnstagedTake entries old armed arming (writes_in size (take k entries))

-- all of them, and the switch that makes their bank active
pub record InstallTakes (size : ℕ) (entries : List Entry) (old : Moment) (armed arming : Option Arming) : Type 0 where
  pub sent : Option Arming
  pub images : ImagesTake size entries (length entries) old armed sent
  pub switch : TakesSwitch sent arming

-- ---- what was not done

-- what is said of a sending whose end was refused
abbrev pub OnRefusedEnd : {T : Type 0} → Result T SendStop → Type 0 → Type 0
OnRefusedEnd (Err (End st)) P = P
OnRefusedEnd other P = ⊤

-- and of one whose file could not be read
abbrev pub OnUnread : {T : Type 0} → Result T SendStop → Type 0 → Type 0
OnUnread (Err ReadFailed) P = P
OnUnread other P = ⊤

-- So many writes are those of the first pieces of a payload, which has a further one.
pub record TakesFront (size : ℕ) (e : Entry) (IsTaken : ℕ → Type 0) : Type 0 where
  pub pieces : ℕ
  pub more : size * pieces < e.size
  pub takes : IsTaken (writes_of_pieces size e.size pieces)

-- So many are those of the first of these payloads, with their commits, and of the first pieces of the next one, which has a
-- further one.
pub record TakesFirst (size : ℕ) (entries : List Entry) (IsTaken : ℕ → Type 0) : Type 0 where
  pub images : ℕ
  pub pieces : ℕ
  pub below : images < length entries
  pub more : size * pieces < (slice_index_or entries images no_entry).size
  pub takes : IsTaken (writes_in size (take images entries)
      + writes_of_pieces size (slice_index_or entries images no_entry).size pieces)

-- ---- a sending

-- What a sending of such entries takes, by its result: so many erases and programs up to its end, of which so many are those of its
-- begin. There is no other.
pub record SendTakesBy {T : Type 0} (result : Result T SendStop) (writes begun size : ℕ) (IsSent : List Entry → Type 0)
    (armed arming : Option Arming) : Type 0 where
  -- when done, those up to the end, and those of the end's switch
  pub done : OnOk result (TakesSwitch (lowered_by writes armed) arming)
  -- where the end is refused, so many but for the switch
  pub unswitched : OnRefusedEnd result (Takes writes armed arming)
  -- where the file could not be read, those of the begin and those up to that read, and none behind it
  pub unread : OnUnread result ((entries : List Entry) × IsSent entries
      × TakesFirst size entries (λ more. Takes (begun + more) armed arming))
