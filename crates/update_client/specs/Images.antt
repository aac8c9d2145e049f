-- What is sent of images, piece by piece, and how their staging ends.
use Rattle.std.specs.Prelude.{◌≡◌, ◌≢◌, ◌≤◌, ◌<◌, ◌==◌, ◌^◌, ℕ, ◌+◌, Bool, true, false, All, List, [], ◌∷◌, ◌++◌, length, map, take, drop, Option, Some, None}
use Rattle.std.specs.Prelude.{if◌then◌else◌, Result, Ok, Err, OnOk, IfOk, slice_index_or}
use Rattle.std.specs.List.{list_all}
use Rattle.base_core.specs.Counts.{Rose}
use Rattle.flash_core.specs.declared.flash.Flash as flash
use Rattle.flash_core.specs.declared.flash.FlashStop.TheVariants as flash_stop
use Rattle.host_io.specs.{declared.files.Files.Ghosts, Contents.Directory, Reads.ReadsFile}
use Rattle.fwu_formats.specs.{Layout.slot_bytes, Layout.find_image, Package.Entry, Package.payload}
use Rattle.fwu_model.specs.{State.State, State.Move, State.Switch, State.update_bank, Sound.Setting, declared.kinds.Status.TheVariants.AuthFail}
use Rattle.fwu_model.specs.{Answer.may_install, Answer.staged_bits, Answer.staged_package}
use Rattle.fwu_model.specs.Session.{On, Staged, Nothing, is_committed, no_handles}
use Rattle.fip_tables.specs.Files.{Lacks, Tells}
pub use Rattle.fip_tables.specs.Images.{no_entry}
use Rattle.agent_machine.specs.{Beside.SparesBlocksByAll, Moment.Moment, Moment.Shows, Goes.GoesByMoves}
use Rattle.agent_machine.specs.Filling.{between, filled, within}
use Rattle.agent_calls.specs.{declared.agent.Agent.Agent, Shown.SpentBy, Shown.moment}
use Rattle.update_client.specs.{declared.stops.SendStop.SendStop, Halts.Halts, Halts.StopsWithin, Halts.flash_of}
use Rattle.update_client.specs.declared.stops.SendStop.TheVariants.{End, ReadFailed, Lost, Fault}

-- ---- what is asked of the file of a package, before an image of it is sent

-- The payload of an entry stands in the file of this name.
pub record HoldsPayload (told : Option Directory) (name : List ℕ) (e : Entry) : Type 0 where
  -- it ends below 2 ^ 64, whatever file it is
  pub ends : e.offset + e.size < 2 ^ 64
  -- where the file's bytes are told, it ends within them
  pub stored : (file : List ℕ) → Tells told name file → e.offset + e.size ≤ length file
  -- told files have the file
  pub there : Lacks told name → ⊥

-- So do those of all these entries.
pub record HoldsPayloads (told : Option Directory) (name : List ℕ) (entries : List Entry) : Type 0 where
  pub ends : All (λ e. e.offset + e.size < 2 ^ 64) entries
  pub stored : (file : List ℕ) → Tells told name file → All (λ e. e.offset + e.size ≤ length file) entries
  pub there : Lacks told name → ⊥

-- ---- an image

-- a piece of a payload, from a place of it on, was read and written behind what was there
pub record WritesPiece (told : Option Directory) (name : List ℕ) (e : Entry) (at : ℕ) (result : Result ℕ SendStop)
    (old new : Moment) : Type 0 where
  pub bytes : List ℕ
  pub count : IfOk result (λ n. (length bytes ≡ n) × (0 < n) × (at + n ≤ e.size))
  pub read : IfOk result (λ n. (file : List ℕ) → Tells told name file → bytes ≡ take n (drop at (payload file e)))
  pub goes : (E : Setting) (s : State) (boot : ℕ) (parts : List Staged) (image : ℕ) (before : List ℕ)
      → E.layout ≡ old.fields.layout → image < length parts → length before ≡ at
      → e.size ≤ slot_bytes E.layout image → Shows old s (within boot parts image before)
      → Halts result E old new s boot (within boot parts image (before ++ bytes))

-- a payload was read and written whole
pub record WritesImage (told : Option Directory) (name : List ℕ) (e : Entry) (result : Result (Unit {0}) SendStop)
    (old new : Moment) : Type 0 where
  pub bytes : List ℕ
  pub count : OnOk result (length bytes ≡ e.size)
  pub read : OnOk result ((file : List ℕ) → Tells told name file → bytes ≡ payload file e)
  pub goes : (E : Setting) (s : State) (boot : ℕ) (parts : List Staged) (image : ℕ) → E.layout ≡ old.fields.layout
      → image < length parts
      → e.size ≤ slot_bytes E.layout image → Shows old s (within boot parts image [])
      → Halts result E old new s boot (within boot parts image bytes)

-- how many calls of the files failed, by a result that tells it
abbrev pub unread_in : {T : Type 0} → Result T SendStop → ℕ
unread_in (Err ReadFailed) = 1
unread_in other = 0

-- a read fails only where the files' faults rose, and no call of the files failed but the one that is told
pub record ReadsPieceBy {T : Type 0} (before now : ℕ) (result : Result T SendStop) : Type 0 where
  pub later : before ≤ now
  pub once : now ≤ before + unread_in result
  pub failed : result ≡ Err ReadFailed → Rose before now

-- Calls in a row, on every device, whatever its reads give: the layout and the bank that was started stay, and no block that they
-- spare is erased or programmed.
pub record SparesOthers (old new : Moment) : Type 0 where
  pub layout : new.fields.layout ≡ old.fields.layout
  pub boot : new.fields.boot ≡ old.fields.boot
  pub touches : SparesBlocksByAll old.fields old.writes new.writes

-- What a part of a sending promises of its agent, its files and its buffer, whatever it answers and on every device.
pub record KeepsBeside {D H T : Type 0} {F : flash.Ghosts D} (g : Ghosts H) (name : List ℕ) (result : Result T SendStop)
    (old new : Agent D F) (from to : H) (buf filled : List ℕ) : Type 0 where
  -- it is not answered that an image is at fault, that a begin was refused, or that the agent was gone
  pub stops : StopsWithin result
  -- the agent is gone, and its device off, exactly where the flash stopped it, which has a cause
  pub spent : SpentBy (flash_of result) old new
  -- no block is erased or programmed but those of the metadata, the marks of the starts on trial, and the bank behind the one that
  -- was started
  pub spares : SparesOthers (moment old) (moment new)
  -- the buffer has as many bytes as before
  pub buffer : length filled ≡ length buf
  -- the file of this name alone is asked for, and none is written
  pub files : ReadsFile g name from to
  -- a read fails only where the count of faults rose, and no call of the files failed but the one that is told
  pub reads : ReadsPieceBy (g.faults from) (g.faults to) result

-- an image of which nothing was staged was opened, written and committed
pub record SendsImage (told : Option Directory) (name : List ℕ) (e : Entry) (request : ℕ) (result : Result (Unit {0}) SendStop)
    (old new : Moment) : Type 0 where
  pub bytes : List ℕ
  pub read : OnOk result ((file : List ℕ) → Tells told name file → bytes ≡ payload file e)
  pub goes : (E : Setting) (s : State) (boot : ℕ) (parts : List Staged) (image : ℕ) → E.layout ≡ old.fields.layout
      → image < length parts → find_image E.layout.rows e.guid ≡ Some image
      → e.size ≤ slot_bytes E.layout image → slice_index_or parts image Nothing ≡ Nothing → Shows old s (between boot parts)
      → Halts result E old new s boot (between boot (filled parts image bytes (request == 0)))

-- ---- all images

-- these bytes of images, each committed where nothing was staged
abbrev pub sent_parts : List Staged → List (List ℕ) → List ℕ → Bool → List Staged
sent_parts parts [] places bit = parts
sent_parts parts (bytes ∷ images) [] bit = parts
sent_parts parts (bytes ∷ images) (place ∷ places) bit = sent_parts (filled parts place bytes bit) images places bit

-- The entries are those of these images of the layout. Nothing is staged of them, no two are the same, and each payload fits
-- its slot.
pub record AreUnstaged (E : Setting) (entries : List Entry) (places : List ℕ) (parts : List Staged) : Type 0 where
  pub count : length places ≡ length entries
  pub below : (k : ℕ) → k < length entries → slice_index_or places k 0 < length parts
  pub found : (k : ℕ) → k < length entries
      → find_image E.layout.rows (slice_index_or entries k no_entry).guid ≡ Some (slice_index_or places k 0)
  pub fit : (k : ℕ) → k < length entries
      → (slice_index_or entries k no_entry).size ≤ slot_bytes E.layout (slice_index_or places k 0)
  pub empty : (k : ℕ) → k < length entries → slice_index_or parts (slice_index_or places k 0) Nothing ≡ Nothing
  pub apart : (j k : ℕ) → j < k → k < length entries → slice_index_or places j 0 ≢ slice_index_or places k 0

-- all images were read, written and committed, or that was stopped
pub record SendsImages (told : Option Directory) (name : List ℕ) (entries : List Entry) (request : ℕ)
    (result : Result (Unit {0}) SendStop) (old new : Moment) : Type 0 where
  pub images : List (List ℕ)
  pub count : OnOk result (length images ≡ length entries)
  pub read : OnOk result ((file : List ℕ) → Tells told name file → images ≡ map (payload file) entries)
  pub goes : (E : Setting) (s : State) (boot : ℕ) (parts : List Staged) (places : List ℕ) → E.layout ≡ old.fields.layout
      → AreUnstaged E entries places parts → Shows old s (between boot parts)
      → Halts result E old new s boot (between boot (sent_parts parts images places (request == 0)))

-- ---- how a staging ends that has all images

abbrev pub end_moves : Setting → State → List (List ℕ) → List Bool → List Move
end_moves E s p bits = if may_install E s p then Switch (update_bank s) p bits ∷ [] else []

-- installed; or refused and cancelled; or a read failed, and it was cancelled; or stopped by the flash
abbrev pub FinishesSend : Result (Unit {0}) SendStop → Setting → Moment → Moment → State → ℕ → List (List ℕ) → List Bool → Type 0
FinishesSend (Ok x) E old new s boot p bits = (may_install E s p ≡ true)
    × GoesByMoves E (Ok tt) old new s (end_moves E s p bits) (On boot None no_handles)
FinishesSend (Err (End st)) E old new s boot p bits = (st ≡ AuthFail) × (may_install E s p ≡ false)
    × GoesByMoves E (Ok tt) old new s (end_moves E s p bits) (On boot None no_handles)
FinishesSend (Err ReadFailed) E old new s boot p bits = GoesByMoves E (Ok tt) old new s [] (On boot None no_handles)
FinishesSend (Err Lost) E old new s boot p bits =
    GoesByMoves E (Err flash_stop.Lost) old new s (end_moves E s p bits) (On boot None no_handles)
FinishesSend (Err Fault) E old new s boot p bits =
    GoesByMoves E (Err flash_stop.Failed) old new s (end_moves E s p bits) (On boot None no_handles)
FinishesSend (Err other) E old new s boot p bits = ⊥

-- A staging is ended in which all images are committed.
abbrev pub FinishesBy : (List ℕ → Bool) → Result (Unit {0}) SendStop → Moment → Moment → Type 0
FinishesBy passes result old new = (E : Setting) (s : State) (boot : ℕ) (parts : List Staged)
    → E.layout ≡ old.fields.layout → E.passes ≡ passes → list_all is_committed parts ≡ true → Shows old s (between boot parts)
    → FinishesSend result E old new s boot (staged_package parts) (staged_bits parts)

-- The images are sent into a staging that lacks just them, and it ends.
pub record InstallsImages (told : Option Directory) (name : List ℕ) (entries : List Entry) (request : ℕ) (passes : List ℕ → Bool)
    (result : Result (Unit {0}) SendStop) (old new : Moment) : Type 0 where
  pub images : List (List ℕ)
  pub count : length images ≡ length entries
  pub read : (file : List ℕ) → Tells told name file → images ≡ map (payload file) entries
  pub goes : (E : Setting) (s : State) (boot : ℕ) (parts : List Staged) (places : List ℕ) → E.layout ≡ old.fields.layout
      → E.passes ≡ passes → AreUnstaged E entries places parts
      → let now = sent_parts parts images places (request == 0) in list_all is_committed now ≡ true
      → Shows old s (between boot parts) → FinishesSend result E old new s boot (staged_package now) (staged_bits now)
