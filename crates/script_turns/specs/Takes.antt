-- What an armed loss counts of a turn, and which blocks it erases or programs, on any device. And which metadata decides after it.
-- "Did nothing" says of each device, also of one that tells no content, that its counts, its power and the armed loss stay. And
-- that nothing was erased or programmed, where the device counts that. "Wrote nothing" says of the armed loss alone that it stays.
use Rattle.std.specs.Prelude.{◌≡◌, ◌⊎◌, ℕ, ◌+◌, ◌-◌, ◌*◌, Bool, true, false, List, length, Option, Some, None, Result, Ok, Err, IsTrue, ⊤, IsFalse, ◌||◌}
use Rattle.flash_core.specs.declared.flash.FlashStop.{FlashStop}
use Rattle.flash_core.specs.declared.flash.FlashStop.TheVariants as flash_stop
use Rattle.flash_core.specs.{Counts.ReachesNone, Counts.Rose, Counts.arming_kept, Told.Told, Touches.TouchesOnly}
use Rattle.base_core.specs.Block.{block_bytes}
use Rattle.host_io.specs.Contents.{Directory}
use Rattle.fwu_formats.specs.{Layout.ImageRow, Layout.find_image, Metadata.MetaRead, Metadata.bit_at, Package.Entry, Package.Toc, Places.counter_block}
use Rattle.slot_writer.specs.Writes.{SpendsArming, writes_to_append, writes_to_finish}
use Rattle.agent_kept.specs.Kept.{handle_kept, part_at, size_of}
use Rattle.agent_kept.specs.declared.parts.Handle.TheVariants as handle
use Rattle.agent_machine.specs.{Beside.SparesBlocks, Beside.SparesBlocksByAll, Deciding.KeepsOldOrNew, Fields.Fields, Ends.IsWriter, Ends.TakesSwitch, Stored.TakesStore}
use Rattle.agent_calls.specs.Metas.{meta_accepted, meta_back, meta_begun, meta_ended}
use Rattle.agent_calls.specs.Takes.{Takes as TakesWrites, writes_to_begin, writes_to_copy}
use Rattle.fip_tables.specs.Images.{AreImages, present}
use Rattle.update_client.specs.{Takes.TakesFirst, Partial.writes_copied}
use Rattle.fwu_model.specs.{Answer.are_named, Call.Call, Reply.Reply, Run.is_boot, Causes.is_cut}
use Rattle.fwu_model.specs.Call as call
use Rattle.fwu_model.specs.Reply as reply
use Rattle.script_turns.specs.{Powered.TurnMoment, Powered.SameDevice, Sending.IsTableOf}

-- how the flash's own calls tell of a turn with this reply
abbrev pub stop_told : Reply → Result (Unit {0}) FlashStop
stop_told reply.Lost = Err flash_stop.Lost
stop_told reply.Fault = Err flash_stop.Failed
stop_told other = Ok tt

-- how many calls of the files failed, by a turn with this reply
abbrev pub unread_told : Reply → ℕ
unread_told reply.ReadFault = 1
unread_told other = 0

-- by a reply: what was done where it tells that, and what where it is a refusal
abbrev pub ByReply : Reply → Type 0 → Type 0 → Type 0
ByReply reply.Success done refused = done
ByReply (reply.Refused st) done refused = refused
ByReply other done refused = ⊤

-- the metadata was stored, or is as it was and nothing was written
abbrev pub StoresMeta : Fields → Option Fields → TurnMoment → TurnMoment → Type 0
StoresMeta f (Some g) old new = TakesStore f.meta g.meta old.armed new.armed
StoresMeta f None old new = ⊤

-- what a write through a handle wrote, by the image of the handle; a refused one did nothing
abbrev pub WritesBy : Reply → Fields → ℕ → List ℕ → TurnMoment → TurnMoment → Type 0
WritesBy (reply.Refused st) f number bytes old new = SameDevice old new
WritesBy r f number bytes old new = (image : ℕ) → handle_kept f.session (number - 1) ≡ handle.Writes image
    → SpendsArming (stop_told r) (writes_to_append (size_of (part_at f.session image)) (length bytes))
    old.armed new.armed old.counts new.counts

-- what ending an image wrote, by the image of the handle; where it writes none, nothing was done
pub record CommitsBy (r : Reply) (f : Fields) (number : ℕ) (old new : TurnMoment) : Type 0 where
  pub spent : (image : ℕ) → IsWriter f number image
      → SpendsArming (stop_told r) (writes_to_finish (size_of (part_at f.session image))) old.armed new.armed old.counts new.counts
  pub still : ((image : ℕ) → IsWriter f number image → ⊥) → SameDevice old new

-- A read writes nothing, and reaches no armed loss. A loss that no arming made clears the arming.
pub record ReadTakes (r : Reply) (old new : TurnMoment) : Type 0 where
  pub writes : new.writes ≡ old.writes
  pub armed : new.armed ≡ arming_kept (stop_told r) old.armed
  pub reached : ReachesNone (stop_told r) old.counts new.counts

-- by the reply of a read: a refused one did nothing
abbrev pub ReadsBy : Reply → TurnMoment → TurnMoment → Type 0
ReadsBy (reply.Refused st) old new = SameDevice old new
ReadsBy r old new = ReadTakes r old new

-- what an acceptance wrote; where the image is accepted already, nothing was done
pub record AcceptsBy (r : Reply) (f : Fields) (guid : List ℕ) (old new : TurnMoment) : Type 0 where
  pub spent : ByReply r (StoresMeta f new.on old new) (SameDevice old new)
  pub still : (image : ℕ) → find_image f.layout.rows guid ≡ Some image → IsTrue (bit_at f.meta.meta f.meta.meta.active image)
      → SameDevice old new

-- those of its begin, and of the copies of a partial one
abbrev pub writes_before : Bool → Fields → Toc → ℕ
writes_before false f toc = writes_to_begin f
writes_before true f toc = writes_to_begin f + writes_copied f.layout.rows f.lengths toc

-- the entries of all images, or of those that the table has
abbrev pub AreSent : Bool → List ImageRow → Toc → List Entry → Type 0
AreSent false rows toc entries = AreImages rows toc entries
AreSent true rows toc entries = entries ≡ present rows toc

-- By some table, that of the file where it is told: those of the begin, of the first images, and of the first pieces of the next
-- one, of which a further one could not be read.
pub record StopTakes (partial : Bool) (files : Option Directory) (name : List ℕ) (f : Fields) (old new : TurnMoment) : Type 0 where
  pub toc : Toc
  pub table : IsTableOf files name (Ok toc)
  pub entries : List Entry
  pub sent : AreSent partial f.layout.rows toc entries
  pub spent : TakesFirst block_bytes entries (λ writes. TakesWrites (writes_before partial f toc + writes) old.armed new.armed)

-- What was refused before anything was sent did nothing. A sending whose file could not be read takes the erases and programs of
-- its writes up to that read. What one takes that is done, or whose end is refused, stands beside the table that was sent, in
-- `SendsBy` and `SendsOverBy`.
abbrev pub SendTakes : Bool → Option Directory → List ℕ → Fields → Reply → TurnMoment → TurnMoment → Type 0
SendTakes partial files name f (reply.BadPackage g) old new = SameDevice old new
SendTakes partial files name f (reply.BadCapsule g) old new = SameDevice old new
SendTakes partial files name f (reply.Missing guid) old new = SameDevice old new
SendTakes partial files name f (reply.TooLarge guid) old new = SameDevice old new
SendTakes partial files name f (reply.BeginRefused st) old new = SameDevice old new
SendTakes partial files name f reply.ReadFault old new = SameDevice old new ⊎ StopTakes partial files name f old new
SendTakes partial files name f other old new = ⊤

-- By what the agent kept: the calls that are not named did nothing. Nor did one that is answered `Refused`, but a going back, which
-- may have read the flash. A begin stores the metadata, or writes nothing where the update bank was invalid already. A partial one
-- writes each image that is copied besides. An end is a switch: an erase of the marks, or none, and a store. What a boot takes
-- stands beside its end, in `BootsAs`.
abbrev pub TakesOn : Option Directory → Call → Fields → TurnMoment → Reply → TurnMoment → Type 0
TakesOn files (call.Begin n) f old r new =
    ByReply r (TakesWrites (writes_to_begin f) old.armed new.armed) (SameDevice old new)
TakesOn files (call.BeginPartial types) f old r new = ByReply r (TakesWrites (writes_to_begin f
    + writes_to_copy (are_named f.layout.rows types) f.lengths (length f.layout.rows)) old.armed new.armed) (SameDevice old new)
TakesOn files (call.Write number bytes) f old r new = WritesBy r f number bytes old new
TakesOn files (call.Read number room) f old r new = ReadsBy r old new
TakesOn files (call.Commit number request) f old r new = CommitsBy r f number old new
TakesOn files call.End f old r new = ByReply r (TakesSwitch old.armed new.armed) (SameDevice old new)
TakesOn files (call.Accepts guid) f old r new = AcceptsBy r f guid old new
TakesOn files call.Previous f old r new =
    ByReply r (StoresMeta f new.on old new) ((new.armed ≡ old.armed) × (new.writes ≡ old.writes))
TakesOn files (call.Send name request) f old r new = SendTakes false files name f r old new
TakesOn files (call.SendPartial name request) f old r new = SendTakes true files name f r old new
TakesOn files call.Boot f old r new = ⊤
TakesOn files (call.Cut n k) f old r new = ⊤
TakesOn files other f old r new = SameDevice old new

-- and where no bank is on, nothing is done but by a boot and a `cut`
abbrev pub TakesBy : Option Directory → Call → Option Fields → TurnMoment → Reply → TurnMoment → Type 0
TakesBy files c None old r new = IsFalse (is_boot c || is_cut c) → SameDevice old new
TakesBy files c (Some f) old r new = TakesOn files c f old r new

-- and a read that failed without a fault of the files leaves the device as it is
pub record TakesTurn (files : Option Directory) (c : Call) (old : TurnMoment) (r : Reply) (new : TurnMoment)
    (was are : ℕ) : Type 0 where
  pub by_call : TakesBy files c old.on old r new
  pub unread : r ≡ reply.ReadFault → (Rose was are → ⊥) → SameDevice old new

-- ---- which blocks a turn erases or programs, on every device that counts its writes, whatever its reads give

-- A boot: the replicas, in blocks 1 and 2, the marks of starts on trial, in block 3, and the records, in blocks 5 and 6. The
-- counter's marks, in block 4, stay.
pub record TouchesByBoot (old new : ℕ → ℕ) : Type 0 where
  pub front : TouchesOnly block_bytes (block_bytes * 7) old new
  pub marks_still : new counter_block ≡ old counter_block

-- A boot touches these, whatever was on, and where no bank is on no other call touches any. Where one is, a call of the
-- agent touches only the metadata, the marks of the starts on trial and the bank behind the one that was started. That bank it
-- touches only where the one that was started is active, or by calls in a row. A show, a cut and a request for no call touch
-- nothing.
abbrev pub TouchesBy : Call → Option Fields → (ℕ → ℕ) → (ℕ → ℕ) → Type 0
TouchesBy call.Boot on old new = TouchesByBoot old new
TouchesBy other None old new = new ≡ old
TouchesBy call.Show (Some f) old new = new ≡ old
TouchesBy call.NoCall (Some f) old new = new ≡ old
TouchesBy (call.Cut n k) (Some f) old new = new ≡ old
TouchesBy (call.BeginPartial types) (Some f) old new = SparesBlocksByAll f old new
TouchesBy (call.Send name request) (Some f) old new = SparesBlocksByAll f old new
TouchesBy (call.SendPartial name request) (Some f) old new = SparesBlocksByAll f old new
TouchesBy other (Some f) old new = SparesBlocks f old new

-- ---- which metadata decides in what a loss leaves of a call of the agent

-- the metadata that a call of the agent leaves is what the agent kept, or what the call makes of that
abbrev pub IsMetaAfter : Call → Fields → MetaRead → Type 0
IsMetaAfter (call.Begin n) f m = (m ≡ f.meta) ⊎ (m ≡ meta_begun f)
IsMetaAfter (call.BeginPartial types) f m = (m ≡ f.meta) ⊎ (m ≡ meta_begun f)
IsMetaAfter (call.Accepts guid) f m =
    (m ≡ f.meta) ⊎ ((image : ℕ) × (find_image f.layout.rows guid ≡ Some image) × (m ≡ meta_accepted f image))
IsMetaAfter call.End f m = (m ≡ f.meta) ⊎ (m ≡ meta_ended f)
IsMetaAfter call.Previous f m = (m ≡ f.meta) ⊎ (m ≡ meta_back f)
IsMetaAfter other f m = m ≡ f.meta

-- Take a flash at rest whose replicas both hold what the agent kept. In each image that a loss leaves that metadata decides, or the
-- one that the call makes of it.
pub record DecidesAfter (c : Call) (f : Fields) (s t : Told) : Type 0 where
  pub meta : MetaRead
  pub is_after : IsMetaAfter c f meta
  pub decides : KeepsOldOrNew f.layout f.meta meta s t
