-- What a turn of `send` says, whole or partial, on any device and of any file.
use Rattle.std.specs.Prelude.{◌≡◌, ◌≢◌, ◌⊎◌, ◌<◌, ℕ, ◌+◌, Bool, true, false, List, length, Option, Some, None, Result, Ok, Err, IsTrue}
use Rattle.std.specs.Prelude.{⊤, slice_index_or}
use Rattle.base_core.specs.Block.{block_bytes}
use Rattle.flash_core.specs.{declared.flash.Arming.Arming, Counts.lowered_by}
use Rattle.host_io.specs.{Access.Access, Access.Asks, Contents.Directory}
use Rattle.fwu_formats.specs.Package.{Toc, has_image}
use Rattle.fwu_model.specs.{State.State, State.after, Sound.Setting, Session.Session, Call.Call, Reply.Reply}
use Rattle.fwu_model.specs.Call as call
use Rattle.fwu_model.specs.Reply as reply
use Rattle.fwu_model.specs.Answer.{image_held, images_of, images_over, table_in}
use Rattle.fip_tables.specs.Files.{Lacks, Tells}
use Rattle.agent_machine.specs.{Ends.TakesSwitch, Fields.Fields, Meets.Stays}
use Rattle.agent_machine.specs.Moment as agent
use Rattle.agent_calls.specs.Takes.{Takes as TakesWrites, writes_to_begin}
use Rattle.update_client.specs.{declared.stops.Sent.Sent, declared.stops.SendStop.SendStop, Sends.send_answer}
use Rattle.fwu_formats.specs.Layout.{no_row}
use Rattle.update_client.specs.declared.stops.SendStop.TheVariants.{MissingImage, ImageTooLarge, Begin, End, ReadFailed, Lost, Fault, Gone}
use Rattle.update_client.specs.Takes.{writes_sent}
use Rattle.update_client.specs.Partial.{AreWhole, over_answer, writes_over}
use Rattle.script_turns.specs.{Tables.IsOfAnswer, Powered.TurnMoment, Powered.kept_at}

-- a sending of all images, or one over those of the active bank
abbrev pub send_call : Bool → List ℕ → ℕ → Call
send_call false name request = call.Send name request
send_call true name request = call.SendPartial name request

-- the table of the file, or what is answered to it: that of its bytes, where they are told, and of what was read, on any files
abbrev pub IsTableOf : Option Directory → List ℕ → Result Toc Reply → Type 0
IsTableOf files name found = ((file : List ℕ) → Tells files name file → table_in file ≡ found) × IsOfAnswer found

-- told files lack what is to be sent
abbrev pub LacksSent : Option Directory → Call → Type 0
LacksSent files (call.Send name request) = Lacks files name
LacksSent files (call.SendPartial name request) = Lacks files name
LacksSent files other = ⊥

-- an access that no turn of the call makes: a sending asks for its own file alone, and any other call for none
abbrev pub IsUnnamed : Call → Access → Type 0
IsUnnamed (call.Send name request) access = access ≢ Asks name
IsUnnamed (call.SendPartial name request) access = access ≢ Asks name
IsUnnamed other access = ⊤

-- A sending that is done takes off an armed loss the erases and programs of its writes and of the switch, and no other. One whose
-- end is refused takes those of its writes alone.
abbrev pub SpendsSent : Reply → ℕ → Option Arming → Option Arming → Type 0
SpendsSent (reply.Sent images skipped) writes armed arming = TakesSwitch (lowered_by writes armed) arming
SpendsSent (reply.SentPartial images skipped copied) writes armed arming = TakesSwitch (lowered_by writes armed) arming
SpendsSent (reply.EndRefused st) writes armed arming = TakesWrites writes armed arming
SpendsSent other writes armed arming = ⊤

-- Some table and images were sent, those of the file where it is told. The answer is that of each machine that the agent shows, and
-- it shows the machine after it. An armed loss counts the writes of this same table: those of the begin, and of its images in
-- pieces of 4096 bytes.
pub record SendsBy (passes : List ℕ → Bool) (files : Option Directory) (name : List ℕ) (request : ℕ) (r : Reply)
    (old new : agent.Moment) (armed arming : Option Arming) : Type 0 where
  pub toc : Toc
  pub images : List (List ℕ)
  pub table : IsTableOf files name (Ok toc)
  pub read : (file : List ℕ) → Tells files name file → images ≡ images_of old.fields.layout.rows file toc
  pub exact : (E : Setting) (s : State) (x : Session) → E.layout ≡ old.fields.layout → E.passes ≡ passes → agent.Shows old s x
      → (r ≡ (send_answer E toc images request s x).reply)
      × agent.Shows new (after s (send_answer E toc images request s x).moves) (send_answer E toc images request s x).next
  pub stays : Stays old new
  pub spent : SpendsSent r (writes_to_begin old.fields + writes_sent block_bytes old.fields.layout.rows toc) armed arming

-- the reply of a partial sending tells that its begin was done
abbrev pub TellsBegun : Reply → Type 0
TellsBegun (reply.SentPartial images skipped copied) = ⊤
TellsBegun (reply.EndRefused st) = ⊤
TellsBegun other = ⊥

-- Some table and images were sent over some bytes of the images that the table lacks. These are the active bank's where the device
-- tells, and behind a begin that was done as many on any device. The images are those of the file over these bytes where it is
-- told. The answer is that of each machine that the agent shows, and it shows the machine after it. An armed loss counts the writes
-- of this same table, and those of the images that are copied.
pub record SendsOverBy (passes : List ℕ → Bool) (files : Option Directory) (name : List ℕ) (request : ℕ) (r : Reply)
    (old new : agent.Moment) (armed arming : Option Arming) : Type 0 where
  pub toc : Toc
  pub bytes : ℕ → List ℕ
  pub copied : IsTrue old.tells → (s : State) (x : Session) → agent.Shows old s x → (i : ℕ) → i < length old.fields.layout.rows
      → has_image toc (slice_index_or old.fields.layout.rows i no_row) ≡ false → bytes i ≡ image_held s s.active i
  pub whole : TellsBegun r → AreWhole old.fields.layout.rows toc old.fields bytes
  pub images : List (List ℕ)
  pub table : IsTableOf files name (Ok toc)
  pub read : (file : List ℕ) → Tells files name file → images ≡ images_over old.fields.layout.rows file toc bytes
  pub exact : (E : Setting) (s : State) (x : Session) → E.layout ≡ old.fields.layout → E.passes ≡ passes → agent.Shows old s x
      → (r ≡ (over_answer E toc images request s x).reply)
      × agent.Shows new (after s (over_answer E toc images request s x).moves) (over_answer E toc images request s x).next
  pub stays : Stays old new
  pub spent : SpendsSent r (writes_to_begin old.fields + writes_over block_bytes old.fields.layout.rows old.fields.lengths toc)
      armed arming

-- by whether it is partial
abbrev pub SendsAs : Bool → (List ℕ → Bool) → Option Directory → List ℕ → ℕ → Reply → agent.Moment → agent.Moment
    → Option Arming → Option Arming → Type 0
SendsAs false passes files name request r old new armed arming = SendsBy passes files name request r old new armed arming
SendsAs true passes files name request r old new armed arming = SendsOverBy passes files name request r old new armed arming

-- A file without a table is answered by its first fault, and the agent is as it was. Whatever the file, some bytes have the fault
-- of a package, and some headers and items that of a capsule. Else what it holds is sent.
abbrev pub AnswersSend : Bool → (List ℕ → Bool) → Option Directory → List ℕ → ℕ → Reply → agent.Moment → agent.Moment
    → Option Arming → Option Arming → Type 0
AnswersSend partial passes files name request (reply.BadPackage f) old new armed arming =
    IsTableOf files name (Err (reply.BadPackage f)) × (new ≡ old)
AnswersSend partial passes files name request (reply.BadCapsule f) old new armed arming =
    IsTableOf files name (Err (reply.BadCapsule f)) × (new ≡ old)
AnswersSend partial passes files name request r old new armed arming =
    SendsAs partial passes files name request r old new armed arming

-- the flash stopped it
abbrev pub IsFlashStop : Reply → Type 0
IsFlashStop reply.Lost = ⊤
IsFlashStop reply.Fault = ⊤
IsFlashStop other = ⊥

-- Where no bank is on nothing is sent. Else it is answered, or nothing is on: the flash stopped it, or the file could not be read.
abbrev pub SendSays : Bool → (List ℕ → Bool) → Bool → Option Directory → List ℕ → ℕ → Option Fields → TurnMoment → Reply
    → Option Fields → TurnMoment → Type 0
SendSays partial passes tells files name request None before r on now = (r ≡ reply.IsOff) × (on ≡ None)
SendSays partial passes tells files name request (Some f) before r None now = IsFlashStop r ⊎ (r ≡ reply.ReadFault)
SendSays partial passes tells files name request (Some f) before r (Some g) now =
    AnswersSend partial passes files name request r (kept_at tells f before.told before.writes)
    (kept_at tells g now.told now.writes) before.armed now.armed

-- ---- a sending that ended

-- what is told of one that was done: of a partial one also how many images were copied
abbrev pub done_reply : Bool → Sent → Reply
done_reply false sent = reply.Sent sent.images sent.skipped
done_reply true sent = reply.SentPartial sent.images sent.skipped sent.copied

-- the reply; an agent that is there is never gone
abbrev pub sent_reply : Bool → Result Sent SendStop → Reply
sent_reply partial (Ok sent) = done_reply partial sent
sent_reply partial (Err (MissingImage guid)) = reply.Missing guid
sent_reply partial (Err (ImageTooLarge guid)) = reply.TooLarge guid
sent_reply partial (Err (Begin st)) = reply.BeginRefused st
sent_reply partial (Err (End st)) = reply.EndRefused st
sent_reply partial (Err ReadFailed) = reply.ReadFault
sent_reply partial (Err Lost) = reply.Lost
sent_reply partial (Err Fault) = reply.Fault
sent_reply partial (Err Gone) = reply.IsOff

-- it was answered
abbrev pub is_answered : Result Sent SendStop → Bool
is_answered (Err ReadFailed) = false
is_answered (Err Lost) = false
is_answered (Err Fault) = false
is_answered (Err Gone) = false
is_answered other = true
