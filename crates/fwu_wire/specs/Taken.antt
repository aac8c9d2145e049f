-- What a call of the agent gave, as a reply of the machine, and what a server made of a request.
use Rattle.std.specs.Prelude.{◌≡◌, ℕ, ◌+◌, ◌-◌, Bool, true, false, List, length, take, drop, Option, Some, None, Result, Ok, Err}
use Rattle.std.specs.Prelude.{IfOk, IsFalse, IsTrue, ⊤}
use Rattle.flash_core.specs.declared.flash.Flash.{Ghosts}
use Rattle.fwu_formats.specs.{Layout.find_image, Metadata.bit_at}
use Rattle.fwu_model.specs.{Call.Call, Reply.Reply, declared.kinds.Status.Status}
use Rattle.fwu_model.specs.Call as call
use Rattle.fwu_model.specs.Reply as model
use Rattle.slot_writer.specs.{Slots.done_of, Writes.SpendsArming, Writes.writes_to_append, Writes.writes_to_finish}
use Rattle.agent_kept.specs.Kept.{handle_kept, part_at, size_of}
use Rattle.agent_kept.specs.declared.parts.Handle.TheVariants.{Writes}
use Rattle.agent_machine.specs.declared.stop.Stop as agents
use Rattle.agent_machine.specs.declared.stop.Stop.TheVariants as agent_stop
use Rattle.agent_machine.specs.{Ends.IsWriter, Ends.TakesSwitch, Fields.Fields, Stored.may_try_kept}
use Rattle.agent_machine.specs.{Meets.LeavesFlash, Meets.flash_result, Moment.Moment}
use Rattle.agent_calls.specs.{AnswersCall.AnswersCall, Metas.has_invalid_target, Records.ReadsAlone, declared.agent.Agent.Agent}
use Rattle.agent_calls.specs.{Shown.SpendsStore, Shown.device, Shown.fields, Shown.moment, Takes.Takes, Takes.writes_to_begin}
use Rattle.wire_frames.specs.{declared.exchange.Admission.Admission, Frames.frame, Frames.request_number_of, Frames.numbered}
use Rattle.wire_frames.specs.Frames.{PutsFront}
use Rattle.wire_frames.specs.declared.exchange.Admission.TheVariants.{Acts, Repeats, Ignored}
use Rattle.wire_frames.specs.Exchange.{LastAnswer, admission}
use Rattle.fwu_wire.specs.{Replies.message, Replies.replied, declared.replies.AgentReply.AgentReply, declared.stops.Stop.Stop}
use Rattle.fwu_wire.specs.{declared.stops.Taken.Taken, declared.server.Server.Server}
use Rattle.fwu_wire.specs.declared.replies.AgentReply.TheVariants as wire
use Rattle.fwu_wire.specs.declared.stops.Stop.TheVariants as stop
use Rattle.fwu_wire.specs.declared.stops.Taken.TheVariants as taken

-- ---- stops

-- why the agent gave no reply
abbrev pub agents_stop : Stop → agents.Stop
agents_stop stop.Lost = agent_stop.Lost
agents_stop stop.Fault = agent_stop.Fault
agents_stop stop.Gone = agent_stop.Gone

-- whether the agent was stopped, as one of its calls tells it
abbrev pub agent_stopped_by : {T : Type 0} → Result T Stop → Result (Unit {0}) agents.Stop
agent_stopped_by (Ok value) = Ok tt
agent_stopped_by (Err why) = Err (agents_stop why)

-- ---- a call of the agent

-- its answer or its refusal as a reply, or why there is none
abbrev pub said : {T : Type 0} → (T → AgentReply) → Result T agents.Stop → Result AgentReply Stop
said says (Ok value) = Ok (says value)
said says (Err (agent_stop.Status st)) = Ok (wire.Refused st)
said says (Err agent_stop.Lost) = Err stop.Lost
said says (Err agent_stop.Fault) = Err stop.Fault
said says (Err agent_stop.Gone) = Err stop.Gone

-- and what the agent answered, of a reply
abbrev pub agents_answer : Result AgentReply Stop → Result (Unit {0}) agents.Stop
agents_answer (Ok (wire.Refused st)) = Err (agent_stop.Status st)
agents_answer (Ok other) = Ok tt
agents_answer (Err why) = Err (agents_stop why)

-- The agent was called, and its answer or refusal is the machine's, with the bytes that were read; or the flash stopped it.
pub record CallMeets (passes : List ℕ → Bool) (c : Call) (result : Result AgentReply Stop) (bytes : List ℕ) (old new : Moment)
    : Type 0 where
  pub answers : IfOk result (λ r. AnswersCall passes c (replied r bytes) old new)
  pub leaves : LeavesFlash (flash_result (agent_stopped_by result)) passes c old new

-- ---- what is left as it was

-- Of these calls, by what the agent keeps, and of a request for none the device is neither read nor written.
abbrev pub IsQuietRequest : Fields → Option Call → Type 0
IsQuietRequest f None = ⊤
IsQuietRequest f (Some call.Discover) = ⊤
IsQuietRequest f (Some (call.OpenRead guid)) = ⊤
IsQuietRequest f (Some (call.OpenWrite guid)) = ⊤
IsQuietRequest f (Some call.Cancel) = ⊤
IsQuietRequest f (Some (call.Begin count)) = IsTrue (has_invalid_target f)
IsQuietRequest f (Some (call.Write handle bytes)) =
    (image : ℕ) × (handle_kept f.session (handle - 1) ≡ Writes image)
    × (done_of (size_of (part_at f.session image) + length bytes) ≡ done_of (size_of (part_at f.session image)))
IsQuietRequest f (Some (call.Commit handle request)) = (image : ℕ) → IsWriter f handle image → ⊥
IsQuietRequest f (Some (call.Accepts guid)) =
    (image : ℕ) × (find_image f.layout.rows guid ≡ Some image) × IsTrue (bit_at f.meta.meta f.meta.meta.active image)
IsQuietRequest f (Some call.Previous) = IsFalse (may_try_kept f.meta.meta f.session f.boot)
IsQuietRequest f other = ⊥

-- how many bytes were read
abbrev pub count_read : AgentReply → ℕ
count_read (wire.Got total count) = count
count_read other = 0

-- The buffer at a stop: a read that the flash stopped may have left any bytes from this place on, as many as it asks for.
abbrev pub LeavesBuffer : ℕ → Option Call → Stop → List ℕ → List ℕ → Type 0
LeavesBuffer at (Some (call.Read handle room)) stop.Gone before after = after ≡ before
LeavesBuffer at (Some (call.Read handle room)) why before after =
    (take at after ≡ take at before) × (drop (at + room) after ≡ drop (at + room) before)
LeavesBuffer at asked why before after = after ≡ before

-- ---- what an armed loss counts of a call, on any device

-- these erases and programs were done, no other, and none of them was the armed one
abbrev pub MakesWrites : {D : Type 0} {F : Ghosts D} → ℕ → Agent D F → Agent D F → Type 0
MakesWrites {F = F} writes old new = SpendsArming {T = Unit {0}} (Ok tt) writes
    (F.arming (device old)) (F.arming (device new)) (F.counts (device old)) (F.counts (device new))

-- By the call, where it is done. A begin stores the metadata, or writes nothing where the update bank was invalid already. An
-- acceptance and a going back store it, or leave it as it was and write nothing. A write is of a handle that writes. A commit
-- through no handle that writes did nothing, which is said apart. So is what a read leaves, whatever comes of it. The calls that
-- are not named did nothing.
abbrev pub TakesIfDone : {D : Type 0} {F : Ghosts D} → Call → Agent D F → Agent D F → Type 0
TakesIfDone {F = F} (call.Begin count) old new =
    Takes (writes_to_begin (fields old)) (F.arming (device old)) (F.arming (device new))
TakesIfDone (call.Write handle bytes) old new = let kept = (fields old).session in
    (image : ℕ) × (handle_kept kept (handle - 1) ≡ Writes image)
    × MakesWrites (writes_to_append (size_of (part_at kept image)) (length bytes)) old new
TakesIfDone (call.Read handle room) old new = ⊤
TakesIfDone (call.Commit handle request) old new = (image : ℕ) → IsWriter (fields old) handle image
    → MakesWrites (writes_to_finish (size_of (part_at (fields old).session image))) old new
TakesIfDone {F = F} call.End old new = TakesSwitch (F.arming (device old)) (F.arming (device new))
TakesIfDone (call.Accepts guid) old new = SpendsStore (Ok tt) old new
TakesIfDone call.Previous old new = SpendsStore (Ok tt) old new
TakesIfDone other old new = device new ≡ device old

-- and where it is refused: it did nothing, but that a going back may have read the device
abbrev pub TakesIfRefused : {D : Type 0} {F : Ghosts D} → Call → Agent D F → Agent D F → Type 0
TakesIfRefused {F = F} call.Previous old new = ReadsAlone {X = Unit {0}} F (Ok tt) (device old) (device new)
TakesIfRefused other old new = device new ≡ device old

abbrev pub TakesByReply : {D : Type 0} {F : Ghosts D} → Call → Reply → Agent D F → Agent D F → Type 0
TakesByReply c (model.Refused st) old new = TakesIfRefused c old new
TakesByReply c other old new = TakesIfDone c old new

-- A read reads the device alone, also where the flash stops it: it reaches no armed loss.
abbrev pub ReadsIfRead : {D T : Type 0} {F : Ghosts D} → Option Call → Result T Stop → Agent D F → Agent D F → Type 0
ReadsIfRead {F = F} (Some (call.Read handle room)) result old new =
    ReadsAlone F (flash_result (agent_stopped_by result)) (device old) (device new)
ReadsIfRead other result old new = ⊤

-- ---- a request that acts

-- The message is that of the machine's reply to the call. A refusal leaves what the agent keeps.
pub record RepliesToCall {D : Type 0} {F : Ghosts D} (passes : List ℕ → Bool) (c : Call) (bytes : List ℕ) (old new : Agent D F)
    : Type 0 where
  pub reply : Reply
  pub message_is : bytes ≡ message reply
  pub answers : AnswersCall passes c reply (moment old) (moment new)
  pub refused : (st : Status) → reply ≡ model.Refused st → fields new ≡ fields old
  -- how many erases and programs were done
  pub takes : TakesByReply c reply old new

-- The message of the reply to a request: to its call; or that of a request for no call, which does nothing.
abbrev pub RepliesTo : {D : Type 0} {F : Ghosts D} → (List ℕ → Bool) → Option Call → List ℕ → Agent D F → Agent D F → Type 0
RepliesTo passes None bytes old new = (bytes ≡ message model.NotUnderstood) × (new ≡ old)
RepliesTo passes (Some c) bytes old new = RepliesToCall passes c bytes old new

-- what the flash has at any exit, and what a loss leaves of it
abbrev pub LeavesBy : {D T : Type 0} {F : Ghosts D} → Result T Stop → (List ℕ → Bool) → Option Call → Agent D F → Agent D F → Type 0
LeavesBy result passes None old new = new ≡ old
LeavesBy result passes (Some c) old new = LeavesFlash (flash_result (agent_stopped_by result)) passes c (moment old) (moment new)

-- ---- any request

-- the request acts
abbrev pub IsNextRequest : LastAnswer → List ℕ → Type 0
IsNextRequest a body = admission a.last (request_number_of body) ≡ Acts

-- What is given for a request of this number, by what becomes of it. One that acts gets a frame of n bytes at the front of the
-- buffer, which is kept; or the agent is stopped, and nothing is kept. A repeat gets the frame that is kept. Another one changes
-- nothing.
abbrev pub GivesTaken : Admission → ℕ → Result Taken Stop → LastAnswer → LastAnswer → List ℕ → List ℕ → Type 0
GivesTaken Acts number (Ok (taken.Reply n true)) old new before after =
    PutsFront n new.reply before after × (new.last ≡ number)
GivesTaken Acts number (Err why) old new before after = new ≡ old
GivesTaken Repeats number (Ok (taken.Reply n false)) old new before after =
    PutsFront n old.reply before after × (new ≡ old)
GivesTaken Ignored number (Ok taken.Ignored) old new before after = (new ≡ old) × (after ≡ before)
GivesTaken admitted number other old new before after = ⊥

-- the frame of a request that acted is that of its reply
abbrev pub IsReply : {D : Type 0} {F : Ghosts D} → (List ℕ → Bool) → Option Call → ℕ → Result Taken Stop → List ℕ
    → Agent D F → Agent D F → Type 0
IsReply passes asked number (Ok (taken.Reply n true)) after old new =
    (bytes : List ℕ) × (take n after ≡ frame (numbered number bytes)) × RepliesTo passes asked bytes old new
IsReply passes asked number other after old new = ⊤

abbrev pub agent_of : {D : Type 0} {F : Ghosts D} → Server D F → Agent D F
agent_of s = s.agent

-- the number of the last request that acted, and its reply
abbrev pub exchange_of : {D : Type 0} {F : Ghosts D} → Server D F → LastAnswer
exchange_of s = s.exchange
