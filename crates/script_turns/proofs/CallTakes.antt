-- What an armed loss counts of a call of the agent, from what the call says.
use Rattle.std.proofs.Common.{◌≡◌, ℕ, ◌-◌, List, length, Option, Some, None, Result, Ok, Err, refl, ap, IsTrue}
use Rattle.std.specs.Prelude.{OnOk, take}
use Rattle.flash_core.specs.{declared.flash.Flash.Ghosts, Counts.ReachesNone, Counts.arming_kept}
use Rattle.fwu_model.specs.{Reply.Reply, declared.kinds.Status.Status, Call.Call, State.is_invalid}
use Rattle.fwu_model.specs.Reply as reply
use Rattle.slot_writer.specs.Writes.{SpendsArming, writes_to_append, writes_to_finish}
use Rattle.agent_kept.specs.Kept.{handle_kept, part_at, size_of}
use Rattle.agent_kept.specs.declared.parts.Handle.TheVariants as handle
use Rattle.host_io.specs.Contents.{Directory}
use Rattle.fwu_model.specs.Call as call
use Rattle.agent_machine.specs.{declared.stop.Stop.Stop, Fields.Fields, Fields.target, Ends.IsWriter, Stored.TakesStore}
use Rattle.agent_machine.specs.declared.stop.Stop.TheVariants as stop
use Rattle.fwu_formats.specs.{Layout.find_image, Metadata.bit_at, Metadata.state_at}
use Rattle.agent_calls.specs.{Metas.meta_begun, declared.agent.Agent.Agent, Shown.device, Shown.fields}
use Rattle.agent_calls.proofs.Taking.{takes-begin as takes-a-begin}
use Rattle.agent_machine.specs.Meets.{IsDone, IsRefused, flash_result}
use Rattle.script_turns.specs.Powered.{TurnMoment, SameDevice, moment_on}
use Rattle.script_turns.specs.{Takes.ReadsBy, Takes.TakesOn, Replies.is_there, Replies.reply_by, Stage.on_where}

-- what an agent keeps, where it is there afterwards
abbrev pub on_by : {T : Type 0} → Result T Stop → Fields → Option Fields
on_by result f = on_where (is_there result) f

-- the device of an agent, with what is kept
abbrev pub with : {D : Type 0} {F : Ghosts D} → Option Fields → Agent D F → TurnMoment
with {F = F} on a = moment_on F on (device a)

-- the reply of a call whose answer tells nothing but that it was done
abbrev pub done_reply : Result (Unit {0}) Stop → Reply
done_reply result = reply_by (λ value. reply.Success) result

-- what a read tells: the total, and the bytes at the front of its buffer
abbrev pub got : List ℕ → ℕ × ℕ → Reply
got out value = reply.Got value.1 (take value.0 out)

pub reads-by : (result : Result (ℕ × ℕ) Stop) (out : List ℕ) (old new : TurnMoment) → new.writes ≡ old.writes → new.armed ≡ arming_kept (flash_result result) old.armed
    → ReachesNone (flash_result result) old.counts new.counts → (IsRefused result → SameDevice old new) → ReadsBy (reply_by (got out) result) old new
reads-by (Ok value) out old new still armed reached refused = record { writes = still; armed = armed; reached = reached }
reads-by (Err (stop.Status st)) out old new still armed reached refused = refused tt
reads-by (Err other) out old new still armed reached refused = record { writes = still; armed = armed; reached = reached }

-- ---- an agent and its call

module _ {D : Type 0} {F : Ghosts D} (a b : Agent D F) where
  pub same-device : (on now : Option Fields) → device b ≡ device a → SameDevice (with on a) (with now b)
  same-device on now same = record { told = ap F.told same; writes = ap F.writes same; counts = ap F.counts same; armed = ap F.arming same; power = ap F.on same }

  -- what is known of its call by a reply, where this is on afterwards
  abbrev Takes : Option Directory → Call → Reply → Option Fields → Type 0
  Takes files c r on = TakesOn files c (fields a) (with (Some (fields a)) a) r (with on b)

  -- a refusal that leaves the agent as it was
  pub refusing : {R : Type 0} → (R → b ≡ a) → R → (st : Status) → SameDevice (with (Some (fields a)) a) (with (Some (fields b)) b)
  refusing same refused st = same-device _ _ (ap device (same refused))

  -- by whether it was done, refused or stopped
  pub takes-by : (files : Option Directory) (c : Call) (result : Result (Unit {0}) Stop) → OnOk result (Takes files c reply.Success (Some (fields b)))
      → (IsRefused result → (st : Status) → Takes files c (reply.Refused st) (Some (fields b)))
      → Takes files c reply.Lost None × Takes files c reply.Fault None × Takes files c reply.IsOff None
      → Takes files c (done_reply result) (on_by result (fields b))
  takes-by files c (Ok value) done refused stopped = done
  takes-by files c (Err (stop.Status st)) done refused stopped = refused tt st
  takes-by files c (Err stop.Lost) done refused stopped = stopped.0
  takes-by files c (Err stop.Fault) done refused stopped = stopped.1
  takes-by files c (Err stop.Gone) done refused stopped = stopped.2

  pub takes-begin : (files : Option Directory) (n : ℕ) (result : Result (Unit {0}) Stop) → (IsDone result → (fields b).meta ≡ meta_begun (fields a))
      → (IsTrue (is_invalid (state_at (fields a).meta.meta (target (fields a)))) → device b ≡ device a)
      → OnOk result (TakesStore (fields a).meta (fields b).meta (F.arming (device a)) (F.arming (device b))) → (IsRefused result → b ≡ a)
      → Takes files (call.Begin n) (done_reply result) (on_by result (fields b))
  takes-begin files n (Ok value) keeps still spent refused =
      takes-a-begin (fields a) (fields b).meta (F.arming (device a)) (F.arming (device b)) spent (keeps tt) (λ is. ap F.arming (still is))
  takes-begin files n (Err (stop.Status st)) keeps still spent refused = refusing refused tt st
  takes-begin files n (Err other) keeps still spent refused = tt

  pub takes-write : (files : Option Directory) (number : ℕ) (bytes : List ℕ) (result : Result (Unit {0}) Stop) → (result ≡ Err stop.Gone → ⊥)
      → (IsDone result → (image : ℕ) → handle_kept (fields a).session (number - 1) ≡ handle.Writes image
      → SpendsArming (flash_result result) (writes_to_append (size_of (part_at (fields a).session image)) (length bytes))
      (F.arming (device a)) (F.arming (device b)) (F.counts (device a)) (F.counts (device b)))
      → (IsRefused result → b ≡ a) → Takes files (call.Write number bytes) (done_reply result) (on_by result (fields b))
  takes-write files number bytes (Ok value) here spent refused = spent tt
  takes-write files number bytes (Err (stop.Status st)) here spent refused = refusing refused tt st
  takes-write files number bytes (Err stop.Gone) here spent refused = absurd (here refl)
  takes-write files number bytes (Err other) here spent refused = spent tt

  pub takes-commit : (files : Option Directory) (number request : ℕ) (result : Result (Unit {0}) Stop)
      → ((image : ℕ) → IsWriter (fields a) number image
      → SpendsArming (flash_result result) (writes_to_finish (size_of (part_at (fields a).session image)))
      (F.arming (device a)) (F.arming (device b)) (F.counts (device a)) (F.counts (device b)))
      → (((image : ℕ) → IsWriter (fields a) number image → ⊥) → device b ≡ device a)
      → Takes files (call.Commit number request) (done_reply result) (on_by result (fields b))
  takes-commit files number request (Ok value) spent still = record { spent = spent; still = λ none. same-device _ _ (still none) }
  takes-commit files number request (Err (stop.Status st)) spent still = record { spent = spent; still = λ none. same-device _ _ (still none) }
  takes-commit files number request (Err other) spent still = record { spent = spent; still = λ none. same-device _ _ (still none) }

  pub takes-accept : (files : Option Directory) (guid : List ℕ) (result : Result (Unit {0}) Stop)
      → OnOk result (TakesStore (fields a).meta (fields b).meta (F.arming (device a)) (F.arming (device b))) → (IsRefused result → b ≡ a)
      → ((image : ℕ) → find_image (fields a).layout.rows guid ≡ Some image
      → IsTrue (bit_at (fields a).meta.meta (fields a).meta.meta.active image) → device b ≡ device a)
      → Takes files (call.Accepts guid) (done_reply result) (on_by result (fields b))
  takes-accept files guid (Ok value) spent refused still = record { spent = spent; still = λ image found is. same-device _ _ (still image found is) }
  takes-accept files guid (Err (stop.Status st)) spent refused still =
      record { spent = refusing refused tt st; still = λ image found is. same-device _ _ (still image found is) }
  takes-accept files guid (Err other) spent refused still = record { spent = tt; still = λ image found is. same-device _ _ (still image found is) }
