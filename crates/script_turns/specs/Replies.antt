-- Which reply a turn has, on any device, and what the agent keeps afterwards.
use Rattle.std.specs.Prelude.{◌≡◌, ◌<◌, ℕ, Bool, true, false, not, ◌==◌, ◌||◌, List, length, Option, Some, None, Result, Ok, Err, IsTrue, slice_index_or}
use Rattle.flash_core.specs.declared.flash.Flash.{Ghosts}
use Rattle.fwu_model.specs.{State.State, State.after, Sound.Setting, Session.Session, Session.no_handles, Answer.are_named}
use Rattle.fwu_model.specs.{Answer.image_held, Call.Call, Reply.Reply, Reply.Turn, Run.is_send}
use Rattle.fwu_model.specs.Call as call
use Rattle.fwu_model.specs.Reply as reply
use Rattle.host_io.specs.Contents.{Directory}
use Rattle.agent_kept.specs.Kept.{HasNothing, handles_meant}
use Rattle.agent_machine.specs.{declared.stop.Stop.Stop, Fields.Fields, Fields.total_of, Meets.IsSettingOf, Meets.Stays}
use Rattle.agent_machine.specs.Moment as agent
use Rattle.agent_machine.specs.declared.stop.Stop.TheVariants as stop
use Rattle.agent_calls.specs.{Partly.begins_over, AnswersCall.AnswersCall, declared.agent.Agent.Agent, Shown.device, Shown.fields}
use Rattle.script_turns.specs.Powered.{Arms, TurnMoment, kept_at, moment_on, numbers_kept}
use Rattle.script_turns.specs.{Boots.BootsAs, Sending.SendSays, Stage.on_where}
pub use Rattle.script_turns.specs.Sending.{IsFlashStop}

-- ---- the calls of the agent

-- all but these
abbrev pub is_agents : Call → Bool
is_agents (call.Send name request) = false
is_agents (call.SendPartial name request) = false
is_agents call.Boot = false
is_agents (call.Cut n k) = false
is_agents call.Show = false
is_agents call.NoCall = false
is_agents other = true

-- the calls that do several of the agent's moves in a row: a partial begin, which copies images, and the sendings
abbrev pub is_composed : Call → Bool
is_composed (call.BeginPartial types) = true
is_composed (call.Send name request) = true
is_composed (call.SendPartial name request) = true
is_composed other = false

-- the reply of a call that was not answered; an agent that is there is never gone
abbrev pub stop_reply : Stop → Reply
stop_reply (stop.Status st) = reply.Refused st
stop_reply stop.Lost = reply.Lost
stop_reply stop.Fault = reply.Fault
stop_reply stop.Gone = reply.IsOff

abbrev pub reply_by : {T : Type 0} → (T → Reply) → Result T Stop → Reply
reply_by says (Ok value) = says value
reply_by says (Err why) = stop_reply why

-- whether the agent is there afterwards
abbrev pub is_there : {T : Type 0} → Result T Stop → Bool
is_there (Ok value) = true
is_there (Err (stop.Status st)) = true
is_there (Err other) = false

-- the flash of an agent that is there, or is not
abbrev pub moment_where : {D : Type 0} {F : Ghosts D} → Bool → Agent D F → TurnMoment
moment_where {F = F} here a = moment_on F (on_where here (fields a)) (device a)

-- those for which a bank must have been started: those of the agent, and a sending
abbrev pub needs_bank : Call → Bool
needs_bank c = is_agents c || is_send c

-- ---- what is answered

-- what `show` answers, by what the agent keeps where a bank is on
abbrev pub show_reply : Option Fields → Reply
show_reply None = reply.IsOff
show_reply (Some f) = reply.Shown (numbers_kept f)

-- what a request for no call is answered
abbrev pub no_call_reply : Option Fields → Reply
no_call_reply None = reply.IsOff
no_call_reply (Some f) = reply.NotUnderstood

-- The agent of a flash on which this bank was started has the numbers that the boot told, and stages nothing.
pub record AreTold (bank trials counter : ℕ) (fallback : Bool) (f : Fields) : Type 0 where
  pub bank_is : f.boot ≡ bank
  pub trials_are : f.trials ≡ trials
  pub counter_is : f.counter ≡ counter
  pub fallback_is : fallback ≡ not (bank == f.meta.meta.active)
  pub idle : f.session.staging ≡ false
  pub nothing : HasNothing f.session
  pub handles : handles_meant f.session ≡ no_handles

-- After a boot with this reply a bank is on exactly where one was started, and its numbers are those that were told. A boot has no
-- other reply.
abbrev pub LeavesOn : Reply → Option Fields → Type 0
LeavesOn (reply.Booted bank version trials counter fallback) (Some f) = AreTold bank trials counter fallback f
LeavesOn (reply.Booted bank version trials counter fallback) None = ⊥
LeavesOn (reply.NotBooted why) on = on ≡ None
LeavesOn reply.Lost on = on ≡ None
LeavesOn reply.Fault on = on ≡ None
LeavesOn other on = ⊥

-- whether the device has power after a turn with this reply: a boot brings it, and a stop of the flash takes it
abbrev pub power_after : Bool → Reply → Bool
power_after power (reply.Booted bank version trials counter fallback) = true
power_after power (reply.NotBooted why) = true
power_after power reply.Lost = false
power_after power reply.Fault = false
power_after power other = power

-- ---- the agent's calls

-- A partial begin, on any device. There are bytes of the images that aren't named, when it is done as many as the agent keeps of
-- the bank that was started. Where the device tells they are the active bank's. An answer or a refusal is that of each machine that
-- the agent shows, at these bytes, and it shows the machine after it.
pub record AnswersBegin (passes : List ℕ → Bool) (types : List (List ℕ)) (r : Reply) (old new : agent.Moment) : Type 0 where
  pub bytes : ℕ → List ℕ
  pub count : r ≡ reply.Success → (i : ℕ) → i < length old.fields.layout.rows
      → slice_index_or (are_named old.fields.layout.rows types) i true ≡ false
      → length (bytes i) ≡ total_of old.fields (Some i)
  pub read : IsTrue old.tells → (s : State) (x : Session) → agent.Shows old s x → (i : ℕ) → i < length old.fields.layout.rows
      → slice_index_or (are_named old.fields.layout.rows types) i true ≡ false → bytes i ≡ image_held s s.active i
  pub exact : (E : Setting) (s : State) (x : Session) → IsSettingOf old.fields passes E → agent.Shows old s x
      → (r ≡ (begins_over E s x types bytes).reply)
      × agent.Shows new (after s (begins_over E s x types bytes).moves) (begins_over E s x types bytes).next
  pub stays : Stays old new

-- a partial begin is answered by the bytes that it copied, and each other call as the machine does
abbrev pub AnswersTo : (List ℕ → Bool) → Call → Reply → agent.Moment → agent.Moment → Type 0
AnswersTo passes (call.BeginPartial types) r old new = AnswersBegin passes types r old new
AnswersTo passes other r old new = AnswersCall passes other r old new

-- Where no bank is on no call of the agent is done. Else it is answered or refused, or the flash stops it and nothing is on.
abbrev pub CallSays : (List ℕ → Bool) → Bool → Call → Option Fields → TurnMoment → Reply → Option Fields → TurnMoment → Type 0
CallSays passes tells c None before r on now = (r ≡ reply.IsOff) × (on ≡ None)
CallSays passes tells c (Some f) before r None now = IsFlashStop r
CallSays passes tells c (Some f) before r (Some g) now =
    AnswersTo passes c r (kept_at tells f before.told before.writes) (kept_at tells g now.told now.writes)

-- ---- a turn

-- What a turn of this call says, and that it leaves the agent so.
abbrev pub Replies : (List ℕ → Bool) → Bool → Option Directory → Call → TurnMoment → Turn → TurnMoment → Type 0
Replies passes tells files call.Boot old t new = LeavesOn t.reply new.on × BootsAs passes tells old t new
Replies passes tells files call.Show old t new = (t.reply ≡ show_reply old.on) × (new.on ≡ old.on)
Replies passes tells files call.NoCall old t new = (t.reply ≡ no_call_reply old.on) × (new.on ≡ old.on)
Replies passes tells files (call.Cut n k) old t new = (t.reply ≡ reply.CutOk) × Arms tells n k old new
Replies passes tells files (call.Send name request) old t new =
    SendSays false passes tells files name request old.on old t.reply new.on new
Replies passes tells files (call.SendPartial name request) old t new =
    SendSays true passes tells files name request old.on old t.reply new.on new
Replies passes tells files other old t new = CallSays passes tells other old.on old t.reply new.on new
