-- An agent as contracts see it.
use Rattle.std.specs.Prelude.{◌≡◌, ℕ, Bool, List, Option, Result, OnOk, IsFalse}
use Rattle.flash_core.specs.{declared.flash.Arming.Arming, declared.flash.Flash.Ghosts, declared.flash.FlashStop.FlashStop}
use Rattle.fwu_model.specs.{Call.Call, Reply.Reply, Reply.Success}
use Rattle.agent_kept.specs.{declared.kinds.Decision.Decision, declared.kinds.Request.Request, Kept.kept}
use Rattle.agent_state.specs.Decides.{DecidesRequest}
use Rattle.agent_calls.specs.{declared.agent.Agent.Agent, Snapshot.Snapshot}
use Rattle.agent_machine.specs.{declared.stop.Stop.Stop, Fields.Fields, Meets.Meets, Moment.Moment, Stored.TakesStore}
use Rattle.agent_machine.specs.CallGoes.{AgentAt, CallGoes, Spent}

-- what it keeps beside its device
abbrev pub fields : {D : Type 0} {F : Ghosts D} → Agent D F → Fields
fields a = record {
  layout = a.layout;
  meta = a.meta;
  session = kept a.session;
  boot = a.boot;
  trials = a.trials;
  counter = a.counter;
  lengths = a.lengths;
  rests = a.rests;
}

abbrev pub device : {D : Type 0} {F : Ghosts D} → Agent D F → D
device a = a.flash

-- both
abbrev pub snapshot : {D : Type 0} {F : Ghosts D} → Agent D F → Snapshot D
snapshot a = record { device = a.flash; fields = fields a }

-- the flash stopped an earlier call
abbrev pub gone : {D : Type 0} {F : Ghosts D} → Agent D F → Bool
gone a = a.gone

abbrev pub moment : {D : Type 0} {F : Ghosts D} → Agent D F → Moment
moment {F = F} a = record { tells = F.tells; told = F.told a.flash; writes = F.writes a.flash; fields = fields a }

abbrev pub agent_at : {D : Type 0} {F : Ghosts D} → Agent D F → AgentAt (Agent D F) D
agent_at a = record { agent = a; device = a.flash; fields = fields a; gone = a.gone }

-- what each call promises, whatever it is asked for
abbrev pub AgentGoes : {D T : Type 0} {F : Ghosts D} → Result T Stop → Agent D F → Agent D F → Type 0
AgentGoes {F = F} result old new = CallGoes F result (agent_at old) (agent_at new)

-- and what calls in a row spend
abbrev pub SpentBy : {D : Type 0} {F : Ghosts D} → Result (Unit {0}) FlashStop → Agent D F → Agent D F → Type 0
SpentBy {F = F} result old new = Spent F result new.gone old.flash new.flash

-- this is decided of a request by what the agent keeps
abbrev pub AgentDecides : {D : Type 0} {F : Ghosts D} → (List ℕ → Bool) → Request → Decision → Agent D F → Type 0
AgentDecides passes r d a = DecidesRequest passes a.meta a.counter (kept a.session) a.boot r d

-- what a call spends of an armed loss, by what the agent shows before it
abbrev pub AgentTakes : {D : Type 0} {F : Ghosts D} → (Moment → Option Arming → Option Arming → Type 0) → (old new : Agent D F)
    → Type 0
AgentTakes {F = F} T old new = T (moment old) (F.arming old.flash) (F.arming new.flash)

-- An answer stored the metadata, or has it as it was and wrote nothing.
abbrev pub SpendsStore : {D : Type 0} {F : Ghosts D} → Result (Unit {0}) Stop → Agent D F → Agent D F → Type 0
SpendsStore {F = F} result old new = OnOk result (TakesStore old.meta new.meta (F.arming old.flash) (F.arming new.flash))

-- Of an agent that isn't gone: an answer or a refusal of a call is that of each machine that the agent shows.
abbrev pub AgentMeets : {D T : Type 0} {F : Ghosts D} → (T → Reply → Type 0) → Result T Stop → Call → (old new : Agent D F) → Type 0
AgentMeets Says result c old new = IsFalse old.gone → (passes : List ℕ → Bool)
    → Meets Says result passes c (moment old) (moment new)

-- The answer tells nothing but that the call was done.
abbrev pub MeetsDone : {D : Type 0} {F : Ghosts D} → Result (Unit {0}) Stop → Call → Agent D F → Agent D F → Type 0
MeetsDone result c old new = AgentMeets (λ value reply. reply ≡ Success) result c old new
