-- The flash of a run between two turns, as the definitions have it.
use Rattle.std.specs.Prelude.{◌≡◌, ℕ, ◌+◌, ◌≤◌, min, Bool, true, false, ◌∷◌, Option, Some, None, IsTrue, is_some, []}
use Rattle.std.proofs.lemmas.Bool.{false≢true}
use Rattle.flash_core.specs.{declared.flash.Arming.Arming, declared.flash.Flash.Ghosts, declared.flash.Counts.Counts, Told.Told}
use Rattle.flash_core.specs.{Counts.Idles, May.Guards}
use Rattle.fwu_model.specs.{State.State, State.Numbers, Sound.Setting, Session.Session, Session.Off, Run.Condition}
use Rattle.fwu_model.specs.{Causes.greatest, Headline.LeavesOneOf, Calm.IsGuarded, Calm.IsAtRest, Replica.BothHold}
use Rattle.moves.specs.Moved.{IsReady, IsShown}
use Rattle.agent_machine.specs.Fields.{Fields}
use Rattle.agent_machine.specs.Moment as agent
use Rattle.script_turns.specs.{declared.powered.Powered.Powered, declared.stage.Stage.Stage}
use Rattle.script_turns.specs.Stage as stage

-- what an option has that has something
abbrev pub the : {T : Type 0} (o : Option T) → IsTrue (is_some o) → T
the (Some x) there = x
the None there = absurd (false≢true there)

abbrev pub device : {D : Type 0} {F : Ghosts D} → Powered D F → D
device p = stage.device (the p.inside p.there)

-- what the agent keeps, where a bank was started on the flash
abbrev pub shown_on : {D : Type 0} {F : Ghosts D} → Powered D F → Option Fields
shown_on p = stage.shown_on (the p.inside p.there)

-- whether it is one that has power
abbrev pub has_power : {D : Type 0} {F : Ghosts D} → Powered D F → Bool
has_power p = stage.has_power (the p.inside p.there)

-- the numbers of the flash, by what its agent keeps
abbrev pub numbers_kept : Fields → Numbers
numbers_kept f = record {
  form = f.meta.form;
  active = f.meta.meta.active;
  previous = f.meta.meta.previous;
  states = f.meta.meta.states;
  bits = f.meta.meta.bits;
  trials = f.trials;
  counter = f.counter;
}

-- what is known of a device between two turns
pub record TurnMoment : Type 0 where
  -- what the agent keeps, where a bank was started on the flash
  pub on : Option Fields
  pub told : Told
  -- how often each block was erased or programmed, on a device that counts that
  pub writes : ℕ → ℕ
  pub counts : Counts
  pub armed : Option Arming
  -- whether it has power
  pub power : Bool

abbrev pub at : Option Fields → Told → (ℕ → ℕ) → Counts → Option Arming → Bool → TurnMoment
at on told writes counts armed power =
    record { on = on; told = told; writes = writes; counts = counts; armed = armed; power = power }

-- a device, and what the agent keeps, where a bank was started
abbrev pub moment_on : {D : Type 0} → Ghosts D → Option Fields → D → TurnMoment
moment_on F on flash = at on (F.told flash) (F.writes flash) (F.counts flash) (F.arming flash) (F.on flash)

-- A device on which no bank was started, or whose agent is not asked.
abbrev pub moment : {D : Type 0} → Ghosts D → D → TurnMoment
moment F flash = moment_on F None flash

abbrev pub moment_in : {D : Type 0} {F : Ghosts D} → Stage D F → TurnMoment
moment_in {F = F} s = moment_on F (stage.shown_on s) (stage.device s)

-- a flash between two turns
abbrev pub moment_of : {D : Type 0} {F : Ghosts D} → Powered D F → TurnMoment
moment_of p = moment_in (the p.inside p.there)

-- the device is as it was
pub record SameDevice (old new : TurnMoment) : Type 0 where
  pub told : new.told ≡ old.told
  -- nothing was erased or programmed, on a device that counts that, also where it tells no content
  pub writes : new.writes ≡ old.writes
  pub counts : new.counts ≡ old.counts
  pub armed : new.armed ≡ old.armed
  pub power : new.power ≡ old.power

-- no count of failures, losses or chances falls
pub record NoneFalls (old new : Counts) : Type 0 where
  pub faults : old.faults ≤ new.faults
  pub cuts : old.cuts ≤ new.cuts
  pub reached : old.reached ≤ new.reached
  pub chances : old.chances ≤ new.chances

-- A loss of power was armed, with exactly these numbers, on any device, on or off. What the agent keeps, what is told and the power
-- stay. Nothing was erased or programmed. One arming more was made, and no failure and no loss was counted.
pub record Arms (tells : Bool) (n k : ℕ) (old new : TurnMoment) : Type 0 where
  pub on_is : new.on ≡ old.on
  pub same : IsTrue tells → new.told ≡ old.told
  pub writes : new.writes ≡ old.writes
  pub idles : Idles old.counts new.counts
  pub made : new.counts.made ≡ min (old.counts.made + 1) greatest
  pub armed_is : new.armed ≡ Some (record { n = n; k = k })
  pub power_is : new.power ≡ old.power

-- an agent that keeps this, on a device that tells this and counts these erases and programs
abbrev pub kept_at : Bool → Fields → Told → (ℕ → ℕ) → agent.Moment
kept_at tells f t w = record { tells = tells; told = t; writes = w; fields = f }

-- an agent that keeps this shows this machine on a device that tells this, whatever the device counts
abbrev pub ShowsAt : Bool → Fields → Told → State → Session → Type 0
ShowsAt tells f t s x = (w : ℕ → ℕ) → agent.Shows (kept_at tells f t w) s x

-- What the agent keeps fits some machine, where a bank was started. Where the device tells its content, sound or not, the flash
-- shows the state that the agent shows: what was answered stands there. And both replicas hold the metadata that the agent keeps.
abbrev pub FitsMachine : Bool → TurnMoment → Type 0
FitsMachine tells m = (f : Fields) → m.on ≡ Some f
    → ∥ agent.Showing (kept_at tells f m.told m.writes) ∥₁
    × (IsTrue tells → (s : State) (x : Session) → ShowsAt tells f m.told s x → IsShown f.layout m.told.now s)
    × (IsTrue tells → BothHold f.layout f.meta m.told.now)

-- ---- the condition of a run, on a flash that tells its content

-- The one candidate is a state that the agent shows, with the session of the condition, and the flash is ready for it.
pub record IsOn (E : Setting) (c : Condition) (f : Fields) (t : Told) : Type 0 where
  pub state : State
  pub one : c.candidates ≡ state ∷ []
  pub layout : E.layout ≡ f.layout
  pub shows : ShowsAt true f t state c.session
  pub ready : IsReady E t state

-- While off, the flash may show the candidates and no other state, whatever a loss leaves.
abbrev pub ShowsCondition : Setting → Condition → Option Fields → Told → Type 0
ShowsCondition E c None t = (c.session ≡ Off) × LeavesOneOf E c.candidates t
ShowsCondition E c (Some f) t = IsOn E c f t

pub record IsAt (E : Setting) (c : Condition) (on : Option Fields) (t : Told) : Type 0 where
  pub guard : Guards 1 7 t
  pub shows : ShowsCondition E c on t

-- ---- what a loss may harm, on any flash

-- Off, no loss harms what is in use; with power the flash is at rest: nothing dirty or under way meets blocks 0 to 7 either.
abbrev pub IsSafe : Bool → Told → Type 0
IsSafe false t = Guards 1 7 t × IsGuarded t
IsSafe true t = IsAtRest t
