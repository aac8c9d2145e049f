-- What an agent has at a moment, and which machine it shows.
use Rattle.std.specs.Prelude.{◌≡◌, ℕ, Bool, List, length, take, map, IsTrue}
use Rattle.flash_core.specs.Told.{Told}
use Rattle.fwu_model.specs.{State.State, Session.Session, Answer.booted_package, MoveMetas.meta_in}
use Rattle.agent_kept.specs.Kept.{IsKept, session_meant}
use Rattle.agent_machine.specs.{Fields.Fields, Machine.state_in, Machine.session_in}

pub record Moment : Type 0 where
  -- whether the device tells its content, and what it tells
  pub tells : Bool
  pub told : Told
  -- how often each block was erased or programmed, on a device that counts that
  pub writes : ℕ → ℕ
  pub fields : Fields

-- The numbers of the state are those that the fields have,
-- and the bank that was started holds images of the lengths that they have.
pub record SpeaksOf (f : Fields) (s : State) : Type 0 where
  pub banks : length s.banks ≡ f.layout.banks
  pub meta : f.meta.meta ≡ meta_in s
  pub form : s.form ≡ f.meta.form
  pub counter_is : f.counter ≡ s.counter
  pub trials_are : f.trials ≡ s.trials
  pub lengths_are : take (length f.layout.rows) f.lengths ≡ map (λ (bytes : List ℕ). length bytes) (booted_package s f.boot)

-- A machine that the agent shows: where the content is told there is one alone; else each that fits what is kept.
pub record Shows (m : Moment) (s : State) (x : Session) : Type 0 where
  pub told : IsTrue m.tells → (s ≡ state_in m.fields m.told.now) × (x ≡ session_in m.fields m.told.now)
  pub speaks : SpeaksOf m.fields s
  pub staged : ℕ → List ℕ
  pub kept : IsKept m.fields.session staged
  pub means : x ≡ session_meant m.fields.session m.fields.boot staged

-- there is such a machine
pub record Showing (m : Moment) : Type 0 where
  pub state : State
  pub session : Session
  pub shows : Shows m state session
