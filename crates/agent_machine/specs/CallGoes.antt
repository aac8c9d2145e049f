-- What each call of the agent promises, whatever it is asked for.
use Rattle.std.specs.Prelude.{◌≡◌, Bool, not, Result, is_ok, IsErrOf, IsFalse}
use Rattle.flash_core.specs.{declared.flash.Flash.Ghosts, declared.flash.FlashStop.FlashStop, Counts.Spends, Counts.StaysUnarmed}
use Rattle.agent_machine.specs.{declared.stop.Stop.Stop, Fields.Fields, Meets.GoesBy, Meets.IsRefused, Meets.flash_result}
use Rattle.agent_machine.specs.declared.stop.Stop.TheVariants as stop

-- an agent before a call or after it: its device, what it keeps beside that, and whether the flash stopped an earlier call
pub record AgentAt (A D : Type 0) : Type 0 where
  pub agent : A
  pub device : D
  pub fields : Fields
  pub gone : Bool

pub record CallGoes {A D T : Type 0} (g : Ghosts D) (result : Result T Stop) (old new : AgentAt A D) : Type 0 where
  -- Gone comes exactly after an earlier stop of this agent, and leaves everything as it was
  pub gone : GoesBy result old.gone new.gone
  pub untouched : IsErrOf result stop.Gone → new.agent ≡ old.agent
  -- a refusal leaves what the agent keeps
  pub refused : IsRefused result → new.fields ≡ old.fields
  -- the device is on at an answer, and off at a stop
  pub power : IsFalse old.gone → g.on new.device ≡ is_ok (flash_result result)
  pub size : g.blocks new.device ≡ g.blocks old.device
  -- each stop has its cause; a loss leaves none armed, and where none was armed none is, and none is reached
  pub costs : Spends (flash_result result) (g.counts old.device) (g.counts new.device)
  pub unarmed : StaysUnarmed (flash_result result) (g.arming old.device) (g.arming new.device)
      (g.counts old.device) (g.counts new.device)

-- What calls in a row spend of an agent that wasn't gone before, on every device. It is gone, and the device off, exactly where the
-- flash stopped them, which has a cause. A loss leaves none armed. Where none was armed, none is, and none was reached.
pub record Spent {D : Type 0} (g : Ghosts D) (result : Result (Unit {0}) FlashStop) (gone : Bool) (old new : D) : Type 0 where
  pub gone_is : gone ≡ not (is_ok result)
  pub power : g.on new ≡ is_ok result
  pub size : g.blocks new ≡ g.blocks old
  pub costs : Spends result (g.counts old) (g.counts new)
  pub unarmed : StaysUnarmed result (g.arming old) (g.arming new) (g.counts old) (g.counts new)
