-- A flash between two turns by its stage.
use Rattle.std.specs.Prelude.{Bool, true, false, Option, Some, None}
use Rattle.flash_core.specs.declared.flash.Flash.{Ghosts}
use Rattle.agent_machine.specs.Fields.{Fields}
use Rattle.agent_calls.specs.Shown as of_agent
use Rattle.script_turns.specs.declared.stage.Stage.{Stage}
use Rattle.script_turns.specs.declared.stage.Stage.TheVariants as stage

abbrev pub device : {D : Type 0} {F : Ghosts D} → Stage D F → D
device (stage.Off flash) = flash
device (stage.Fresh fresh) = fresh.flash
device (stage.On live) = of_agent.device live.agent

-- what an agent keeps, where it is there
abbrev pub on_where : Bool → Fields → Option Fields
on_where true f = Some f
on_where false f = None

-- what the agent keeps, where a bank was started on the flash and no turn has ended it
abbrev pub shown_on : {D : Type 0} {F : Ghosts D} → Stage D F → Option Fields
shown_on (stage.Off flash) = None
shown_on (stage.Fresh fresh) = None
shown_on (stage.On live) = on_where live.here (of_agent.fields live.agent)

-- whether its device has power, where the run goes on; a refused boot and a failed read of a file end it, and leave power
abbrev pub has_power : {D : Type 0} {F : Ghosts D} → Stage D F → Bool
has_power (stage.Off flash) = false
has_power (stage.Fresh fresh) = true
has_power (stage.On live) = live.here
