-- What an agent tells of itself.
use Rattle.std.specs.Prelude.{◌≡◌, if◌then◌else◌, [], ◌∷◌}
use Rattle.fwu_formats.specs.Metadata.{state_at}
use Rattle.fwu_model.specs.{State.is_valid, declared.kinds.AgentState.AgentState}
use Rattle.fwu_model.specs.declared.kinds.AgentState.TheVariants.{Staging, Trial, Regular}
use Rattle.agent_machine.specs.Fields.{Fields}
use Rattle.agent_calls.specs.declared.telling.Discovery.{Discovery}

-- what it is doing, by what it keeps
abbrev pub state_kept : Fields → AgentState
state_kept f = if f.session.staging then Staging else if is_valid (state_at f.meta.meta f.meta.meta.active) then Trial else Regular

-- the version 1.0, and the numbers of the ten functions
abbrev pub HasFunctionNumbers : Discovery → Type 0
HasFunctionNumbers d = (d.major ≡ 1) × (d.minor ≡ 0) × (d.functions ≡ 0 ∷ 16 ∷ 17 ∷ 18 ∷ 19 ∷ 20 ∷ 21 ∷ 22 ∷ 23 ∷ 24 ∷ [])
