-- An agent as the records of its calls see it.
use Rattle.agent_machine.specs.Fields.{Fields}

-- its device, and what it keeps beside that
pub record Snapshot (D : Type 0) : Type 0 where
  pub device : D
  pub fields : Fields
