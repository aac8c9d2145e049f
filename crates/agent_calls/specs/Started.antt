-- What an agent has that starts from a bank that was booted.
use Rattle.std.specs.Prelude.{◌≡◌, length, false, take}
use Rattle.early_boot.specs.Started.{Started}
use Rattle.agent_kept.specs.Kept.{HasNothing, handles_meant}
use Rattle.fwu_model.specs.Session.{no_handles}
use Rattle.agent_machine.specs.Fields.{Fields}

-- the fields are the boot's; nothing is staged, and no handle is open
pub record StartsFrom (b : Started) (f : Fields) : Type 0 where
  pub layout : f.layout ≡ b.layout
  pub meta : f.meta ≡ b.meta
  pub boot : f.boot ≡ b.bank
  pub trials : f.trials ≡ b.trials
  pub counter : f.counter ≡ b.counter
  pub lengths : take (length b.lengths) f.lengths ≡ b.lengths
  pub rows : f.session.rows ≡ b.layout.rows
  pub idle : f.session.staging ≡ false
  pub nothing : HasNothing f.session
  pub handles : handles_meant f.session ≡ no_handles
