use Rattle.early_boot.proofs.TakenUp.{booted-runs}
use Rattle.early_boot.proofs.taking_up.booted_banks_are_taken_up.Goals as goal

pub returns : goal.returns
returns c = booted-runs
