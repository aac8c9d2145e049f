-- What a call keeps that stores no metadata, and one that reads the device alone.
use Rattle.std.specs.Prelude.{◌≡◌, Result, IsTrue}
use Rattle.flash_core.specs.{declared.flash.Flash.Ghosts, declared.flash.FlashStop.FlashStop}
use Rattle.flash_core.specs.Counts.{ReachesNone, arming_kept}
use Rattle.agent_machine.specs.Fields.{Fields}

-- at any exit, on any device: the metadata that is kept, and the trials
pub record KeepsRecords (old new : Fields) : Type 0 where
  pub metadata : new.meta ≡ old.meta
  pub trials : new.trials ≡ old.trials

-- and the bytes of the staged images that fill no granule
pub record KeepsRests (old new : Fields) : Type 0 where
  pub rests : new.rests ≡ old.rests
  pub metadata : new.meta ≡ old.meta
  pub trials : new.trials ≡ old.trials

-- The device was read alone, or not at all: its content stays, nothing is erased or programmed, and no armed loss is reached.
pub record ReadsAlone {D X : Type 0} (g : Ghosts D) (result : Result X FlashStop) (old new : D) : Type 0 where
  pub content : IsTrue g.tells → g.told new ≡ g.told old
  pub arming : g.arming new ≡ arming_kept result (g.arming old)
  pub reached : ReachesNone result (g.counts old) (g.counts new)
  pub writes : g.writes new ≡ g.writes old
