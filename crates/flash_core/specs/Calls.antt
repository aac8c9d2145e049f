-- What a call leaves of a device: one that only reads, one that also writes, and one that writes in one place.
use Rattle.std.specs.Prelude.{◌≡◌, ℕ, Result, is_ok, IsTrue, OnOk}
use Rattle.flash_core.specs.{declared.flash.Flash.Ghosts, declared.flash.FlashStop.FlashStop, May.Keeps, Touches.TouchesOnly}
use Rattle.flash_core.specs.Counts.{Spends, StaysUnarmed, ReachesNone, arming_kept, lowered_by}

-- Content and size stay, nothing is erased or programmed, and power is by the result. No loss is armed or reached, and each stop
-- has its cause.
pub record Reads {D X : Type 0} (g : Ghosts D) (result : Result X FlashStop) (old new : D) : Type 0 where
  pub content : IsTrue g.tells → g.told new ≡ g.told old
  pub power : g.on new ≡ is_ok result
  pub size : g.blocks new ≡ g.blocks old
  pub arming : g.arming new ≡ arming_kept result (g.arming old)
  pub costs : Spends result (g.counts old) (g.counts new)
  pub reached : ReachesNone result (g.counts old) (g.counts new)
  pub writes : g.writes new ≡ g.writes old

-- What each other call leaves: size stays, power is by the result, and each stop has its cause. A loss leaves none armed. Where
-- none was armed none is, and none is reached.
pub record Goes {D X : Type 0} (g : Ghosts D) (result : Result X FlashStop) (old new : D) : Type 0 where
  pub power : g.on new ≡ is_ok result
  pub size : g.blocks new ≡ g.blocks old
  pub costs : Spends result (g.counts old) (g.counts new)
  pub unarmed : StaysUnarmed result (g.arming old) (g.arming new) (g.counts old) (g.counts new)

-- Erases and programs of the bytes from one place to before another, at any exit.
pub record WritesWithin {D X : Type 0} (g : Ghosts D) (low high count : ℕ) (result : Result X FlashStop)
    (old new : D) : Type 0 where
  -- Outside these bytes nothing changes.
  pub keeps : IsTrue g.tells → Keeps low high (g.told old) (g.told new)
  pub goes : Goes g result old new
  -- On every device: so many erases and programs, when done.
  pub spent : OnOk result (g.arming new ≡ lowered_by count (g.arming old))
  -- on every device: no other block is erased or programmed
  pub touches : TouchesOnly low high (g.writes old) (g.writes new)
