-- What the end of a staging does.
use Rattle.std.specs.Prelude.{◌≡◌, ◌*◌, false, Result, OnOk, IsTrue}
use Rattle.base_core.specs.Block.{block_bytes}
use Rattle.flash_core.specs.{declared.flash.Flash.Ghosts, Touches.TouchesOnly}
use Rattle.marks_core.specs.Marks.{is_clear}
use Rattle.agent_kept.specs.Kept.{Restarts}
use Rattle.agent_machine.specs.{declared.stop.Stop.Stop, Meets.IsDone, Meets.flash_result}
use Rattle.agent_machine.specs.Ends.{ClearsAndStores, TakesSwitch, TakesSwitchBy}
use Rattle.agent_calls.specs.{Metas.meta_ended, Snapshot.Snapshot}

-- The update bank becomes the active one. What is left at each exit.
pub record EndsStaging {D : Type 0} (g : Ghosts D) (result : Result (Unit {0}) Stop) (old new : Snapshot D) : Type 0 where
  -- On any flash that tells its content, sound or not: the trial marks are cleared, whatever the bits are.
  -- Then both replicas are written, and nothing else.
  pub ends : IsDone result → IsTrue g.tells → ClearsAndStores (flash_result result) old.fields.layout new.fields.meta.meta
      (g.told old.device) (g.told new.device)
  -- On every device, at any exit: no block is erased or programmed but the replicas and the trial marks.
  pub touches : TouchesOnly (block_bytes * 1) (block_bytes * 4) (g.writes old.device) (g.writes new.device)
  -- On any device: that metadata is the one in which the update bank is active, with the bits of the committed images.
  pub keeps : IsDone result → new.fields.meta ≡ meta_ended old.fields
  -- nothing is staged, and no handle is open
  pub restarts : IsDone result → Restarts false old.fields.session new.fields.session
  -- On any device, also where the flash stopped it: no start is counted any more.
  pub trials : IsDone result → new.fields.trials ≡ 0
  -- on every device: an erase of the marks, or none, and two erases and two programs
  pub spent : OnOk result (TakesSwitch (g.arming old.device) (g.arming new.device))
  -- where the content is told, by the bytes of the marks' block
  pub once : IsTrue g.tells → OnOk result (TakesSwitchBy (is_clear 3 (g.told old.device).now)
      (g.arming old.device) (g.arming new.device))
