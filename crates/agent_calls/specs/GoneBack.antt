-- What going back to a bank has on every device, and what it leaves.
use Rattle.std.specs.Prelude.{◌≡◌, ◌⊎◌, ℕ, ◌*◌, Bool, false, List, Result, OnOk, IsTrue}
use Rattle.base_core.specs.Block.{block_bytes}
use Rattle.flash_core.specs.{declared.flash.Flash.Ghosts, Touches.TouchesOnly}
use Rattle.fwu_formats.specs.Layout.{ImageRow}
use Rattle.fwu_model.specs.{MoveMetas.meta_after, State.Back}
use Rattle.image_check.specs.{Passed.HasPassed, declared.bank.Verdict.TheVariants.Good}
use Rattle.replicas.specs.Stores.{Stores}
use Rattle.agent_machine.specs.{declared.stop.Stop.Stop, Stored.TakesStore, Stored.may_try_kept}
use Rattle.agent_machine.specs.Meets.{IsDone, IsRefused, flash_result}
use Rattle.agent_calls.specs.{Metas.meta_back, Snapshot.Snapshot}

-- some package of these images passes, of a version that is not below the counter
abbrev pub SomePassed : (List ℕ → Bool) → List ImageRow → ℕ → Type 0
SomePassed passes rows counter = (v : ℕ) × HasPassed passes rows counter (Good v)

-- The active and the previous bank change places, where going back is answered. What is left at each exit.
pub record ChangesBanks {D : Type 0} (g : Ghosts D) (passes : List ℕ → Bool) (result : Result (Unit {0}) Stop)
    (old new : Snapshot D) : Type 0 where
  -- On any device: what the session and the numbers of the banks refuse is refused without a look at the device.
  pub still : may_try_kept old.fields.meta.meta old.fields.session old.fields.boot ≡ false → new.device ≡ old.device
  -- On any flash that tells its content, sound or not: the metadata is stored in which the two banks changed places.
  -- It goes over replica 0, then over replica 1, and nothing else changes.
  pub stores : IsDone result → IsTrue g.tells → Stores (flash_result result) old.fields.layout
      (meta_after old.fields.meta.meta Back) (g.told old.device) (g.told new.device)
  -- On every device, at any exit: no block is erased or programmed but the replicas.
  pub touches : TouchesOnly (block_bytes * 1) (block_bytes * 3) (g.writes old.device) (g.writes new.device)
  -- On any device: the agent keeps that metadata, and the session as it was.
  pub keeps : OnOk result (new.fields.meta ≡ meta_back old.fields)
  -- Where the flash stopped it, the agent keeps that metadata, or the old.
  pub either : IsDone result → (new.fields.meta ≡ old.fields.meta) ⊎ (new.fields.meta ≡ meta_back old.fields)
  pub session : OnOk result (new.fields.session ≡ old.fields.session)
  -- On any device, also where the flash stopped it: the trials stay, or are ended.
  pub trials : IsDone result → (new.fields.trials ≡ old.fields.trials) ⊎ (new.fields.trials ≡ 0)
  -- On any device: where it goes back, some package passed, of a version that is not below the counter.
  pub passed : OnOk result (SomePassed passes old.fields.layout.rows old.fields.counter)
  -- a refusal may have read the device, and changed nothing of it
  pub content : IsRefused result → IsTrue g.tells → g.told new.device ≡ g.told old.device
  pub arming : IsRefused result → g.arming new.device ≡ g.arming old.device
  -- on every device: and erased and programmed nothing
  pub writes : IsRefused result → g.writes new.device ≡ g.writes old.device
  -- On any device: an answer stored the metadata, or has it as it was and wrote nothing.
  pub spent : OnOk result (TakesStore old.fields.meta new.fields.meta (g.arming old.device) (g.arming new.device))
