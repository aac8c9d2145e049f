-- What a call does with one image: a write and a commit with a staged one, an accept with one of the active bank.
use Rattle.std.specs.Prelude.{◌≡◌, ℕ, ◌+◌, ◌*◌, ◌%◌, List, length, not, take, Result, OnOk, IsTrue, IsFalse}
use Rattle.base_core.specs.Block.{block_bytes, granule_bytes}
use Rattle.flash_core.specs.{declared.flash.Flash.Ghosts, Touches.TouchesOnly}
use Rattle.fwu_formats.specs.{Layout.start, Metadata.bit_at}
use Rattle.fwu_model.specs.{MoveMetas.meta_after, State.Accept}
use Rattle.replicas.specs.Stores.{Stores}
use Rattle.slot_writer.specs.Slots.{Appends, FinishesImage, blocks_for, done_of, kept_of}
use Rattle.slot_writer.specs.Writes.{SpendsArming, writes_to_append, writes_to_finish}
use Rattle.agent_kept.specs.declared.kinds.Plan.TheVariants as plan
use Rattle.agent_kept.specs.Kept.{AppendsPart, part_at, size_of}
use Rattle.agent_machine.specs.{declared.stop.Stop.Stop, Fields.rest_of, Fields.target, Stored.trials_planned}
use Rattle.agent_machine.specs.Meets.{IsDone, flash_result}
use Rattle.agent_calls.specs.{Metas.meta_accepted, Snapshot.Snapshot}

-- Bytes were put behind those of a staged image.
pub record AppendsImage {D : Type 0} (g : Ghosts D) (image : ℕ) (bytes : List ℕ) (result : Result (Unit {0}) Stop)
    (old new : Snapshot D) : Type 0 where
  -- On any flash that tells its content, sound or not: the bytes stand behind those that the image has.
  -- The block that they end in is blank behind them, and nothing else changes.
  pub appends : IsDone result → IsTrue g.tells → Appends (flash_result result)
      (start old.fields.layout (target old.fields) image) (size_of (part_at old.fields.session image))
      (rest_of old.fields image) bytes (rest_of new.fields image) (g.told old.device) (g.told new.device)
  -- On any device: the bytes that fill no granule are kept, and the image has all of them.
  pub keeps : OnOk result (take ((size_of (part_at old.fields.session image) + length bytes) % granule_bytes)
      (rest_of new.fields image) ≡ kept_of (size_of (part_at old.fields.session image)) (rest_of old.fields image) bytes)
  -- and the session's part of the image grows by them
  pub grows : OnOk result (AppendsPart old.fields.session image bytes new.fields.session)
  -- On any device, at any exit: what is kept of another image stays.
  pub others : (other : ℕ) → (other ≡ image → ⊥) → rest_of new.fields other ≡ rest_of old.fields other
  -- On any device: it is not touched where no granule becomes whole.
  pub still : done_of (size_of (part_at old.fields.session image) + length bytes)
      ≡ done_of (size_of (part_at old.fields.session image)) → new.device ≡ old.device
  -- On every device, at any exit: no block is erased or programmed but those that the new bytes reach.
  pub touches : let first = start old.fields.layout (target old.fields) image in
      let size = size_of (part_at old.fields.session image) in
      TouchesOnly (block_bytes * first + done_of size) (block_bytes * (first + blocks_for (done_of (size + length bytes))))
      (g.writes old.device) (g.writes new.device)
  -- what an armed loss counts of a write that is not refused
  pub spent : IsDone result → SpendsArming (flash_result result)
      (writes_to_append (size_of (part_at old.fields.session image)) (length bytes))
      (g.arming old.device) (g.arming new.device) (g.counts old.device) (g.counts new.device)

-- A staged image was ended.
pub record EndsImage {D : Type 0} (g : Ghosts D) (image : ℕ) (result : Result (Unit {0}) Stop) (old new : Snapshot D) : Type 0 where
  -- On any flash that tells its content, sound or not: 0xFF stands behind it up to the block's end, and nothing else changes.
  pub ends : IsTrue g.tells → FinishesImage (flash_result result) (start old.fields.layout (target old.fields) image)
      (size_of (part_at old.fields.session image)) (rest_of old.fields image) (g.told old.device) (g.told new.device)
  -- On every device, at any exit: no block is erased or programmed but the one that the image ends in.
  pub touches : let first = start old.fields.layout (target old.fields) image in
      let size = size_of (part_at old.fields.session image) in
      TouchesOnly (block_bytes * first + done_of size) (block_bytes * (first + blocks_for size))
      (g.writes old.device) (g.writes new.device)
  -- on every device: what it takes to end an image of its size
  pub spent : SpendsArming (flash_result result) (writes_to_finish (size_of (part_at old.fields.session image)))
      (g.arming old.device) (g.arming new.device) (g.counts old.device) (g.counts new.device)

-- The bit of an image of the active bank is set.
pub record AcceptsImage {D : Type 0} (g : Ghosts D) (image : ℕ) (result : Result (Unit {0}) Stop)
    (old new : Snapshot D) : Type 0 where
  -- On any device: where the bit is set already, the device is not touched.
  pub still : IsTrue (bit_at old.fields.meta.meta old.fields.meta.meta.active image) → new.device ≡ old.device
  -- On any flash that tells its content, sound or not: else the metadata is stored in which it is.
  -- It goes over replica 0, then over replica 1, and nothing else changes.
  pub stores : IsDone result → IsTrue g.tells → IsFalse (bit_at old.fields.meta.meta old.fields.meta.meta.active image)
      → Stores (flash_result result) old.fields.layout (meta_after old.fields.meta.meta (Accept image))
      (g.told old.device) (g.told new.device)
  -- On every device, at any exit: no block is erased or programmed but the replicas.
  pub touches : TouchesOnly (block_bytes * 1) (block_bytes * 3) (g.writes old.device) (g.writes new.device)
  -- On any device: the agent keeps the metadata in which the bit is set, also where the flash stopped the store.
  pub keeps : IsDone result → new.fields.meta ≡ meta_accepted old.fields image
  -- On any device, also where the flash stopped it: the trials are those that its plan leaves.
  pub trials : IsDone result → new.fields.trials
      ≡ trials_planned (plan.Accept image (not (bit_at old.fields.meta.meta old.fields.meta.meta.active image)))
      new.fields.meta.meta old.fields.trials
