-- The two replicas of the metadata, in blocks 1 and 2, and what a store and a repair leave.
use Rattle.std.specs.Prelude.{◌≡◌, ◌⊎◌, ℕ, ◌*◌, List, Some, Result, OnOk, Option}
use Rattle.base_core.specs.Block.{block_bytes, block}
use Rattle.flash_core.specs.{declared.flash.FlashStop.FlashStop, Told.Told, Told.NothingDirty, Replaces.padded}
use Rattle.flash_core.specs.{Replaces.IsOldOrNew, declared.flash.Arming.Arming, Counts.lowered, Touches.TouchesOnly}
use Rattle.flash_core.specs.May.{May, Guards, Keeps, Quiet}
use Rattle.fwu_formats.specs.{Layout.Layout, Image.deciding}
use Rattle.fwu_formats.specs.Metadata.{Meta, MetaRead, meta_read, replica_bytes}
use Rattle.fwu_model.specs.Replica.{BothHold, Decides, in_version}
use Rattle.replicas.specs.declared.which.Which.{Which}
use Rattle.replicas.specs.declared.which.Which.TheVariants.{Same, RepairZero, RepairOne, MigrateZero, MigrateOne}

-- Replica 0 is the old one, the new one or unsealed while replica 1 is as it was, or else replica 0 is the new one.
abbrev pub IsBetween : List ℕ → List ℕ → List ℕ → Type 0
IsBetween old new image = (IsOldOrNew (block 1 old) new (block 1 image) × (block 2 image ≡ block 2 old)) ⊎ (block 1 image ≡ new)

-- what writing a block over replica 0 and then over replica 1 leaves, at any exit
pub record WritesBoth {T : Type 0} (result : Result T FlashStop) (new : List ℕ) (s t : Told) : Type 0 where
  -- but for the replicas nothing changes
  pub keeps : Keeps (block_bytes * 1) (block_bytes * 3) s t
  pub between : Guards 1 2 s → Quiet (block_bytes * 1) (block_bytes * 3) s → (image : List ℕ) → May t image
      → IsBetween s.now new image
  -- nor is replica 1 ever another one than the old and the new
  pub other : Guards 1 2 s → Quiet (block_bytes * 1) (block_bytes * 3) s → (image : List ℕ) → May t image
      → IsOldOrNew (block 2 s.now) new (block 2 image)
  -- when done, both replicas are the new one, and nothing is dirty
  pub zero : OnOk result (block 1 t.now ≡ new)
  pub one : OnOk result (block 2 t.now ≡ new)
  pub stable : OnOk result (NothingDirty t)

-- the metadata decides, and replica 1 holds it, so that replica 0 may be written
pub record IsBacked (L : Layout) (r : MetaRead) (image : List ℕ) : Type 0 where
  pub decides : deciding L image ≡ Some r
  pub one : meta_read L (block 2 image) ≡ Some r

-- what a store of metadata leaves, at any exit
pub record Stores {T : Type 0} (result : Result T FlashStop) (L : Layout) (m : Meta) (s t : Told) : Type 0 where
  -- its spelling in version 2 is written over replica 0, then over replica 1
  pub writes : WritesBoth result (padded (replica_bytes L m)) s t
  -- in each image that a power-on may leave the old metadata decides, or the new
  pub either : Guards 1 2 s → Quiet (block_bytes * 1) (block_bytes * 3) s → (old : MetaRead) → IsBacked L old s.now
      → (image : List ℕ) → May t image → Decides L old (in_version 2 m) image
  -- when done, both replicas hold it in version 2
  pub both : OnOk result (BothHold L (in_version 2 m) t.now)

-- ---- what a repair leaves

-- what a repair writes over the replica in block b, where that lacks the metadata
pub record Rewrites {T : Type 0} (result : Result T FlashStop) (L : Layout) (b : ℕ)
    (r : MetaRead) (new : List ℕ) (s t : Told) : Type 0 where
  -- when done, the block is the new one, to the last byte
  pub written : (meta_read L (block b s.now) ≡ Some r → ⊥) → OnOk result (block b t.now ≡ new)
  -- in each image that a power-on may leave it is the old one, the new one, or has no seal
  pub either : Guards 1 2 s → Quiet (block_bytes * 1) (block_bytes * 3) s → (image : List ℕ) → May t image
      → IsOldOrNew (block b s.now) new (block b image)

-- the block of a replica: the metadata's bytes in version 2, 0xFF to a whole granule, and else erased ones
abbrev pub replica_block : Layout → MetaRead → List ℕ
replica_block L r = padded (replica_bytes L r.meta)

-- what a repair leaves, at any exit, where this metadata decided
pub record Repairs {T : Type 0} (result : Result T FlashStop) (L : Layout) (r : MetaRead) (s t : Told) : Type 0 where
  -- but for the replicas nothing changes
  pub keeps : Keeps (block_bytes * 1) (block_bytes * 3) s t
  -- a replica that holds it in version 2 stays
  pub idle : BothHold L (in_version 2 r.meta) s.now → t ≡ s
  pub zero_alone : meta_read L (block 2 s.now) ≡ Some (in_version 2 r.meta) → Keeps (block_bytes * 1) (block_bytes * 2) s t
  pub one_alone : meta_read L (block 1 s.now) ≡ Some (in_version 2 r.meta) → Keeps (block_bytes * 2) (block_bytes * 3) s t
  -- and one that lacks it becomes its bytes, and never another block
  pub zero : Rewrites result L 1 (in_version 2 r.meta) (replica_block L r) s t
  pub one : Rewrites result L 2 (in_version 2 r.meta) (replica_block L r) s t
  -- in each image that a power-on may leave it decides, as it was or in version 2
  pub stays : Guards 1 2 s → Quiet (block_bytes * 1) (block_bytes * 3) s → (image : List ℕ) → May t image
      → Decides L r (in_version 2 r.meta) image
  -- when done, both replicas hold it in version 2, and are stable where they were so before
  pub both : OnOk result (BothHold L (in_version 2 r.meta) t.now)
  pub quiet : Quiet (block_bytes * 1) (block_bytes * 3) s → OnOk result (Quiet (block_bytes * 1) (block_bytes * 3) t)

-- ---- on every device, how much nearer an armed loss a repair that is done brings

-- one replica was written: an erase and a program
abbrev pub TakesOne : Option Arming → Option Arming → Type 0
TakesOne armed arming = arming ≡ lowered (lowered armed)

-- both were
abbrev pub TakesBoth : Option Arming → Option Arming → Type 0
TakesBoth armed arming = arming ≡ lowered (lowered (lowered (lowered armed)))

-- what is to be done takes so much; where replica 0 is version 1, replica 1 may hold the metadata in version 2, and stays then
abbrev pub TakesRepair : Which → Option Arming → Option Arming → Type 0
TakesRepair Same armed arming = arming ≡ armed
TakesRepair MigrateZero armed arming = TakesOne armed arming ⊎ TakesBoth armed arming
TakesRepair MigrateOne armed arming = TakesBoth armed arming
TakesRepair other armed arming = TakesOne armed arming

-- ---- on every device, which blocks a repair may erase or program, by what is to be done

abbrev pub TouchesRepair : Which → (ℕ → ℕ) → (ℕ → ℕ) → Type 0
TouchesRepair Same old new = new ≡ old
TouchesRepair RepairZero old new = TouchesOnly (block_bytes * 1) (block_bytes * 2) old new
TouchesRepair RepairOne old new = TouchesOnly (block_bytes * 2) (block_bytes * 3) old new
TouchesRepair other old new = TouchesOnly (block_bytes * 1) (block_bytes * 3) old new
