-- What loading finds.
use Rattle.std.specs.Prelude.{◌≡◌, ◌≢◌, ◌⊎◌, List, ℕ, Option, Some, None, Result, Ok, Err, IfOk, IsErrOf, IsTrue}
use Rattle.base_core.specs.Block.{block}
use Rattle.flash_core.specs.{declared.flash.Flash.Ghosts, declared.flash.FlashStop.FlashStop, Calls.Reads}
use Rattle.fwu_formats.specs.{Layout.Layout, Metadata.MetaRead, Metadata.fits_meta, Metadata.meta_read, Image.deciding}
use Rattle.replicas.specs.{declared.which.Which.Which, declared.which.ReplicaStop.ReplicaStop}
use Rattle.replicas.specs.declared.which.Which.TheVariants.{Same, RepairZero, RepairOne, MigrateZero, MigrateOne}
use Rattle.replicas.specs.declared.which.ReplicaStop.TheVariants.{NoMetadata, Flash}

-- metadata is read in version 1 or 2
abbrev pub HasForm : MetaRead → Type 0
HasForm r = (r.form ≡ 1) ⊎ (r.form ≡ 2)

-- by what the two replicas read as, this metadata decides, and this is to be done
abbrev pub Finds : Which → MetaRead → Option MetaRead → Option MetaRead → Type 0
Finds Same r zero one = (zero ≡ Some r) × (one ≡ Some r) × (r.form ≡ 2)
Finds RepairZero r zero one = (zero ≡ None) × (one ≡ Some r) × (r.form ≡ 2)
Finds RepairOne r zero one = (zero ≡ Some r) × (one ≢ Some r) × (r.form ≡ 2)
Finds MigrateZero r zero one = (zero ≡ Some r) × (r.form ≡ 1)
Finds MigrateOne r zero one = (zero ≡ None) × (one ≡ Some r) × (r.form ≡ 1)

-- in which version metadata is read for which this is to be done
abbrev pub form_read_of : Which → ℕ
form_read_of MigrateZero = 1
form_read_of MigrateOne = 1
form_read_of other = 2

-- this metadata of the layout decides in the image, and this is to be done
pub record Loads (L : Layout) (which : Which) (r : MetaRead) (image : List ℕ) : Type 0 where
  pub decides : deciding L image ≡ Some r
  pub finds : Finds which r (meta_read L (block 1 image)) (meta_read L (block 2 image))

-- a load's result, as the flash's: that there is no metadata is no stop
abbrev pub flash_result : {T : Type 0} → Result T ReplicaStop → Result (Unit {0}) FlashStop
flash_result (Err (Flash stop)) = Err stop
flash_result other = Ok tt

-- What loading the metadata that decides gives, whichever buffer the replicas are read into.
pub record Found {D : Type 0} (g : Ghosts D) (L : Layout) (result : Result (MetaRead × Which) ReplicaStop)
    (old new : D) : Type 0 where
  -- on a device that tells its content: the metadata that decides, and what is to be done
  pub loads : IfOk result (λ r. IsTrue g.tells → Loads L r.1 r.0 (g.told old).now)
  -- `NoMetadata` only where none decides
  pub none : IsErrOf result NoMetadata → IsTrue g.tells → deciding L (g.told old).now ≡ None
  -- on any device: it is of the layout, and of the version for which this is to be done
  pub fits : IfOk result (λ r. IsTrue (fits_meta L r.0.meta))
  pub form : IfOk result (λ r. r.0.form ≡ form_read_of r.1)
  -- nothing is written
  pub reads : Reads g (flash_result result) old new
