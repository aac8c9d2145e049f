-- What is known of the images of a bank that are hashed, alone or side by side in lanes.
use Rattle.std.specs.Prelude.{◌≡◌, ℕ, ◌+◌, ◌-◌, ◌*◌, ◌%◌, ◌<◌, ◌≤◌, Bool, true, false, List, length, take, drop, Option, Some, None, slice_index_or, IsTrue}
use Rattle.std.specs.Option.{ForSome}
use Rattle.base_core.specs.{Block.block_bytes, Limits.most_images}
use Rattle.flash_core.specs.declared.flash.Flash.{Ghosts}
use Rattle.fwu_formats.specs.{Layout.slot_total, Manifest.manifest_size, Manifest.row_at}
use Rattle.sha256_lanes.specs.Holding.{HoldsInLane}
use Rattle.image_check.specs.{Verdict.ManifestFitsSlots, Verdict.is_good, Verdict.place, Verdict.lowest_bad, Passed.HasImage}
use Rattle.image_check.specs.{Passed.HasImages, declared.image.Images.Images, declared.image.Job.Job, declared.side.Work.Work}

-- the fewest bytes of a buffer in which images are hashed side by side: a block for each lane
abbrev pub lanes_bytes : ℕ
lanes_bytes = 4 * block_bytes

-- ---- the images of a bank

-- the device is on and has the bank's slots, and the manifest is of the length for its rows
pub record AreThere {D : Type 0} (g : Ghosts D) (d : D) (images : Images) : Type 0 where
  pub on : IsTrue (g.on d)
  pub some : 1 ≤ length images.rows.now
  pub few : length images.rows.now ≤ most_images
  pub manifest : length images.manifest.now ≡ manifest_size (length images.rows.now - 1)
  pub inside : images.first + slot_total images.rows.now ≤ g.blocks d

-- and each image fits its slot
pub record AreReadable {D : Type 0} (g : Ghosts D) (d : D) (images : Images) : Type 0 where
  pub there : AreThere g d images
  pub sizes : ManifestFitsSlots images.rows.now images.manifest.now

-- whether image k + 1 has the digest that row k says, by the content of a flash
abbrev pub is_good_in : List ℕ → Images → ℕ → Bool
is_good_in image images k = is_good image images.rows.now images.first images.manifest.now k

-- What is found of image k + 1. On a device that tells: whether it is good. On every device: some bytes are an image of the row of
-- a good one.
pub record IsFoundAt {D : Type 0} (g : Ghosts D) (d : D) (images : Images) (k : ℕ) (good : Bool) : Type 0 where
  pub told : IsTrue g.tells → good ≡ is_good_in (g.told d).now images k
  pub some : IsTrue good → HasImage (row_at images.manifest.now k)

-- the same of all images
pub record IsLowestBad {D : Type 0} (g : Ghosts D) (d : D) (images : Images) (bad : Option ℕ) : Type 0 where
  pub told : IsTrue g.tells → bad ≡ lowest_bad (is_good_in (g.told d).now images) 0 (length images.rows.now - 1)
  pub some : HasImages images.manifest.now (length images.rows.now - 1) bad

-- ---- an image that is hashed

-- the image of row k, which begins at this block
abbrev pub new_job : Images → ℕ → ℕ → Job
new_job images k block = record { row = k; at = block_bytes * block; size = (row_at images.manifest.now k).size; done = 0 }

-- what is held are so many bytes, and on a device that tells, those that stand there from this byte on
pub record HasTaken {D : Type 0} (g : Ghosts D) (d : D) (at count : ℕ) (holds : List ℕ → Type 0) : Type 0 where
  pub bytes : List ℕ
  pub size : length bytes ≡ count
  pub held : holds bytes
  pub told : IsTrue g.tells → bytes ≡ take count (drop at (g.told d).now)

-- The image is that of its row, and its first bytes are taken in.
pub record IsBegun {D : Type 0} (g : Ghosts D) (d : D) (images : Images) (holds : List ℕ → Type 0) (job : Job) : Type 0 where
  pub within : job.row < length images.rows.now - 1
  pub at : job.at ≡ block_bytes * place images.rows.now images.first (job.row + 1)
  pub size : job.size ≡ (row_at images.manifest.now job.row).size
  pub small : job.done ≤ job.size
  pub taken : HasTaken g d job.at job.done holds

-- ---- the lanes

-- the image that lane j works on
abbrev pub job_at : List (Option Job) → ℕ → Option Job
job_at jobs j = slice_index_or jobs j None

-- how many bytes of it are left; none is more than any
abbrev pub left : Option Job → ℕ
left None = 4294967295
left (Some job) = job.size - job.done

-- so many bytes more are taken in
abbrev pub gone_on : ℕ → Option Job → Option Job
gone_on count None = None
gone_on count (Some job) = Some (record job { done = job.done + count })

abbrev pub HaveGoneOn : ℕ → List (Option Job) → List (Option Job) → Type 0
HaveGoneOn count jobs after = (j : ℕ) → j < 4 → job_at after j ≡ gone_on count (job_at jobs j)

-- each lane can take in so many bytes at once
pub record IsPieceOfJobs (jobs : List (Option Job)) (size : ℕ) : Type 0 where
  pub whole : size % 64 ≡ 0
  pub few : size ≤ block_bytes
  pub enough : (j : ℕ) → j < 4 → size ≤ left (job_at jobs j)

-- the lane has image k
abbrev pub HasRow : ℕ → Option Job → Type 0
HasRow k None = ⊥
HasRow k (Some job) = job.row ≡ k

-- no lane has it
abbrev pub HasNoLane : ℕ → List (Option Job) → Type 0
HasNoLane k jobs = (j : ℕ) → j < 4 → HasRow k (job_at jobs j) → ⊥

-- Each image below the next that no lane has is good, or not below the lowest that was found bad.
pub record IsUnderWay {D : Type 0} (g : Ghosts D) (d : D) (work : Work) : Type 0 where
  pub readable : AreReadable g d work.images
  pub most : work.bad ≤ length work.images.rows.now - 1
  pub bad : work.bad < length work.images.rows.now - 1 → IsFoundAt g d work.images work.bad false
  pub good : (k : ℕ) → k < work.next → k < work.bad → HasNoLane k work.jobs → IsFoundAt g d work.images k true
  pub lanes_are : (j : ℕ) → j < 4 → ForSome (job_at work.jobs j) (IsBegun g d work.images (HoldsInLane j work.lanes))
  pub begins : work.block ≡ place work.images.rows.now work.images.first (work.next + 1)

-- The work went on, and the next image and the images stayed. A free lane is still free.
pub record HaveStepped {D : Type 0} (g : Ghosts D) (d : D) (work after : Work) : Type 0 where
  pub under_way : IsUnderWay g d after
  pub images : after.images ≡ work.images
  pub next : after.next ≡ work.next
  pub bad : after.bad ≤ work.bad
  pub free : (j : ℕ) → j < 4 → job_at work.jobs j ≡ None → job_at after.jobs j ≡ None
