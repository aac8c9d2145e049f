-- What adding a mark, clearing a block and raising the counter leave.
use Rattle.std.specs.Prelude.{◌≡◌, ◌⊎◌, ℕ, ◌+◌, ◌*◌, ◌<◌, ◌≤◌, Bool, true, false, IsTrue, List, Option, replicate, Result, OnOk, nat_lt, if◌then◌else◌, Some, None}
use Rattle.base_core.specs.{Block.block_bytes, Block.granule_bytes, Block.block, Block.blank, Block.granule, Bytes.num_at}
use Rattle.flash_core.specs.{Counts.lowered, declared.flash.Arming.Arming, declared.flash.FlashStop.FlashStop, Told.Told}
use Rattle.flash_core.specs.{Told.NothingDirty, Replaces.padded, Replaces.Replaces, Touches.TouchesOnly}
use Rattle.flash_core.specs.May.{May, Keeps, Quiet, Guards}
use Rattle.fwu_formats.specs.Image.{is_blank, marks, is_tidy}
use Rattle.fwu_formats.specs.Counter.{is_record, record_bytes, counter_in}

-- A mark may go to this place of a block: it is the count, below the limit, and up to the limit no mark follows it.
pub record IsNextMark (image : List ℕ) (b at limit : ℕ) : Type 0 where
  pub below : at < limit
  pub few : limit ≤ 256
  pub count : marks image b limit ≡ at
  pub tidy : IsTrue (is_tidy image b limit)

-- the count is this or one more, and up to the limit no mark follows
pub record CountsOnce (image : List ℕ) (b at limit : ℕ) : Type 0 where
  pub count : (marks image b limit ≡ at) ⊎ (marks image b limit ≡ at + 1)
  pub tidy : IsTrue (is_tidy image b limit)

-- what adding a mark leaves, at any exit
pub record Adds {T : Type 0} (result : Result T FlashStop) (b at : ℕ) (s t : Told) : Type 0 where
  -- but for its granule nothing changes
  pub keeps : Keeps (block_bytes * b + granule_bytes * at) (block_bytes * b + granule_bytes * at + granule_bytes) s t
  -- an image that a power-on may leave has the old count or one more
  pub either : (limit : ℕ) → IsNextMark s.now b at limit → Quiet (block_bytes * b) (block_bytes * b + block_bytes) s
      → (image : List ℕ) → May t image → CountsOnce image b at limit
  -- when done, its granule is zero, the count is one more, and nothing is dirty
  pub written : OnOk result (granule b at t.now ≡ replicate granule_bytes 0)
  pub one_more : (limit : ℕ) → IsNextMark s.now b at limit → OnOk result (marks t.now b limit ≡ at + 1)
  pub stable : OnOk result (NothingDirty t)

-- what clearing a block leaves, at any exit
pub record Clears {T : Type 0} (result : Result T FlashStop) (b : ℕ) (s t : Told) : Type 0 where
  -- but for the block nothing changes, and nothing at all where it is blank
  pub keeps : Keeps (block_bytes * b) (block_bytes * b + block_bytes) s t
  pub idle : block b s.now ≡ blank block_bytes → t ≡ s
  -- when done, it is blank, and stable where it was so before
  pub erased : OnOk result (block b t.now ≡ blank block_bytes)
  pub quiet : Quiet (block_bytes * b) (block_bytes * b + block_bytes) s
      → OnOk result (Quiet (block_bytes * b) (block_bytes * b + block_bytes) t)

-- whether a block of an image is blank
abbrev pub is_clear : ℕ → List ℕ → Bool
is_clear b image = is_blank (block b image)

-- what clearing a block takes of an arming: nothing where it is blank, and else an erase
abbrev pub TakesClear : Bool → Option Arming → Option Arming → Type 0
TakesClear true armed arming = arming ≡ armed
TakesClear false armed arming = arming ≡ lowered armed

-- ---- what raising the counter leaves: one record, in the place of the one that counts less

-- the value of a block that is a record
abbrev pub value_in : List ℕ → Option ℕ
value_in bytes = if is_record bytes then Some (num_at 4 bytes 8) else None

-- The block for a new record, by the records in blocks 5 and 6. It is one that is none, 5 before 6,
-- else that of the lower value, 5 at a tie.
abbrev pub place_for : Option ℕ → Option ℕ → ℕ
place_for None second = 5
place_for (Some a) None = 6
place_for (Some a) (Some b) = if nat_lt b a then 6 else 5

abbrev pub record_place : List ℕ → ℕ
record_place image = place_for (value_in (block 5 image)) (value_in (block 6 image))

-- what raising the counter to a value above it leaves, at any exit
pub record Raises {T : Type 0} (result : Result T FlashStop) (v : ℕ) (s t : Told) : Type 0 where
  -- one record is written over one block; but for blocks 5 and 6 nothing changes
  pub writes : Replaces result (record_place s.now) (padded (record_bytes v)) s t
  pub keeps : Keeps (block_bytes * 5) (block_bytes * 7) s t
  -- each image that a power-on may leave has the old counter or the new
  pub either : Guards 5 6 s → Quiet (block_bytes * 4) (block_bytes * 7) s → (image : List ℕ) → May t image
      → (counter_in image ≡ counter_in s.now) ⊎ (counter_in image ≡ v)
  -- when done, the counter is the new one, and nothing is dirty
  pub done : OnOk result (counter_in t.now ≡ v)
  pub stable : OnOk result (NothingDirty t)

-- on every device: one of the two records may be erased or programmed, and no other block
abbrev pub TouchesOneRecord : (ℕ → ℕ) → (ℕ → ℕ) → Type 0
TouchesOneRecord old new =
    TouchesOnly (block_bytes * 5) (block_bytes * 6) old new ⊎ TouchesOnly (block_bytes * 6) (block_bytes * 7) old new
