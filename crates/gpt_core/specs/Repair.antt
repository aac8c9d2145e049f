-- What a repair of a table leaves.
use Rattle.std.specs.Prelude.{◌≡◌, ℕ, ◌+◌, ◌-◌, ◌*◌, List, length, Some, IsTrue, Result, OnOk}
use Rattle.base_core.specs.{Block.block_bytes, Block.block, Block.blank, Bytes.overwritten}
use Rattle.flash_core.specs.{declared.flash.FlashStop.FlashStop, May.May, May.Keeps, Touches.TouchesOnly}
use Rattle.flash_core.specs.Told.{Told, NothingDirty, is_guarded}
use Rattle.gpt_core.specs.{declared.table.WhichTable.WhichTable, declared.table.TableCopy.TableCopy, Writes.HoldsFrom}
use Rattle.gpt_core.specs.declared.table.WhichTable.TheVariants.{Same, RepairPrimary, RepairBackup}
use Rattle.gpt_core.specs.Table.{Table, blocks_of, entry_number_of, header_at, entries_at, other, copy_in, DecidesTable, BothSay}

-- Nothing is dirty, and the blocks of both headers are guarded.
pub record HeadersGuarded (blocks : ℕ) (s : Told) : Type 0 where
  pub nothing : NothingDirty s
  pub primary : IsTrue (is_guarded s 1)
  pub backup : IsTrue (is_guarded s (blocks - 1))

-- But for the copy that is repaired nothing changes, and where none is nothing at all.
abbrev pub StaysBeside : ℕ → Table → WhichTable → Told → Told → Type 0
StaysBeside blocks t Same s u = u ≡ s
StaysBeside blocks t RepairPrimary s u = Keeps block_bytes (block_bytes * (2 + blocks_of (entry_number_of t))) s u
StaysBeside blocks t RepairBackup s u = Keeps (block_bytes * (blocks - 1 - blocks_of (entry_number_of t)))
    (block_bytes * blocks) s u

-- But for the blocks of the copy that is repaired none is erased or programmed, and where none is none at all.
abbrev pub TouchesToMend : ℕ → Table → WhichTable → (ℕ → ℕ) → (ℕ → ℕ) → Type 0
TouchesToMend blocks t Same old new = new ≡ old
TouchesToMend blocks t RepairPrimary old new = TouchesOnly block_bytes (block_bytes * (2 + blocks_of (entry_number_of t))) old new
TouchesToMend blocks t RepairBackup old new = TouchesOnly (block_bytes * (blocks - 1 - blocks_of (entry_number_of t)))
    (block_bytes * blocks) old new

-- how many erases and programs a repair of a table with so many blocks of entries takes:
-- each block of the copy is erased and programmed
abbrev pub writes_to_mend : WhichTable → ℕ → ℕ
writes_to_mend Same entry_blocks = 0
writes_to_mend RepairPrimary entry_blocks = 2 + 2 * entry_blocks
writes_to_mend RepairBackup entry_blocks = 2 + 2 * entry_blocks

-- what a repair leaves, at any exit, of a device of so many blocks whose table this is
pub record MendsTable {T : Type 0} (result : Result T FlashStop) (blocks : ℕ) (t : Table) (u : Told) : Type 0 where
  -- in each image that a power-on may leave it decides
  pub stays : (image : List ℕ) → May u image → DecidesTable blocks t image
  -- when done, both copies say it, and nothing is dirty
  pub both : OnOk result (BothSay blocks t u.now)
  pub settled : OnOk result (NothingDirty u)

-- ---- the steps, where copy w is repaired

-- nothing is dirty, the header's block of copy w is guarded, the other copy says the table, and it decides
pub record Ready (w : TableCopy) (blocks : ℕ) (t : Table) (s : Told) : Type 0 where
  pub nothing : NothingDirty s
  pub size : length s.now ≡ block_bytes * blocks
  pub guarded : IsTrue (is_guarded s (header_at w blocks))
  pub says : copy_in (other w) blocks s.now ≡ Some t
  pub decides : DecidesTable blocks t s.now

-- and the header's block of copy w is erased
pub record Cleared (w : TableCopy) (blocks : ℕ) (t : Table) (s : Told) : Type 0 where
  pub ready : Ready w blocks t s
  pub empty : block (header_at w blocks) s.now ≡ blank block_bytes

-- and its entries are those of the table
pub record Filled (w : TableCopy) (blocks : ℕ) (t : Table) (s : Told) : Type 0 where
  pub cleared : Cleared w blocks t s
  pub entries : HoldsFrom s.now (entries_at w blocks (blocks_of (entry_number_of t))) t.entries

-- What a step leaves, at any exit: in each image the table decides; when done, P.
pub record RepairSteps {T : Type 0} (P : Told → Type 0) (result : Result T FlashStop) (blocks : ℕ) (t : Table)
    (u : Told) : Type 0 where
  pub stays : (image : List ℕ) → May u image → DecidesTable blocks t image
  pub ok : OnOk result (P u)

-- Both copies say the table, and nothing is dirty.
abbrev pub IsMended : ℕ → Table → Told → Type 0
IsMended blocks t u = BothSay blocks t u.now × NothingDirty u

-- Where a device is ready for a copy with this header, the step clears the header's block.
abbrev pub ClearsHeader : {T : Type 0} → ℕ → ℕ → Result T FlashStop → Told → Told → Type 0
ClearsHeader blocks header result s u = (w : TableCopy) (t : Table) → header ≡ header_at w blocks → Ready w blocks t s
    → RepairSteps (Cleared w blocks t) result blocks t u

-- Where a copy with these entries, from this block on, is cleared, the step fills it.
abbrev pub FillsEntries : {T : Type 0} → ℕ → ℕ → List ℕ → Result T FlashStop → Told → Told → Type 0
FillsEntries blocks first bytes result s u = (w : TableCopy) (t : Table)
    → first ≡ entries_at w blocks (blocks_of (entry_number_of t))
    → bytes ≡ t.entries → Cleared w blocks t s → RepairSteps (Filled w blocks t) result blocks t u

-- Where a copy with this header is filled, and these bytes make it say the table, the step mends it.
abbrev pub WritesHeader : {T : Type 0} → ℕ → ℕ → List ℕ → Result T FlashStop → Told → Told → Type 0
WritesHeader blocks b bytes result s u = (w : TableCopy) (t : Table) → b ≡ header_at w blocks → Filled w blocks t s
    → copy_in w blocks (overwritten (block_bytes * b) bytes s.now) ≡ Some t → RepairSteps (IsMended blocks t) result blocks t u

-- These bytes are the header of copy w: over an erased block, in front of the table's entries, they make the copy say the table.
abbrev pub Spells : TableCopy → ℕ → Table → List ℕ → Type 0
Spells w blocks t bytes = (image : List ℕ) → length image ≡ block_bytes * blocks
    → block (header_at w blocks) image ≡ blank block_bytes
    → HoldsFrom image (entries_at w blocks (blocks_of (entry_number_of t))) t.entries
    → copy_in w blocks (overwritten (block_bytes * header_at w blocks) bytes image) ≡ Some t

-- the copy that these bytes are written for, and the table
pub record Writing (blocks header first : ℕ) (head entries : List ℕ) (s : Told) : Type 0 where
  pub w : TableCopy
  pub t : Table
  pub header_is : header ≡ header_at w blocks
  pub first_is : first ≡ entries_at w blocks (blocks_of (entry_number_of t))
  pub entries_are : entries ≡ t.entries
  pub spells : Spells w blocks t head
  pub ready : Ready w blocks t s
