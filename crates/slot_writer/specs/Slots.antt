-- An image in a slot that begins at a block: its bytes, and what writing behind them leaves.
use Rattle.std.specs.Prelude.{◌≡◌, ℕ, ◌+◌, ◌-◌, ◌*◌, ◌/◌, ◌%◌, ◌<◌, ◌≤◌, List, ◌++◌, length, take, drop, slice_index, slice_range, Result, OnOk}
use Rattle.base_core.specs.Block.{block_bytes, granule_bytes}
use Rattle.flash_core.specs.{declared.flash.FlashStop.FlashStop, Told.Told, Told.NothingDirty, Told.settled, May.Keeps}

-- how many blocks so many bytes reach
abbrev pub blocks_for : ℕ → ℕ
blocks_for bytes = (bytes + (block_bytes - 1)) / block_bytes

-- how many bytes of an image of this length are on the flash: those in whole granules
abbrev pub done_of : ℕ → ℕ
done_of size = size - size % granule_bytes

-- the bytes of an image of this length: those on the flash, and the rest that is kept
abbrev pub bytes_stored : ℕ → ℕ → List ℕ → List ℕ → List ℕ
bytes_stored first size rest now = take (done_of size) (drop (block_bytes * first) now) ++ take (size % granule_bytes) rest

-- behind the bytes that are on the flash, the block that they end in is blank
abbrev pub IsBlankAhead : ℕ → ℕ → List ℕ → Type 0
IsBlankAhead first done now =
    (i : ℕ) → block_bytes * first + done ≤ i → i < block_bytes * (first + blocks_for done) → slice_index now i ≡ 255

-- what erasing the blocks from the first to before the end leaves, at any exit
pub record Erases {T : Type 0} (result : Result T FlashStop) (first end : ℕ) (s t : Told) : Type 0 where
  pub keeps : Keeps (block_bytes * first) (block_bytes * end) s t
  pub erased : OnOk result ((i : ℕ) → block_bytes * first ≤ i → i < block_bytes * end → slice_index t.now i ≡ 255)
  -- no barrier is made
  pub stable : t.stable ≡ s.stable

-- what programming bytes behind those that are done leaves, at any exit
pub record Programs {T : Type 0} (result : Result T FlashStop) (first done : ℕ) (bytes : List ℕ) (s t : Told) : Type 0 where
  -- nothing changes before them, nor behind the last block that they reach
  pub keeps : Keeps (block_bytes * first + done) (block_bytes * (first + blocks_for (done + length bytes))) s t
  pub idle : length bytes ≡ 0 → t ≡ s
  pub written : OnOk result (slice_range t.now (block_bytes * first + done) (block_bytes * first + done + length bytes) ≡ bytes)
  pub ahead : OnOk result (IsBlankAhead first (done + length bytes) t.now)
  -- no barrier is made
  pub stable : t.stable ≡ s.stable

-- what is kept of an image of this length once bytes came: those that fill no granule
abbrev pub kept_of : ℕ → List ℕ → List ℕ → List ℕ
kept_of size rest bytes = drop (done_of (size + length bytes) - done_of size) (take (size % granule_bytes) rest ++ bytes)

-- what appending bytes to an image of this length leaves, at any exit
pub record Appends {T : Type 0} (result : Result T FlashStop) (first size : ℕ) (rest bytes left : List ℕ)
    (s t : Told) : Type 0 where
  -- nothing changes before the bytes that are new on the flash, nor behind the last block that they reach
  pub keeps : Keeps (block_bytes * first + done_of size) (block_bytes * (first + blocks_for (done_of (size + length bytes)))) s t
  -- nothing at all where no granule becomes whole
  pub idle : done_of (size + length bytes) ≡ done_of size → t ≡ s
  -- when done, the bytes stand behind those before
  pub written : OnOk result (bytes_stored first (size + length bytes) left t.now ≡ bytes_stored first size rest s.now ++ bytes)
  pub ahead : OnOk result (IsBlankAhead first (done_of (size + length bytes)) t.now)
  -- no barrier is made: what is sure to outlive a loss is what it was
  pub stable : t.stable ≡ s.stable

-- what ending an image of this length leaves, at any exit
pub record FinishesImage {T : Type 0} (result : Result T FlashStop) (first size : ℕ) (rest : List ℕ) (s t : Told) : Type 0 where
  -- nothing changes before the kept bytes, nor behind the block that they reach
  pub keeps : Keeps (block_bytes * first + done_of size) (block_bytes * (first + blocks_for size)) s t
  -- where nothing is kept, nothing is written
  pub idle : size % granule_bytes ≡ 0 → t ≡ settled result s
  -- when done, all of it is on the flash, 0xFF behind it up to the block's end, and nothing is dirty
  pub written : OnOk result (take size (drop (block_bytes * first) t.now) ≡ bytes_stored first size rest s.now)
  pub padded : OnOk result (IsBlankAhead first size t.now)
  pub stable : OnOk result (NothingDirty t)
