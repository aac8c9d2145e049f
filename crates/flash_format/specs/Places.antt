-- What stands at a place of a flash, and what a loss leaves there while blocks are erased and the images written.
use Rattle.std.specs.Prelude.{◌≡◌, ℕ, ◌+◌, ◌*◌, ◌<◌, ◌≤◌, List, slice_index, slice_index_or, ◌⊎◌}
use Rattle.base_core.specs.Block.{block_bytes, blank, block, fewest_blocks}
use Rattle.fwu_formats.specs.{Layout.Layout, Layout.start, Layout.slot_bytes, Package.Entry, Package.payload}
use Rattle.fip_tables.specs.Images.{no_entry}
use Rattle.flash_core.specs.{Told.Told, May.KeepsBlock, May.Quiet}

-- the bytes from one place to before another are erased
abbrev pub Erased : ℕ → ℕ → List ℕ → Type 0
Erased low high image = (i : ℕ) → low ≤ i → i < high → slice_index image i ≡ 255

-- So many bytes from a place on are these, and erased ones behind them.
abbrev pub HoldsThenErased : ℕ → ℕ → List ℕ → List ℕ → Type 0
HoldsThenErased at count bytes image = (i : ℕ) → i < count → slice_index image (at + i) ≡ slice_index_or bytes i 255

-- the first images of a file's package stand in their slots of bank 0, with erased bytes behind them
abbrev pub AllStand : ℕ → Layout → List ℕ → List Entry → List ℕ → Type 0
AllStand count L file entries image = (k : ℕ) → k < count
    → HoldsThenErased (block_bytes * start L 0 k) (slot_bytes L k) (payload file (slice_index_or entries k no_entry)) image

-- ---- what a loss leaves

-- Of each of the first blocks that is guarded, a loss at t leaves what one at s might have left.
-- (Where nothing was dirty at s that is the block as it was, or one that has no seal.)
abbrev pub LeavesNoMore : ℕ → Told → Told → Type 0
LeavesNoMore count s t = (b : ℕ) → b < count → (image : List ℕ) → KeepsBlock t b image → KeepsBlock s b image

-- From s to t the first eight blocks were erased at most: each is as it was or erased, and a loss leaves no more of them.
pub record OnlyErased (s t : Told) : Type 0 where
  pub now : (b : ℕ) → b < fewest_blocks → (block b t.now ≡ block b s.now) ⊎ (block b t.now ≡ blank block_bytes)
  pub left : LeavesNoMore fewest_blocks s t

-- block 0 is erased, and nothing in it is dirty or under way: so no loss leaves a layout
pub record IsBare (t : Told) : Type 0 where
  pub erased : Erased 0 block_bytes t.now
  pub quiet : Quiet 0 block_bytes t
