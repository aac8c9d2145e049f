-- What writing to the blocks of a device asks for, and which bytes it leaves there.
use Rattle.std.specs.Prelude.{◌≡◌, ℕ, ◌+◌, ◌-◌, ◌*◌, ◌/◌, ◌%◌, ◌<◌, ◌≤◌, List, length}
use Rattle.base_core.specs.{Block.block_bytes, Block.granule_bytes, Bytes.part}

-- how many blocks so many bytes take
abbrev pub blocks_filled : ℕ → ℕ
blocks_filled size = (size + (block_bytes - 1)) / block_bytes

-- the first byte behind so many bytes that begin with a block, up to a whole block
abbrev pub end_of_blocks : ℕ → ℕ → ℕ
end_of_blocks first size = block_bytes * first + block_bytes * blocks_filled size

-- An image has these bytes from a block on.
abbrev pub HoldsFrom : List ℕ → ℕ → List ℕ → Type 0
HoldsFrom image b bytes = part image (block_bytes * b) (block_bytes * b + length bytes) ≡ bytes

-- Bytes for one block of a device of so many blocks.
pub record FitsBlock (blocks b : ℕ) (bytes : List ℕ) : Type 0 where
  pub inside : b < blocks
  pub granules : length bytes % granule_bytes ≡ 0
  pub some : 0 < length bytes
  pub fits : length bytes ≤ block_bytes

-- Bytes for the blocks from one on.
pub record FitsBlocks (blocks first : ℕ) (bytes : List ℕ) : Type 0 where
  pub inside : block_bytes * first + length bytes ≤ block_bytes * blocks
  pub granules : length bytes % granule_bytes ≡ 0
  pub some : 0 < length bytes

-- The header's block, and the blocks of so many bytes of entries, lie from one byte to before another.
pub record Spans (low high header first size : ℕ) : Type 0 where
  pub header_low : low ≤ block_bytes * header
  pub header_high : block_bytes * header + block_bytes ≤ high
  pub first_low : low ≤ block_bytes * first
  pub first_high : end_of_blocks first size ≤ high
