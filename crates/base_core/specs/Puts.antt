-- What putting bytes into a buffer leaves.
use Rattle.std.specs.Prelude.{◌≡◌, ℕ, ◌+◌, List, ◌++◌, length, take}

-- So many bytes are put at a place of a buffer, and next is the place behind them. Of the bytes from there on nothing is said.
pub record PutsBytes (at count : ℕ) (bytes old new : List ℕ) (next : ℕ) : Type 0 where
  pub next_is : next ≡ at + count
  -- Before the place the buffer is as it was, and from it on it has the bytes.
  pub front : take next new ≡ take at old ++ bytes
  pub size : length new ≡ length old
