-- A text that is built in room that was made before.
use Rattle.std.specs.Prelude.{◌≡◌, ◌≤◌, ◌+◌, ◌++◌, ℕ, List, length, Vec, vec_len, vec_capacity}
use Rattle.std.specs.Global.{Global}

-- there is room for so many bytes more
abbrev pub HasRoom : Vec ℕ Global → ℕ → Type 0
HasRoom text count = vec_len text + count ≤ vec_capacity text

-- new is old with bytes at its end, and loses no room but theirs
pub record Grows (old new : Vec ℕ Global) (bytes : List ℕ) : Type 0 where
  pub items : new.items ≡ old.items ++ bytes
  pub len : vec_len new ≡ vec_len old + length bytes
  pub room : vec_capacity old ≤ vec_capacity new
