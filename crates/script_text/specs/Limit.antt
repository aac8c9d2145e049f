-- How far a text is within the limits of a script, as it is read.
use Rattle.std.specs.Prelude.{◌≡◌, ℕ, ◌≤◌, ◌==◌, false, List, length, count_by}
use Rattle.fwu_model.specs.Script.{is_too_long}

-- the bytes of a text, and its line ends
pub record Extent : Type 0 where
  pub bytes : ℕ
  pub ends : ℕ

-- This is the extent of the text, which is within the limits; so it has few bytes, as a reading of it asks.
pub record IsExtentOf (e : Extent) (text : List ℕ) : Type 0 where
  pub bytes : e.bytes ≡ length text
  pub ends : e.ends ≡ count_by (λ b. b == 10) text
  pub within : is_too_long text ≡ false
  pub few : length text ≤ 4194304
