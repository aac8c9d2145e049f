-- What a call does with a file.
use Rattle.std.specs.Prelude.{ℕ, List}

pub data Access : Type 0 where
  -- it asks for the size or the bytes of the file of this name
  Asks : List ℕ → Access
  -- it makes the file of this name, or tries to
  Makes : List ℕ → Access
  -- it writes the file of this name where it stands, or makes it, or tries to
  Overwrites : List ℕ → Access
