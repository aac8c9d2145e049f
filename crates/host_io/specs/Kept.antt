-- What is read of a file that stays open.
use Rattle.std.specs.Prelude.{◌≡◌, ℕ, List, Option, Some, IfSome}
use Rattle.std.specs.Io.KnownBytes.{Consumes}

-- A read gave these bytes, and began where the file stood at this place, if it tells its place.
pub record ReadsAt {F : Type 0} (position : F → Option ℕ) (remaining : F → Option (List ℕ)) (at : ℕ) (given : List ℕ)
    (old new : F) : Type 0 where
  pub between : F
  pub there : IfSome (position old) (λ _. position between ≡ Some at)
  pub gave : Consumes (remaining between) (remaining new) given
