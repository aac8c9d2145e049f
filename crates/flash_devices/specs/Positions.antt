-- What files that are read and written at a position tell of that.
use Rattle.std.specs.Prelude.{◌≡◌, ◌⊎◌, ℕ, List, Option, Some, IfSome}
use Rattle.std.specs.Io.Seek.{StaysAt}
use Rattle.std.specs.Io.KnownBytes.{Keeps, Consumes, Appends}

-- After a seek to this place a told position is the place, and told bytes are as before.
pub record IsSought {F : Type 0} (position : F → Option ℕ) (bytes : F → Option (List ℕ)) (at : ℕ) (old new : F) : Type 0 where
  pub there : IfSome (position old) (λ _. position new ≡ Some at)
  pub kept : Keeps (bytes old) (bytes new)

-- From a state that was sought on, a reader lost exactly these bytes, or a writer took exactly them.
pub record TakesAt {F : Type 0} (position : F → Option ℕ) (bytes passed : F → Option (List ℕ))
    (Moves : Option (List ℕ) → Option (List ℕ) → List ℕ → Type 0) (at : ℕ) (moved : List ℕ) (old new : F) : Type 0 where
  pub between : F
  pub sought : IsSought position bytes at old between
  pub moves : Moves (passed between) (passed new) moved

-- a read from this place on gave these bytes
abbrev pub ReadsFrom : {F : Type 0} → (F → Option ℕ) → (F → Option (List ℕ)) → (F → Option (List ℕ)) → ℕ → List ℕ → F → F → Type 0
ReadsFrom position bytes remaining at given old new = TakesAt position bytes remaining Consumes at given old new

-- a write from this place on took these bytes
abbrev pub WritesFrom : {F : Type 0} → (F → Option ℕ) → (F → Option (List ℕ)) → (F → Option (List ℕ)) → ℕ → List ℕ → F → F → Type 0
WritesFrom position bytes contents at taken old new = TakesAt position bytes contents Appends at taken old new

-- A call on this place that failed had sought it, or its seek failed and left a told position and told bytes.
abbrev pub FailsFrom : {F : Type 0} → (F → Option ℕ) → (F → Option (List ℕ)) → ℕ → F → F → Type 0
FailsFrom {F} position bytes at old new =
    ((between : F) × IsSought position bytes at old between)
    ⊎ (StaysAt (position old) (position new) × Keeps (bytes old) (bytes new))
