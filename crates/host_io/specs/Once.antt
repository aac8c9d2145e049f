-- Reads of a source, of which none is made behind its end or behind a failure.
use Rattle.std.specs.Prelude.{◌≤◌, ◌++◌, ℕ, List, Option, IsSomeAnd, All, length}
use Rattle.host_io.specs.declared.source.Source.{Ghosts}

-- a read gave bytes
abbrev pub GaveBytes : Option ℕ → Type 0
GaveBytes read = IsSomeAnd read (λ count. 1 ≤ count)

-- Between two moments these reads were made, and each gave bytes: so the source may be read on.
pub record ReadsBytes {I : Type 0} (g : Ghosts I) (old new : I) : Type 0 where
  pub reads : List (Option ℕ)
  pub made : g.reads old new reads
  pub each : All GaveBytes reads

-- Between two moments these reads were made, and each but the last gave bytes: so none was made behind one that gave no bytes or
-- failed. Of its end a source is asked once.
pub record ReadsOnce {I : Type 0} (g : Ghosts I) (old new : I) : Type 0 where
  pub before : List (Option ℕ)
  pub last : List (Option ℕ)
  pub made : g.reads old new (before ++ last)
  pub each : All GaveBytes before
  pub one : length last ≤ 1
