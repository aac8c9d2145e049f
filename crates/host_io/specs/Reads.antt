-- What calls leave that only read files.
use Rattle.std.specs.Prelude.{◌≡◌, ◌≢◌, ◌≤◌, ℕ, List}
use Rattle.host_io.specs.{Access.Access, Access.Asks, declared.files.Files.Ghosts}

-- Contents stay, nothing is written, no count of faults falls, and no other access is made.
pub record ReadsFiles {H : Type 0} (g : Ghosts H) (IsOther : Access → Type 0) (old new : H) : Type 0 where
  pub same : g.contents new ≡ g.contents old
  pub unwritten : g.writes new ≡ g.writes old
  pub later : g.faults old ≤ g.faults new
  pub spares : (access : Access) → IsOther access → g.spares old new access

-- and the file of this name alone is asked for
abbrev pub ReadsFile : {H : Type 0} → Ghosts H → List ℕ → H → H → Type 0
ReadsFile g name old new = ReadsFiles g (λ access. access ≢ Asks name) old new
