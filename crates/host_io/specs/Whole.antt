-- A file that is read whole.
use Rattle.std.specs.Prelude.{◌≡◌, ◌⊎◌, ◌≤◌, ◌+◌, ℕ, List, Option, Some, None, Result, Err, OnOk}
use Rattle.base_core.specs.Counts.{Rose}
use Rattle.host_io.specs.{Contents.Directory, declared.stops.ReadStop.ReadStop}
use Rattle.host_io.specs.declared.stops.ReadStop.TheVariants.{Failed, NoMemory}

-- told contents lack the name
abbrev pub LacksFile : Option Directory → List ℕ → Type 0
LacksFile None name = ⊥
LacksFile (Some files) name = files name ≡ None

-- it fails only where the files' faults rose, by one at most, or told files lack the name, and for want of memory without a fault
pub record HasFileCause {T : Type 0} (told : Option Directory) (name : List ℕ) (before now : ℕ)
    (result : Result T ReadStop) : Type 0 where
  pub later : before ≤ now
  pub once : now ≤ before + 1
  pub done : OnOk result (now ≡ before)
  pub failed : result ≡ Err Failed → Rose before now ⊎ LacksFile told name
  pub memory : result ≡ Err NoMemory → now ≡ before
