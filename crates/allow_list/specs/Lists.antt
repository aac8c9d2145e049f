-- Lists of digests in files whose bytes may be told.
use Rattle.std.specs.Prelude.{◌≡◌, ◌⊎◌, ◌≤◌, ◌+◌, ◌-◌, ◌∷◌, ◌++◌, ℕ, List, [], Option, None, Result, Err, IsSomeAnd, OnOk, length, min}
use Rattle.base_core.specs.Counts.{Rose}
use Rattle.fwu_formats.specs.Digests.{digests_of}
use Rattle.host_io.specs.{Contents.Directory, Contents.Holds, Contents.TellsRange, Whole.LacksFile}
use Rattle.verify_core.specs.Shown.{first_digest}
use Rattle.allow_list.specs.declared.stops.ListStop.{ListStop}
use Rattle.allow_list.specs.declared.stops.ListStop.TheVariants.{BadLine, Failed, NoMemory}

-- the file's bytes have this answer where they are told, and some bytes have it in any case
pub record IsAnswerOf (told : Option Directory) (name : List ℕ) (answer : Result (List (List ℕ)) ℕ) : Type 0 where
  pub bytes : List ℕ
  pub stands : Holds told name bytes
  pub is : digests_of bytes ≡ answer

-- it fails only where the files' faults rose, by one at most, or told files lack the name; at each other answer they stay
pub record HasListCause {T : Type 0} (told : Option Directory) (name : List ℕ) (before now : ℕ)
    (result : Result T ListStop) : Type 0 where
  pub later : before ≤ now
  pub once : now ≤ before + 1
  pub done : OnOk result (now ≡ before)
  pub bad : (line : ℕ) → result ≡ Err (BadLine line) → now ≡ before
  pub failed : result ≡ Err Failed → Rose before now ⊎ LacksFile told name
  pub memory : result ≡ Err NoMemory → now ≡ before

-- ---- one line

-- the file's bytes from a place on, as many as a line has, or as are left
pub record IsPiece (told : Option Directory) (name : List ℕ) (size at : ℕ) (piece : List ℕ) : Type 0 where
  pub count : length piece ≡ min 65 (size - at)
  pub range : TellsRange told name at piece

-- a line of a list stands there, whose digest was added
pub record AddsLine (told : Option Directory) (name : List ℕ) (size at : ℕ) (old new : List (List ℕ)) : Type 0 where
  pub piece : List ℕ
  pub here : IsPiece told name size at piece
  pub added : IsSomeAnd (first_digest piece) (λ digest. new ≡ old ++ digest ∷ [])

-- no line of a list stands there
pub record LacksLine (told : Option Directory) (name : List ℕ) (size at : ℕ) : Type 0 where
  pub piece : List ℕ
  pub here : IsPiece told name size at piece
  pub none : first_digest piece ≡ None
