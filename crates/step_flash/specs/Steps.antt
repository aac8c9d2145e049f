-- What steps do to a flash, and the operation that was stopped.
use Rattle.std.specs.Prelude.{◌≡◌, ◌⊎◌, ⊤, ℕ, Bool, ◌+◌, ◌%◌, ◌<◌, ◌≤◌, ◌==◌, if◌then◌else◌}
use Rattle.std.specs.Prelude.{List, [], ◌∷◌, ◌++◌, fold, slice_range, length, Option, Some, None}
use Rattle.std.specs.Coded.{×_prop, Unit-prop}
use denote.Struct.Props as logic
use Rattle.base_core.specs.Block.{blank, block_bytes, granule_bytes}
use Rattle.flash_core.specs.Told.{Told, Operation, put, settle}
use Rattle.step_flash.specs.{declared.step.Step.Step, declared.stopped.Stopped.Stopped}

-- Kind 1 is an erase, kind 2 a program, kind 3 a barrier, kind 4 a copy: a program whose bytes stand in the package.
abbrev pub is_barrier : Step → Bool
is_barrier s = s.kind == 3

-- where the bytes of a program stand: in the package at a copy, else in the room
abbrev pub source_of : List ℕ → List ℕ → Step → List ℕ
source_of file room s = if s.kind == 4 then file else room

-- the bytes of an erase, or those that stand in the package or the room
abbrev pub step_bytes : List ℕ → List ℕ → Step → List ℕ
step_bytes file room s = if s.kind == 1 then blank block_bytes else slice_range (source_of file room s) s.from (s.from + s.length)

-- the step that an erase, a barrier, a program of so many bytes or a copy is noted as
abbrev pub erase_step : ℕ → Step
erase_step at = record { kind = 1; at = at; length = block_bytes; from = 0 }

abbrev pub barrier_step : Step
barrier_step = record { kind = 3; at = 0; length = 0; from = 0 }

abbrev pub program_step : ℕ → ℕ → ℕ → Step
program_step at n from = record { kind = 2; at = at; length = n; from = from }

abbrev pub copy_step : ℕ → ℕ → ℕ → Step
copy_step at n from = record { kind = 4; at = at; length = n; from = from }

-- what a flash tells after one step
abbrev pub run_step : List ℕ → List ℕ → Told → Step → Told
run_step file room t s = if is_barrier s then settle t else put s.at (step_bytes file room s) t

-- what a flash tells after the steps, in their order
unfoldable pub run_with : List ℕ → List ℕ → Told → List Step → Told
run_with file room t steps = fold (run_step file room) t steps

abbrev pub under_of : Option Stopped → Option Operation
under_of None = None
under_of (Some s) = Some (record { at = s.at; bytes = s.bytes.bytes })

-- with this operation under way, or none
abbrev pub under_as : Option Operation → Told → Told
under_as under t = record t { under = under }

-- how many bytes of the room the programs have that are no copies
abbrev pub bytes_in_room : Step → ℕ
bytes_in_room s = if s.kind == 2 then s.length else 0

unfoldable pub room_bytes : List Step → ℕ
room_bytes steps = fold (λ n s. n + bytes_in_room s) 0 steps

-- The step is of one of the four kinds. It lies in a flash of so many bytes, and its bytes in a package, or else in a room, of so
-- many.
pub record IsInsideWith (file room size : ℕ) (s : Step) : Type 0 where
  pub known : (1 ≤ s.kind) × (s.kind ≤ 4)
  pub block : s.kind ≡ 1 → s.length ≡ block_bytes
  pub copied : s.kind ≡ 4 → (0 < s.length) × (s.from + s.length ≤ file)
  pub bytes : (s.kind ≡ 1 → ⊥) → (s.kind ≡ 4 → ⊥) → s.from + s.length ≤ room
  pub place : s.at + s.length ≤ size

-- These bytes stand in the package from a place on.
pub record StandsAt (file : List ℕ) (from : ℕ) (bytes : List ℕ) : Type 0 where
  pub fits : from + length bytes ≤ length file
  pub is : slice_range file from (from + length bytes) ≡ bytes

-- One program was noted as one step: a copy of bytes that stand in the package, and the room stays. Or it is a program of bytes
-- that were put behind the others of the room.
abbrev pub NotesBytes : List ℕ → ℕ → List ℕ → List Step → List ℕ → List Step → List ℕ → Type 0
NotesBytes file at bytes steps room new_steps new_room =
    ((from : ℕ) × StandsAt file from bytes × (new_steps ≡ steps ++ copy_step at (length bytes) from ∷ []) × (new_room ≡ room))
    ⊎ (new_steps ≡ steps ++ program_step at (length bytes) (length room) ∷ []) × (new_room ≡ room ++ bytes)

-- So many bytes can be programmed from a place on, on a flash that tells so: whole granules, one at least, which are erased.
pub record TakesProgram (t : Told) (at n : ℕ) : Type 0 where
  pub place : at % granule_bytes ≡ 0
  pub granules : n % granule_bytes ≡ 0
  pub some : 1 ≤ n
  pub erased : slice_range t.now at (at + n) ≡ blank n

-- A step can be done on a flash that tells so. An erase takes a block. A program or a copy takes whole granules, one at least,
-- which are erased. A barrier tells nothing.
pub record IsDoable (t : Told) (s : Step) : Type 0 where
  pub block : s.kind ≡ 1 → (s.at % block_bytes ≡ 0) × (s.from ≡ 0)
  pub bytes : (s.kind ≡ 2) ⊎ (s.kind ≡ 4) → TakesProgram t s.at s.length
  pub barrier : s.kind ≡ 3 → (s.at ≡ 0) × (s.length ≡ 0) × (s.from ≡ 0)

-- each of the steps can be done when its turn comes
abbrev pub AreDoable : List ℕ → List ℕ → Told → List Step → Type 0
AreDoable file room t [] = ⊤
AreDoable file room t (s ∷ ss) = IsDoable t s × AreDoable file room (run_step file room t s) ss

-- ---- whether the steps can be done has one proof at most, as a ghost field wants it

one_of_step : (t : Told) (s : Step) → IsProp (IsDoable t s)
one_of_step t s = Prim.hlevel logic.props

pub one_proof : (file room : List ℕ) (t : Told) (ss : List Step) → IsProp (AreDoable file room t ss)
one_proof file room t [] = Unit-prop
one_proof file room t (s ∷ ss) = ×_prop (one_of_step t s) (one_proof file room (run_step file room t s) ss)
