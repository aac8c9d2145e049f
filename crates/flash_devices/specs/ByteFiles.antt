-- What a file of bytes at places tells, and what a write leaves of it.
use Rattle.std.specs.Prelude.{◌≡◌, ℕ, ◌+◌, ◌≤◌, Bool, List, Option, None, Some, Result, Ok, Err, IfSome, length, take, slice_range, option_map}
use Rattle.base_core.specs.Bytes.{overwritten}

-- bytes that aren't told
abbrev pub untold : Option (List ℕ)
untold = None

-- how many bytes a file has, where it says its position and its bytes
abbrev pub size_of : Option ℕ → Option (List ℕ) → Option ℕ
size_of None bytes = None
size_of (Some position) None = None
size_of (Some position) (Some bytes) = Some (length bytes)

-- told bytes, with these written over them from a place on
abbrev pub written_over : ℕ → List ℕ → Option (List ℕ) → Option (List ℕ)
written_over at bytes told = option_map (overwritten at bytes) told

-- so many bytes from a place on lie in a file of these bytes
abbrev pub Lies : ℕ → ℕ → List ℕ → Type 0
Lies at n all = at + n ≤ length all

-- told bytes hold these from a place on
abbrev pub HoldsAt : ℕ → List ℕ → Option (List ℕ) → Type 0
HoldsAt at bytes told = IfSome told (λ all. Lies at (length bytes) all × (bytes ≡ slice_range all at (at + length bytes)))

-- all of these bytes were written, or after an error so many of the first
abbrev pub WritesBytes : {T E : Type 0} → Result T E → ℕ → List ℕ → Option (List ℕ) → Option (List ℕ) → Type 0
WritesBytes (Ok _) at bytes old new = new ≡ written_over at bytes old
WritesBytes (Err _) at bytes old new = (n : ℕ) × (new ≡ written_over at (take n bytes) old)

-- Where the file tells it, a call fails exactly where this is told.
abbrev pub FailsAs : Option Bool → Bool → Type 0
FailsAs told failed = IfSome told (λ fails. failed ≡ fails)

-- So does a call on a range that lies in the told bytes.
abbrev pub FailsWithin : Option Bool → Option (List ℕ) → ℕ → ℕ → Bool → Type 0
FailsWithin told content at n failed = IfSome content (λ all. Lies at n all → FailsAs told failed)
