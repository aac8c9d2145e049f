-- What files and sinks hold, where they tell it.
use Rattle.std.specs.Prelude.{◌≡◌, ◌≢◌, ◌≤◌, ◌+◌, ℕ, ⊤, List, [], ◌∷◌, ◌++◌, Option, Some, None, IsSome, IfSome, IsSomeAnd, if◌then◌else◌, length, take, drop, map, option_map, MatchResult, Result, String, Vec, string_bytes}
use Rattle.std.specs.Global.{Global}
use Rattle.std.specs.Str.{bytes_eq}
use Rattle.std.specs.Io.KnownBytes.{Appends}
use Rattle.host_io.specs.declared.stops.WriteStop.{WriteStop}
use Rattle.host_io.specs.declared.stops.WriteStop.TheVariants.{Failed, NoMemory}

-- the bytes of the file of a name, where there is one
abbrev pub Directory : Type 0
Directory = List ℕ → Option (List ℕ)

-- the size of a file: none exactly where the contents are told and lack the name
abbrev pub TellsSize : Option Directory → List ℕ → Option ℕ → Type 0
TellsSize None name size = IsSome size
TellsSize (Some files) name size = size ≡ option_map length (files name)

-- told contents have the file, and the range lies in it
abbrev pub HasRange : Option Directory → List ℕ → ℕ → ℕ → Type 0
HasRange None name at count = ⊤
HasRange (Some files) name at count = IsSomeAnd (files name) (λ bytes. at + count ≤ length bytes)

-- these are the file's bytes from a place on
abbrev pub TellsRange : Option Directory → List ℕ → ℕ → List ℕ → Type 0
TellsRange None name at out = ⊤
TellsRange (Some files) name at out = IfSome (files name) (λ bytes. out ≡ take (length out) (drop at bytes))

-- a range of the file's bytes was put behind the old ones; of a file that isn't told it's so many bytes, and no more is known
pub record AddsRange (files : Option Directory) (name : List ℕ) (at count : ℕ) (old new : List ℕ) : Type 0 where
  pub piece : List ℕ
  pub size : length piece ≡ count
  pub range : TellsRange files name at piece
  pub added : new ≡ old ++ piece

-- told contents stay at every other name, and those that aren't told stay so
abbrev pub ChangesOnly : Option Directory → Option Directory → List ℕ → Type 0
ChangesOnly None new name = new ≡ None
ChangesOnly (Some old) None name = ⊥
ChangesOnly (Some old) (Some new) name = (other : List ℕ) → other ≢ name → new other ≡ old other

-- and the file holds these bytes
abbrev pub Holds : Option Directory → List ℕ → List ℕ → Type 0
Holds None name bytes = ⊤
Holds (Some files) name bytes = files name ≡ Some bytes

-- a put that stopped took a front of the piece, or for want of memory nothing
abbrev pub StopsAt : WriteStop → Option (List ℕ) → Option (List ℕ) → List ℕ → Type 0
StopsAt Failed old new piece = (n : ℕ) × Appends old new (take n piece)
StopsAt NoMemory old new piece = new ≡ old

-- what a put with this result took: all of the piece, or what one that stopped takes
abbrev pub TakesBytes : {T : Type 0} → Result T WriteStop → Option (List ℕ) → Option (List ℕ) → List ℕ → Type 0
TakesBytes result old new piece = MatchResult result (λ _. Appends old new piece) (λ stopped. StopsAt stopped old new piece)

-- the files of a list of names with their bytes, where the first of a name counts
abbrev pub bytes_in : List (List ℕ × List ℕ) → Directory
bytes_in [] name = None
bytes_in (f ∷ fs) name = if bytes_eq f.0 name then Some f.1 else bytes_in fs name

-- the place of a name, or the length of the list
abbrev pub place_in : List (List ℕ × List ℕ) → List ℕ → ℕ
place_in [] name = 0
place_in (f ∷ fs) name = if bytes_eq f.0 name then 0 else place_in fs name + 1

-- the names and bytes of files in memory
abbrev pub name_and_bytes : String Global × Vec ℕ Global → List ℕ × List ℕ
name_and_bytes file = (string_bytes file.0, file.1.items)

abbrev pub pairs_of : List (String Global × Vec ℕ Global) → List (List ℕ × List ℕ)
pairs_of = map name_and_bytes
