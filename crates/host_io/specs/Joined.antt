-- Files that are made of a frame and of pieces of files.
use Rattle.std.specs.Prelude.{◌≡◌, ◌≢◌, ⊤, ℕ, List, [], ◌∷◌, ◌++◌, Option, Some, None, drop, length, map, take, unwrap_or}
use Rattle.std.specs.Io.KnownBytes.{Appends}
use Rattle.std.specs.List.{All}
use Rattle.host_io.specs.{Access.Access, Access.Asks, Contents.Directory, Contents.HasRange, Contents.Holds, declared.joining.Piece.Piece}

-- bytes that stand behind so many more of the frame
pub record Chunk : Type 0 where
  pub gap : ℕ
  pub bytes : List ℕ

-- the chunks one after the other, each behind the next bytes of the frame, and last what is left of the frame
abbrev pub joined : List ℕ → List Chunk → List ℕ
joined frame [] = frame
joined frame (c ∷ cs) = take c.gap frame ++ (c.bytes ++ joined (drop c.gap frame) cs)

-- told contents have the piece's bytes
abbrev pub HasPiece : Option Directory → Piece → Type 0
HasPiece told p = HasRange told p.file.now p.at p.count

-- the access asks for no file in which one of the pieces lies
abbrev pub AsksNoPiece : List Piece → Access → Type 0
AsksNoPiece pieces access = All (λ p. access ≢ Asks p.file.now) pieces

-- the piece with the bytes that files have of it
abbrev pub chunk_in : Directory → Piece → Chunk
chunk_in files p = record { gap = p.gap; bytes = take p.count (drop p.at (unwrap_or (files p.file.now) [])) }

-- the file holds the frame with the pieces that the files had
abbrev pub HoldsJoined : Option Directory → Option Directory → List ℕ → List ℕ → List Piece → Type 0
HoldsJoined None now name frame pieces = ⊤
HoldsJoined (Some files) now name frame pieces = Holds now name (joined frame (map (chunk_in files) pieces))

-- ---- what is written for a file that is made, to a writer that tells its bytes

-- so many bytes were appended; no more is known of them
pub record AppendsSome (before after : Option (List ℕ)) (count : ℕ) : Type 0 where
  pub bytes : List ℕ
  pub size : length bytes ≡ count
  pub added : Appends before after bytes

-- and before them the next bytes of the frame
pub record AppendsPiece (before after : Option (List ℕ)) (frame : List ℕ) (p : Piece) : Type 0 where
  pub bytes : List ℕ
  pub size : length bytes ≡ p.count
  pub added : Appends before after (take p.gap frame ++ bytes)

-- the frame with the pieces between its bytes, each with its gap and so many bytes
pub record AppendsJoined (before after : Option (List ℕ)) (frame : List ℕ) (pieces : List Piece) : Type 0 where
  pub chunks : List Chunk
  pub gaps : map (λ c. c.gap) chunks ≡ map (λ p. p.gap) pieces
  pub sizes : map (λ c. length c.bytes) chunks ≡ map (λ p. p.count) pieces
  pub added : Appends before after (joined frame chunks)
