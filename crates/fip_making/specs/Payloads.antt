-- The payloads of a package or a capsule to come, and what told files have of them. What is made of them asks for no file.
use Rattle.std.specs.Prelude.{◌≡◌, ◌≢◌, ℕ, List, [], Option, Some, Result, IfOk, length, map, take, drop, replicate, unwrap_or}
use Rattle.std.specs.List.{All, zip}
use Rattle.host_io.specs.{Access.Access, Access.Asks, Contents.Directory, Contents.HasRange, declared.joining.Piece.Piece}
use Rattle.host_io.specs.Joined.{AsksNoPiece, HasPiece, chunk_in, joined}
use Rattle.fip_tables.specs.declared.frame.Frame.{Frame}
use Rattle.fwu_formats.specs.Package.{Entry, Part}
use Rattle.fip_making.specs.{Answers.AsksNothing, Answers.Gives, Stops.IsLate, Stops.PackingOr, declared.made.Made.Made}
use Rattle.fip_making.specs.{declared.payloads.Payload.Payload, declared.stops.Stop.Stop}

-- the bytes of a file, by the files, and none of one that isn't there
abbrev pub file_bytes : Directory → List ℕ → List ℕ
file_bytes files name = unwrap_or (files name) []

-- the part that a payload is, by the files
abbrev pub part_told : Directory → Payload → Part
part_told files p = record { guid = p.guid; flags = p.flags; bytes = take p.size (drop p.at (file_bytes files p.file.now)) }

-- the part with zeros in place of its bytes
abbrev pub outline_of : Payload → Part
outline_of p = record { guid = p.guid; flags = p.flags; bytes = replicate p.size 0 }

-- told files have the payload's bytes
abbrev pub IsThere : Option Directory → Payload → Type 0
IsThere told p = HasRange told p.file.now p.at p.size

-- it asks for no file in which one of these payloads lies
abbrev pub IsElsewhere : List Payload → Access → Type 0
IsElsewhere ps access = All (λ p. access ≢ Asks p.file.now) ps

-- told files have the entry's payload
abbrev pub HasEntry : Option Directory → List ℕ → Entry → Type 0
HasEntry told name e = HasRange told name e.offset e.size

-- the piece of a file that a payload is, behind a gap
abbrev pub payload_piece : ℕ → Payload → Piece
payload_piece gap p = record { gap = gap; file = p.file; at = p.at; count = p.size }

-- the payloads as pieces, each behind its gap
abbrev pub payload_pieces : List ℕ → List Payload → List Piece
payload_pieces gaps ps = map (λ x. payload_piece x.0 x.1) (zip gaps ps)

-- a frame with these payloads between its bytes
pub record IsMadeOf (frame : Frame) (ps : List Payload) (m : Made) : Type 0 where
  pub count : m.count ≡ length ps
  pub frame_is : m.frame ≡ frame
  pub pieces : m.pieces.items ≡ payload_pieces frame.gaps.items ps

-- a frame with the pieces between its bytes that files have
abbrev pub joined_pieces : Directory → List ℕ → List Piece → List ℕ
joined_pieces files frame pieces = joined frame (map (chunk_in files) pieces)

-- the bytes of a file that is to be made, by the files that its pieces are of
abbrev pub made_bytes : Directory → Made → List ℕ
made_bytes files m = joined_pieces files m.frame.bytes.items m.pieces.items

-- and how many payloads it has
abbrev pub made_by : Directory → Made → ℕ × List ℕ
made_by files m = (m.count, made_bytes files m)

-- Told files have all its pieces, of which it has as many as it says, and it will be as long as its frame says.
pub record IsWholeFile (told : Option Directory) (m : Made) : Type 0 where
  pub counted : m.count ≡ length m.pieces.items
  pub there : All (HasPiece told) m.pieces.items
  pub sized : (files : Directory) → told ≡ Some files → m.frame.size ≡ length (made_bytes files m)

-- it has no piece of a file that such an access asks for
abbrev pub HasNoPieceOf : (Access → Type 0) → Made → Type 0
HasNoPieceOf IsOther m = (access : Access) → IsOther access → AsksNoPiece m.pieces.items access

-- A file of so many payloads is made, or it is said why none is. `HasAll` is for files that have the payloads, and `IsOther` for
-- accesses to others.
pub record MakesFile (HasAll : Option Directory → Type 0) (IsOther : Access → Type 0)
    (value : Directory → Result (ℕ × List ℕ) Stop) (number : ℕ) (result : Result Made Stop) : Type 0 where
  -- by files that have them, what is made, or why nothing is
  pub told : (told : Directory) → HasAll (Some told) → Gives (made_by told) ⊥ (value told) result
  pub whole : (told : Option Directory) → HasAll told → IfOk result (IsWholeFile told)
  pub count : IfOk result (λ m. m.count ≡ number)
  pub pieces : IfOk result (HasNoPieceOf IsOther)
  pub asks : AsksNothing (PackingOr IsLate) result
