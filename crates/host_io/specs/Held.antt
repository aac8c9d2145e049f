-- What is seen of the objects in memory.
use Rattle.std.specs.Prelude.{◌≡◌, ℕ, List, Option, Some, Result}
use Rattle.host_io.specs.{Calls.Calls, Causes.CountsCall, Contents.Directory, Contents.bytes_in, declared.writes.Writes.Writes}

-- a source: the bytes that are left
pub record HeldSource : Type 0 where
  pub left : List ℕ
  pub calls : Calls

-- a sink: the bytes that it has
pub record HeldSink : Type 0 where
  pub taken : List ℕ
  pub calls : Calls

-- files: names with their bytes, of which the first of a name counts, and how many were written
pub record HeldFiles : Type 0 where
  pub files : List (List ℕ × List ℕ)
  pub calls : Calls
  pub writes : Writes

-- the bytes of each name
abbrev pub told : HeldFiles → Option Directory
told held = Some (bytes_in held.files)

-- a call that only reads them: it fails exactly where it is listed
pub record ReadsHeld {T E : Type 0} (result : Result T E) (old new : HeldFiles) : Type 0 where
  pub same : told new ≡ told old
  pub unwritten : new.writes ≡ old.writes
  pub call : CountsCall result old.calls new.calls

-- an adapter: the reader or the writer that it goes to, and how many calls failed
pub record Adapted (T : Type 0) : Type 0 where
  pub inner : T
  pub faults : ℕ

-- an adapter of files: those of the system that it goes to, how many calls failed, and how many files were written
pub record AdaptedFiles (T : Type 0) : Type 0 where
  pub inner : T
  pub faults : ℕ
  pub writes : Writes
