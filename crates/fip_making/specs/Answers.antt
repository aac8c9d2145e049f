-- What a part of a command answers that reads alone, or that asks for nothing outside, and what it leaves.
use Rattle.std.specs.Prelude.{◌≡◌, ◌≢◌, ◌⊎◌, ◌+◌, ◌≤◌, ⊤, ℕ, List, ◌++◌, Option, Some, None, Result, Ok, Err, IfErr, length}
use Rattle.std.specs.Io.KnownBytes.{Consumes, IsAtEnd}
use Rattle.base_core.specs.Counts.{Rose}
use Rattle.fwu_formats.specs.Package.{toc_of}
use Rattle.fip_tables.specs.{Answers.decided, Stream.Fed, Stream.Stream}
use Rattle.host_io.specs.{Access.Access, Access.Asks, Calls.raised, Contents.Directory, Once.ReadsOnce, Reads.ReadsFiles}
use Rattle.host_io.specs.declared.files.Files as files
use Rattle.host_io.specs.declared.source.Source as source
use Rattle.fip_making.specs.{Stops.IsOfSource, Values.GivenTo, declared.stops.Stop.Stop}
use Rattle.fip_making.specs.declared.stops.Stop.TheVariants as stop

-- What a part of a command answers, of a value that the files determine.
abbrev pub Gives : {X Y : Type 0} → (X → Y) → Type 0 → Result Y Stop → Result X Stop → Type 0
Gives view files-rose value (Ok x) = value ≡ Ok (view x)
Gives view files-rose value (Err stop.NoMemory) = ⊤
Gives view files-rose value (Err stop.SinkFault) = ⊥
Gives view files-rose value (Err stop.FileFault) = (value ≡ Err stop.FileFault) ⊎ files-rose
Gives view files-rose value (Err s) = value ≡ Err s

-- no call of the files failed in a part of a command that ended so, unless it ended for a file's fault
abbrev pub NoneFailed : {X : Type 0} → Result X Stop → ℕ → ℕ → Type 0
NoneFailed (Err stop.FileFault) before after = ⊤
NoneFailed result before after = after ≡ before

-- A part that reads alone answers, over files that tell nothing, that a file failed only where faults rose. It doesn't answer that
-- the sink failed. At most one call of the files fails.
pub record ReadsOnly {X : Type 0} (told : Option Directory) (before after : ℕ) (result : Result X Stop) : Type 0 where
  pub once : after ≤ before + 1
  pub quiet : NoneFailed result before after
  pub cause : result ≡ Err stop.FileFault → told ≡ None → Rose before after
  pub sink : result ≡ Err stop.SinkFault → ⊥

-- a part that asks for nothing outside answers neither that a file failed, nor that the sink did
pub record AsksNothing {X : Type 0} (IsOwn : Stop → Type 0) (result : Result X Stop) : Type 0 where
  pub file : result ≡ Err stop.FileFault → ⊥
  pub sink : result ≡ Err stop.SinkFault → ⊥
  -- it ends with a stop of its own
  pub refusals : IfErr result IsOwn

-- how many calls of the source have failed after a listing of it that ended so: one more where it could not be read, and else as
-- many as before
abbrev pub source_failed : Stop → ℕ → ℕ
source_failed stop.FileFault before = raised before
source_failed s before = before

abbrev pub source_failures : {X : Type 0} → Result X Stop → ℕ → ℕ
source_failures (Ok x) before = before
source_failures (Err s) before = source_failed s before

-- ---- as files and a source tell it

-- A word `GivenToIn` is `GivenTo` with what those tell and count: it takes how their types tell it, and each of them before and
-- after.

-- where files are told, a part that reads them alone answers of a value that they determine
abbrev pub AsTold : {H X Y : Type 0} → files.Ghosts H → (Directory → X → Y) → (Directory → Result Y Stop) → H → H → Result X Stop
    → Type 0
AsTold h view value old new result =
    (told : Directory) → h.contents old ≡ Some told → Gives (view told) (Rose (h.faults old) (h.faults new)) (value told) result

-- What a part of a command leaves that reads files alone, and how it may end, whatever files they are.
pub record ReadsFilesAlone {H X : Type 0} (h : files.Ghosts H) (IsOther : Access → Type 0) (IsOwn : Stop → Type 0)
    (old new : H) (result : Result X Stop) : Type 0 where
  pub only : ReadsOnly (h.contents old) (h.faults old) (h.faults new) result
  -- no other access is made
  pub files : ReadsFiles h IsOther old new
  -- it ends with a stop of its own
  pub refusals : IfErr result IsOwn

-- and it asks for the file of this name alone
abbrev pub ReadsOne : {H X : Type 0} → files.Ghosts H → List ℕ → (Stop → Type 0) → H → H → Result X Stop → Type 0
ReadsOne h name IsOwn old new result = ReadsFilesAlone h (λ access. access ≢ Asks name) IsOwn old new result

-- The source gave a piece after what it had given, and the stream was fed it. None only at the end.
abbrev pub FedSome : Stream → List ℕ → List ℕ → Option (List ℕ) → Option (List ℕ) → Type 0 → Result ℕ Stop → Type 0
FedSome stream given piece was left source-rose (Ok n) =
    Consumes was left piece × (length piece ≡ n) × (n ≡ 0 → IsAtEnd left) × Fed stream (given ++ piece)
    × (decided (toc_of (given ++ piece)) ≡ Ok tt)
FedSome stream given piece was left source-rose (Err (stop.NotFip f)) =
    Consumes was left piece × (length piece ≤ 4096) × (decided (toc_of (given ++ piece)) ≡ Err f)
FedSome stream given piece was left source-rose (Err stop.FileFault) = Consumes was left piece × (length piece ≤ 4096) × source-rose
FedSome stream given piece was left source-rose (Err s) = ⊥

abbrev pub GivenToIn : {I X Y : Type 0} → source.Ghosts I → (X → Y) → (List ℕ → Result Y Stop) → I → I → Result X Stop → List ℕ
    → Type 0
GivenToIn i view value old new result given =
    GivenTo view value (i.left old) (i.left new) (Rose (i.faults old) (i.faults new)) result given

-- What a part of a command that reads the source alone leaves of it, and how it may end, whatever source it is.
pub record ReadsGiven {I X : Type 0} (i : source.Ghosts I) (old new : I) (result : Result X Stop) : Type 0 where
  -- no read is made behind one that gave no bytes or failed
  pub once : ReadsOnce i old new
  pub later : i.faults old ≤ i.faults new
  pub count : i.faults new ≡ source_failures result (i.faults old)
  pub sink : result ≡ Err stop.SinkFault → ⊥
  pub refusals : IfErr result IsOfSource
