-- A package in a file whose bytes may be told.
use Rattle.std.specs.Prelude.{◌≡◌, ◌⊎◌, ◌+◌, ◌≤◌, ◌<◌, ◌^◌, ℕ, List, Option, Some, None, Result, Ok, Err, OnOk, length, take}
use Rattle.base_core.specs.Counts.{Rose}
use Rattle.host_io.specs.Contents.{Directory}
use Rattle.fwu_formats.specs.{Package.Toc, Package.toc_of, declared.kinds.FipFault.FipFault}
use Rattle.fip_tables.specs.{Stream.Fed, Stream.Stream, declared.toc.TocStop.TocStop}
use Rattle.fip_tables.specs.declared.toc.TocStop.TheVariants.{Fault, ReadFailed}

-- the told contents have these bytes under the name
abbrev pub Tells : Option Directory → List ℕ → List ℕ → Type 0
Tells None name bytes = ⊥
Tells (Some files) name bytes = files name ≡ Some bytes

-- the told contents lack the name
abbrev pub Lacks : Option Directory → List ℕ → Type 0
Lacks None name = ⊥
Lacks (Some files) name = files name ≡ None

-- what is answered is the table, or the first fault, unless the file could not be read
abbrev pub IsTocAnswer : Result Toc TocStop → Result Toc FipFault → Type 0
IsTocAnswer (Ok toc) answer = answer ≡ Ok toc
IsTocAnswer (Err (Fault f)) answer = answer ≡ Err f
IsTocAnswer (Err ReadFailed) answer = Unit {0}

-- Some bytes have this answer: so a table that is read is one of a package, whatever file gave it.
pub record IsOfSome (result : Result Toc TocStop) : Type 0 where
  pub bytes : List ℕ
  pub short : length bytes < 2 ^ 64
  pub answer : IsTocAnswer result (toc_of bytes)

-- a reading fails only where the files' faults rose, by one at most, or told files lack the name
pub record HasReadCause {T : Type 0} (told : Option Directory) (name : List ℕ) (before now : ℕ)
    (result : Result T TocStop) : Type 0 where
  pub later : before ≤ now
  pub once : now ≤ before + 1
  pub done : OnOk result (now ≡ before)
  pub fault : (f : FipFault) → result ≡ Err (Fault f) → now ≡ before
  pub failed : result ≡ Err ReadFailed → Rose before now ⊎ Lacks told name

-- the fault is the first one of the file's bytes where they are told, and of some bytes in any case
pub record IsTableFault (told : Option Directory) (name : List ℕ) (f : FipFault) : Type 0 where
  pub bytes : List ℕ
  pub short : length bytes < 2 ^ 64
  pub first : toc_of bytes ≡ Err f
  pub told_first : (whole : List ℕ) → Tells told name whole → toc_of whole ≡ Err f

-- the stream was given so many bytes, the front of the file's where these are told
pub record HasFed (told : Option Directory) (name : List ℕ) (stream : Stream) (at : ℕ) : Type 0 where
  pub bytes : List ℕ
  pub fed : Fed stream bytes
  pub size : length bytes ≡ at
  pub front : (whole : List ℕ) → Tells told name whole → bytes ≡ take at whole

-- the stream was given so many bytes, all of the file's where these are told
pub record HasFedAll (told : Option Directory) (name : List ℕ) (stream : Stream) (at : ℕ) : Type 0 where
  pub bytes : List ℕ
  pub fed : Fed stream bytes
  pub size : length bytes ≡ at
  pub all : (whole : List ℕ) → Tells told name whole → Fed stream whole
