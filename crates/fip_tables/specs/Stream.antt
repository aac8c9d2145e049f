-- What a reader of a package's front holds, after the bytes so far.
use Rattle.std.specs.Prelude.{◌≡◌, ◌≢◌, ◌≤◌, ◌<◌, ◌+◌, ◌*◌, ℕ, List, [], ◌++◌, Result, Ok, Err, length, take, drop}
use Rattle.base_core.specs.Bytes.{num_at}
use Rattle.fwu_formats.specs.Package.{Entry, Toc, fip_name, entry_limit, entries_from, toc_of}
use Rattle.fwu_formats.specs.declared.kinds.FipFault.{FipFault}
use Rattle.fwu_formats.specs.declared.kinds.FipFault.TheVariants.{BadName, ZeroSerial}
use Rattle.fip_tables.specs.{Answers.lasting, declared.reader.Stage.Stage}
use Rattle.fip_tables.specs.declared.reader.Stage.TheVariants.{Header, Table, Whole, Faulty}

-- a reader of a table: how far it is, the bytes that it holds back, and the table so far
pub record Reader : Type 0 where
  pub stage : Stage
  pub pending : List ℕ
  pub toc : Toc

-- a stream: its reader, and the number of all bytes so far
pub record Stream : Type 0 where
  pub reader : Reader
  pub count : ℕ

-- the entry whose bytes begin at a place
abbrev pub entry_from : List ℕ → ℕ → Entry
entry_from bytes at = record {
  guid = take 16 (drop at bytes);
  offset = num_at 8 bytes (at + 16);
  size = num_at 8 bytes (at + 24);
  flags = num_at 8 bytes (at + 32);
}

-- the serial number and the flags of a header's sixteen bytes, or the first fault
abbrev pub IsHeaderOf : List ℕ → Result (ℕ × ℕ) FipFault → Type 0
IsHeaderOf header (Ok found) =
    (num_at 4 header 0 ≡ fip_name) × (num_at 4 header 4 ≢ 0) × (found.0 ≡ num_at 4 header 4) × (found.1 ≡ num_at 8 header 8)
IsHeaderOf header (Err BadName) = num_at 4 header 0 ≢ fip_name
IsHeaderOf header (Err ZeroSerial) = (num_at 4 header 0 ≡ fip_name) × (num_at 4 header 4 ≡ 0)
IsHeaderOf header (Err _) = ⊥

pub record HasHeader (bytes : List ℕ) (toc : Toc) : Type 0 where
  pub long : 16 ≤ length bytes
  pub name : num_at 4 bytes 0 ≡ fip_name
  pub some : num_at 4 bytes 4 ≢ 0
  pub serial : toc.serial ≡ num_at 4 bytes 4
  pub flags : toc.flags ≡ num_at 8 bytes 8

-- whatever follows the bytes, its table begins with these entries
abbrev pub HasTableFront : List ℕ → List Entry → Type 0
HasTableFront bytes front =
    (rest : List ℕ) (left : ℕ) → length front + left ≡ entry_limit
    → entries_from (bytes ++ rest) [] 0 entry_limit ≡ entries_from (bytes ++ rest) front (length front) left

-- the header and the first entries are read, and the bytes behind them are held back
pub record IsAmongEntries (toc : Toc) (pending bytes : List ℕ) : Type 0 where
  pub header : HasHeader bytes toc
  pub few : length toc.entries ≤ entry_limit
  pub begins : HasTableFront bytes toc.entries
  pub place : 16 + 40 * length toc.entries ≤ length bytes
  pub rest : pending ≡ drop (16 + 40 * length toc.entries) bytes

-- whatever follows the bytes, these are the entries of its table
pub record IsPastMarker (toc : Toc) (bytes : List ℕ) : Type 0 where
  pub header : HasHeader bytes toc
  pub entries : (rest : List ℕ) → entries_from (bytes ++ rest) [] 0 entry_limit ≡ Ok toc.entries

-- whatever follows the bytes, this is its first fault
pub record HasLastingFault (fault : FipFault) (bytes : List ℕ) : Type 0 where
  pub first : (rest : List ℕ) → toc_of (bytes ++ rest) ≡ Err fault
  pub lasts : lasting fault ≡ Err fault

-- what the reader holds, by how far it is
abbrev pub ReaderHoldsAt : Stage → Toc → List ℕ → List ℕ → Type 0
ReaderHoldsAt Header toc pending bytes = (pending ≡ bytes) × (toc.entries ≡ [])
ReaderHoldsAt Table toc pending bytes = IsAmongEntries toc pending bytes
ReaderHoldsAt Whole toc pending bytes = IsPastMarker toc bytes
ReaderHoldsAt (Faulty f) toc pending bytes = HasLastingFault f bytes

abbrev pub ReaderHolds : Reader → List ℕ → Type 0
ReaderHolds r bytes = ReaderHoldsAt r.stage r.toc r.pending bytes

-- a group is what is read at once: the header's 16 bytes, or the 40 of an entry
abbrev pub group_size : Stage → ℕ
group_size Header = 16
group_size at = 40

abbrev pub IsGroup : Stage → List ℕ → Type 0
IsGroup at bytes = length bytes ≡ group_size at

-- no whole group is held back
abbrev pub HoldsPartOfGroup : Reader → Type 0
HoldsPartOfGroup r = length r.pending < group_size r.stage

-- more of the table is to be read
abbrev pub ReadsOn : Stage → Type 0
ReadsOn Header = Unit {0}
ReadsOn Table = Unit {0}
ReadsOn Whole = ⊥
ReadsOn (Faulty f) = ⊥

-- the fault that was met
abbrev pub met : Stage → Result (Unit {0}) FipFault
met (Faulty f) = Err f
met at = Ok tt

-- the end marker was fed, and no fault before it
abbrev pub IsWholeStream : Stream → Type 0
IsWholeStream s = s.reader.stage ≡ Whole

-- The stream was given these bytes. Of those that it was told to skip nothing but their number counts.
pub record Fed (s : Stream) (bytes : List ℕ) : Type 0 where
  pub count : s.count ≡ length bytes
  pub holds : ReaderHolds s.reader bytes
