-- What the ranges say that are read of a capsule: the first 28 bytes, the eight of the payloads' header, and the first 32 of an
-- item.
use Rattle.std.specs.Prelude.{◌≡◌, ◌<◌, ◌≤◌, ◌⊎◌, All, ℕ, ◌+◌, not, ◌==◌, nat_lt, nat_le, ◌&&◌, if◌then◌else◌, List, length, take, drop, Option, Some, None, Result, Ok, Err}
use Rattle.base_core.specs.Bytes.{num_at, same_bytes}
use Rattle.fwu_formats.specs.{Package.Entry, Package.Toc, Package.entry_limit, declared.kinds.CapsuleFault.CapsuleFault}
use Rattle.fwu_formats.specs.Capsule.{Item, Shape, entry_in, entry_of_item, fmp_guid, head_size, is_item, item_at, item_place, places_end, swapped}
use Rattle.fwu_formats.specs.declared.kinds.CapsuleFault.TheVariants as fault
use Rattle.capsule_tables.specs.{Answers.IsCapsuleAnswer, declared.faults.CapsuleStop.CapsuleStop}
use Rattle.capsule_tables.specs.declared.faults.CapsuleStop.TheVariants.{Fault, ReadFailed}

-- where the payloads' header stands and where the capsule ends, in a file of so many bytes
abbrev pub header_read : List ℕ → ℕ → Result (ℕ × ℕ) CapsuleFault
header_read head size =
    let header = num_at 4 head 16 in
    let end = num_at 4 head 24 in
    if not (same_bytes (take 16 head) (swapped fmp_guid)) then Err fault.NotFmp
    else if not (nat_le 28 header && nat_le header end && nat_le end size) then Err fault.BadSize
    else if nat_lt end (header + 8) then Err fault.ShortFmp
    else Ok (header, end)

abbrev pub shape_read : ℕ → ℕ → List ℕ → Result Shape CapsuleFault
shape_read header end fields =
    let s : Shape = record { header = header; end = end; drivers = num_at 2 fields 4; items = num_at 2 fields 6 } in
    if not (num_at 4 fields 0 == 1) then Err fault.BadVersion
    else if nat_lt entry_limit s.items then Err fault.TooMany
    else if nat_lt end (places_end s) then Err fault.ShortFmp
    else Ok s

-- the entry of an item at a place, where it is none of a bad one
abbrev pub item_read : Shape → ℕ → List ℕ → Option Entry
item_read s at head =
    let version = num_at 4 head 0 in
    let item : Item = record {
      version = version;
      guid = swapped (take 16 (drop 4 head));
      image = at + head_size version;
      size = num_at 4 head 24;
      vendor = num_at 4 head 28;
    } in
    if is_item s at item then Some (entry_of_item item) else None

-- the entry of item i, where it is none of a bad one
abbrev pub good_entry : List ℕ → Shape → ℕ → Option Entry
good_entry bytes s i =
    let at = item_place bytes s i in
    if is_item s at (item_at bytes at) then Some (entry_in bytes s i) else None

-- the headers are those of a capsule that a file of so many bytes may have
pub record FitsFile (s : Shape) (size : ℕ) : Type 0 where
  pub places : places_end s ≤ s.end
  pub within : s.end ≤ size
  pub small : s.end < 4294967296
  pub few : s.items ≤ entry_limit

-- ---- the answer by what was read, on any files

abbrev pub then_shape : Result (ℕ × ℕ) CapsuleFault → List ℕ → Result Shape CapsuleFault
then_shape (Ok h) fields = shape_read h.0 h.1 fields
then_shape (Err f) fields = Err f

-- what the headers say that were read of a file of so many bytes
abbrev pub headers_read : ℕ → List ℕ → List ℕ → Result Shape CapsuleFault
headers_read size head fields = if nat_lt size 28 then Err fault.ShortHeader else then_shape (header_read head size) fields

-- some size and some headers give this
pub record IsOfHeaders (result : Result Shape CapsuleStop) : Type 0 where
  pub size : ℕ
  pub head : List ℕ
  pub fields : List ℕ
  pub answer : IsCapsuleAnswer result (headers_read size head fields)

-- some place and some 32 bytes there give this entry
pub record IsRead (s : Shape) (e : Entry) : Type 0 where
  pub at : ℕ
  pub head : List ℕ
  pub is : item_read s at head ≡ Some e

-- As many entries as there are items, each of which some bytes give; or a fault of an item that there is, and no first one is a
-- duplicate.
abbrev pub IsOfItems : Shape → Result (List Entry) CapsuleStop → Type 0
IsOfItems s (Ok entries) = (length entries ≡ s.items) × All (IsRead s) entries
IsOfItems s (Err (Fault (fault.BadItem i))) = i < s.items
IsOfItems s (Err (Fault (fault.Duplicate i))) = (0 < i) × (i < s.items)
IsOfItems s (Err (Fault f)) = ⊥
IsOfItems s (Err ReadFailed) = Unit {0}

-- a table is of headers and of items that were read, and a fault is of the one or of the other
abbrev pub IsOfReads : Result Toc CapsuleStop → Type 0
IsOfReads (Ok toc) = (s : Shape) × IsOfHeaders (Ok s) × IsOfItems s (Ok toc.entries)
IsOfReads (Err stop) = IsOfHeaders (Err stop) ⊎ ((s : Shape) × IsOfHeaders (Ok s) × IsOfItems s (Err stop))
