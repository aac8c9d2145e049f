-- Firmware management capsules (UEFI): a header, at its size the header of the payloads, behind it the places of drivers and items,
-- and the items themselves.
use Rattle.std.specs.Prelude.{ℕ, ◌+◌, ◌*◌, Bool, not, ◌&&◌, ◌==◌, nat_lt, nat_le, if◌then◌else◌, List, [], ◌∷◌, ◌++◌, length, take, drop, reverse, Option, Some, None, Result, Ok, Err}
use Rattle.std.specs.List.{list_any}
use Rattle.base_core.specs.{Bytes.listed, Bytes.num_at, Bytes.part, Bytes.same_bytes, Guid.nil_guid}
use Rattle.fwu_formats.specs.Package.{Entry, Toc, entry_limit, has_guid}
use Rattle.fwu_formats.specs.declared.kinds.CapsuleFault.{CapsuleFault}
use Rattle.fwu_formats.specs.declared.kinds.CapsuleFault.TheVariants as fault

-- a UUID as it stands in a capsule: its first three fields, of four, two and two bytes, are little-endian
abbrev pub swapped : List ℕ → List ℕ
swapped guid = reverse (part guid 0 4) ++ reverse (part guid 4 6) ++ reverse (part guid 6 8) ++ drop 8 guid

-- 6dcbd5ed-e82d-4c44-bda1-7194199ad92a
abbrev pub fmp_guid : List ℕ
fmp_guid = 0x6D ∷ 0xCB ∷ 0xD5 ∷ 0xED ∷ 0xE8 ∷ 0x2D ∷ 0x4C ∷ 0x44 ∷ 0xBD ∷ 0xA1 ∷ 0x71 ∷ 0x94 ∷ 0x19 ∷ 0x9A ∷ 0xD9 ∷ 0x2A ∷ []

-- whether a file begins with the UUID of these capsules
abbrev pub is_capsule : List ℕ → Bool
is_capsule bytes = same_bytes (take 16 bytes) (swapped fmp_guid)

-- the serial number that a capsule's table has
abbrev pub usual_serial : ℕ
usual_serial = 0x12345678

-- ---- the headers

-- where the payloads' header stands and where the capsule ends, both from the file's first byte, and how many drivers and items it
-- has
pub record Shape : Type 0 where
  pub header : ℕ
  pub end : ℕ
  pub drivers : ℕ
  pub items : ℕ

-- what the headers say
abbrev pub shape_in : List ℕ → Shape
shape_in bytes =
    let header = num_at 4 bytes 16 in
    record {
      header = header;
      end = num_at 4 bytes 24;
      drivers = num_at 2 bytes (header + 4);
      items = num_at 2 bytes (header + 6);
    }

-- behind the payloads' header stand the places of the drivers and of the items, each of eight bytes
abbrev pub places_end : Shape → ℕ
places_end s = s.header + 8 + 8 * (s.drivers + s.items)

-- the header has its 28 bytes and ends within the capsule, and this within the file
abbrev pub has_sizes : Shape → ℕ → Bool
has_sizes s size = nat_le 28 s.header && nat_le s.header s.end && nat_le s.end size

-- what the headers say, or the first fault of them
abbrev pub checked : List ℕ → Shape → Result Shape CapsuleFault
checked bytes s =
    if nat_lt (length bytes) 28 then Err fault.ShortHeader
    else if not (is_capsule bytes) then Err fault.NotFmp
    else if not (has_sizes s (length bytes)) then Err fault.BadSize
    else if nat_lt s.end (s.header + 8) then Err fault.ShortFmp
    else if not (num_at 4 bytes s.header == 1) then Err fault.BadVersion
    else if nat_lt entry_limit s.items then Err fault.TooMany
    else if nat_lt s.end (places_end s) then Err fault.ShortFmp
    else Ok s

unfoldable pub shape_of : List ℕ → Result Shape CapsuleFault
shape_of bytes = checked bytes (shape_in bytes)

-- ---- the items

-- an item: its version, its type, where its image stands in the file, and how many bytes the image and the vendor's code behind it
-- have
pub record Item : Type 0 where
  pub version : ℕ
  pub guid : List ℕ
  pub image : ℕ
  pub size : ℕ
  pub vendor : ℕ

-- the bytes before the image: 32, and eight more in version 2, and eight more again in version 3
abbrev pub head_size : ℕ → ℕ
head_size version = 24 + 8 * version

-- where item i stands in the file
abbrev pub item_place : List ℕ → Shape → ℕ → ℕ
item_place bytes s i = s.header + num_at 8 bytes (s.header + 8 + 8 * (s.drivers + i))

abbrev pub item_at : List ℕ → ℕ → Item
item_at bytes at =
    let version = num_at 4 bytes at in
    record {
      version = version;
      guid = swapped (take 16 (drop (at + 4) bytes));
      image = at + head_size version;
      size = num_at 4 bytes (at + 24);
      vendor = num_at 4 bytes (at + 28);
    }

-- it begins behind the places, has version 1, 2 or 3 and a type, and ends within the capsule
abbrev pub is_item : Shape → ℕ → Item → Bool
is_item s at item =
    nat_le (places_end s) at && nat_le 1 item.version && nat_le item.version 3 && not (same_bytes item.guid nil_guid)
    && nat_le (item.image + item.size + item.vendor) s.end

abbrev pub entry_of_item : Item → Entry
entry_of_item item = record { guid = item.guid; offset = item.image; size = item.size; flags = 0 }

-- the entry of item i, and those of the first n
abbrev pub entry_in : List ℕ → Shape → ℕ → Entry
entry_in bytes s i = entry_of_item (item_at bytes (item_place bytes s i))

abbrev pub entries_in : List ℕ → Shape → ℕ → List Entry
entries_in bytes s n = listed n (entry_in bytes s)

-- what is wrong with item i: it is bad, or an earlier one has its type
abbrev pub item_fault : List ℕ → Shape → ℕ → Option CapsuleFault
item_fault bytes s i =
    let at = item_place bytes s i in
    if not (is_item s at (item_at bytes at)) then Some (fault.BadItem i)
    else if list_any (has_guid (item_at bytes at).guid) (entries_in bytes s i) then Some (fault.Duplicate i)
    else None

-- ---- the table

-- the first that there is
abbrev pub first_some : {X : Type 0} → List (Option X) → Option X
first_some [] = None
first_some (Some x ∷ rest) = Some x
first_some (None ∷ rest) = first_some rest

-- the entries of all items, or the first fault
abbrev pub unless : {X : Type 0} → Option CapsuleFault → X → Result X CapsuleFault
unless None x = Ok x
unless (Some f) x = Err f

abbrev pub items_of : List ℕ → Shape → Result (List Entry) CapsuleFault
items_of bytes s = unless (first_some (listed s.items (item_fault bytes s))) (entries_in bytes s s.items)

abbrev pub table_with : Result (List Entry) CapsuleFault → Result Toc CapsuleFault
table_with (Err f) = Err f
table_with (Ok entries) = Ok (record { serial = usual_serial; flags = 0; entries = entries })

abbrev pub after_headers : List ℕ → Result Shape CapsuleFault → Result Toc CapsuleFault
after_headers bytes (Err f) = Err f
after_headers bytes (Ok s) = table_with (items_of bytes s)

-- the table of a capsule, or the first fault
unfoldable pub capsule_of : List ℕ → Result Toc CapsuleFault
capsule_of bytes = after_headers bytes (shape_of bytes)
