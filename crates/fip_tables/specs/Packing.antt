-- Why parts cannot be packed: their first fault.
use Rattle.std.specs.Prelude.{◌≡◌, ◌<◌, ◌≤◌, ℕ, Bool, true, ◌&&◌, not, nat_le, nat_lt, if◌then◌else◌, List, [], length, take, Option, Some, None, option_map, position, slice_index_or, replicate, Result, Err, OnOk}
use Rattle.std.specs.List.{list_any, range_with_len}
use Rattle.std.specs.Int.{is_power_of_two}
use Rattle.base_core.specs.{Bytes.same_bytes, Guid.nil_guid}
use Rattle.fwu_formats.specs.Package.{Part, entry_limit, packed}
use Rattle.fip_tables.specs.{declared.faults.PackFault.PackFault, declared.faults.PackStop.PackStop}
use Rattle.fip_tables.specs.declared.faults.PackStop.TheVariants.{Fault}
use Rattle.fip_tables.specs.declared.faults.PackFault.TheVariants.{TooMany, Duplicate, NilGuid, BadAlign, TooLarge}

abbrev pub packed_part_at : List Part → ℕ → Part
packed_part_at parts i = slice_index_or parts i (record { guid = []; flags = 0; bytes = [] })

-- an earlier part has its type
abbrev pub is_repeat : List Part → ℕ → Bool
is_repeat parts i = list_any (λ p. same_bytes (packed_part_at parts i).guid p.guid) (take i parts)

abbrev pub first_repeat : List Part → Option ℕ
first_repeat parts = position (is_repeat parts) (range_with_len 0 (length parts))

abbrev pub is_nil : Part → Bool
is_nil p = same_bytes p.guid nil_guid

-- a power of two from 1 to 4096
abbrev pub is_alignment : ℕ → Bool
is_alignment a = is_power_of_two a && nat_le a 4096

-- the greatest package, 64 MiB
abbrev pub package_limit : ℕ
package_limit = 67108864

-- the first fault of two, where the one stands before the other
abbrev pub first_of : Option PackFault → Option PackFault → Option PackFault
first_of (Some f) other = Some f
first_of None other = other

-- the first fault that parts have whatever is made of them: too many, a type twice, the nil UUID
unfoldable pub parts_fault : List Part → Option PackFault
parts_fault parts =
    if nat_lt entry_limit (length parts) then Some TooMany
    else first_of (option_map Duplicate (first_repeat parts)) (option_map NilGuid (position is_nil parts))

-- the first fault that parts have as a package
unfoldable pub pack_fault : List Part → ℕ → Option PackFault
pack_fault parts a =
    first_of (parts_fault parts)
    (if not (is_alignment a) then Some BadAlign
    else if nat_lt package_limit (length (packed 0 0 parts a)) then Some TooLarge
    else None)

-- a part with zeros in place of its bytes
abbrev pub zeroed : Part → Part
zeroed p = record { guid = p.guid; flags = p.flags; bytes = replicate (length p.bytes) 0 }

-- a type of sixteen bytes, flags that have room in their field, and zeros for bytes
pub record IsOutline (p : Part) : Type 0 where
  pub sixteen : length p.guid ≡ 16
  pub fits : p.flags < 18446744073709551616
  pub blank : p.bytes ≡ replicate (length p.bytes) 0

abbrev pub AreOutlines : List Part → Type 0
AreOutlines parts = (i : ℕ) → i < length parts → IsOutline (packed_part_at parts i)

-- no fault that parts have whatever is made of them
pub record HasNoFault (parts : List Part) : Type 0 where
  pub few : length parts ≤ entry_limit
  pub none : parts_fault parts ≡ None
  pub outlines : AreOutlines parts

-- and as a package none but that it may be too large
pub record MayFit (parts : List Part) (a : ℕ) : Type 0 where
  pub shared : HasNoFault parts
  pub alignment : is_alignment a ≡ true

-- Something is made of parts where they have no fault, and a fault that is answered is their first one.
pub record IsByFault {T : Type 0} (result : Result T PackStop) (fault : Option PackFault) : Type 0 where
  pub fits : OnOk result (fault ≡ None)
  pub err : (f : PackFault) → result ≡ Err (Fault f) → fault ≡ Some f
