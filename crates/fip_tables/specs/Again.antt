-- The laws of the table, which hold whatever the code does. What is packed is read again.
use Rattle.std.specs.Prelude.{◌≡◌, ◌<◌, ◌≤◌, ◌&&◌, ◌==◌, ◌++◌, ℕ, Bool, IsTrue, None, Ok, Err, List, length, map, nat_lt}
use Rattle.std.specs.List.{list_all}
use Rattle.fwu_formats.specs.Package.{Part, Toc, packed, payload, toc_of}
use Rattle.fwu_formats.specs.declared.kinds.FipFault.{FipFault}
use Rattle.fip_tables.specs.{Answers.decided, Answers.has_marker, Packing.pack_fault}

-- a type of sixteen bytes, and flags that have room in their field
abbrev pub part_has_fields : Part → Bool
part_has_fields p = (length p.guid == 16) && nat_lt p.flags 18446744073709551616

-- The bytes are a package that is read as these parts. Its table has the serial number, the flags, and in their order the parts'
-- types and flags. The payloads are their bytes.
abbrev pub ReadsAgain : ℕ → ℕ → List Part → List ℕ → Type 0
ReadsAgain serial flags parts bytes =
    (toc : Toc) × (toc_of bytes ≡ Ok toc) × (toc.serial ≡ serial) × (toc.flags ≡ flags)
    × (map (λ e. e.guid) toc.entries ≡ map (λ p. p.guid) parts) × (map (λ e. e.flags) toc.entries ≡ map (λ p. p.flags) parts)
    × (map (payload bytes) toc.entries ≡ map (λ p. p.bytes) parts)

-- parts that have no fault, under a serial number that isn't zero, are read again as they were packed
abbrev pub PassedIsRead : Type 0
PassedIsRead =
    (serial flags : ℕ) (parts : List Part) (a : ℕ) → pack_fault parts a ≡ None → IsTrue (list_all part_has_fields parts)
    → 1 ≤ serial → serial < 4294967296 → flags < 18446744073709551616 → ReadsAgain serial flags parts (packed serial flags parts a)

-- ---- what follows a package

-- a fault that is decided is the first one of whatever continues the bytes
abbrev pub FaultsStand : Type 0
FaultsStand = (bytes rest : List ℕ) (f : FipFault) → decided (toc_of bytes) ≡ Err f → toc_of (bytes ++ rest) ≡ Err f

-- Of what follows a whole table nothing but its length counts.
abbrev pub TablesStandByLength : Type 0
TablesStandByLength =
    (bytes gap other : List ℕ) → IsTrue (has_marker (toc_of bytes)) → length gap ≡ length other
    → toc_of (bytes ++ gap) ≡ toc_of (bytes ++ other)
