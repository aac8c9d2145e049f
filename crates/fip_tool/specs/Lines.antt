-- The texts that `fip` prints, and how it ends: the line that tells why, and its status.
use Rattle.std.specs.Prelude.{◌≡◌, ◌⊎◌, ℕ, List, [], ◌++◌, Option, Result, Ok, Err, codes, decimal, flat_map, length, reverse, take}
use Rattle.std.specs.Io.KnownBytes.{Appends}
use Rattle.hex.specs.Hex.{encode_lower}
use Rattle.base_core.specs.{Bytes.le, Guid.guid_text}
use Rattle.fwu_formats.specs.{FaultText.capsule_fault_number, FaultText.fip_fault_text, Package.Entry, Package.Toc}
use Rattle.fwu_formats.specs.declared.kinds.ManifestFault.{ManifestFault}
use Rattle.fwu_formats.specs.declared.kinds.ManifestFault.TheVariants as manifest
use Rattle.fip_tables.specs.declared.faults.PackFault.{PackFault}
use Rattle.fip_tables.specs.declared.faults.PackFault.TheVariants as pack
use Rattle.fip_words.specs.Values.{bin}
use Rattle.fip_making.specs.{Stops.exit_status, declared.stops.Stop.Stop}
use Rattle.fip_making.specs.declared.stops.Stop.TheVariants as stop
use Rattle.fip_tool.specs.declared.lines.Format.{Format}
use Rattle.fip_tool.specs.declared.lines.Format.TheVariants as format

-- eight hexadecimal digits
abbrev pub eight_digits : ℕ → List ℕ
eight_digits n = encode_lower (reverse (le 4 n))

unfoldable pub head_line : Toc → ℕ → List ℕ
head_line toc size =
    codes "serial=" ++ eight_digits toc.serial ++ codes " flags=" ++ decimal toc.flags
    ++ codes " entries=" ++ decimal (length toc.entries)
    ++ codes " size=" ++ decimal size ++ codes "\n"

unfoldable pub entry_line : Entry → List ℕ
entry_line e =
    guid_text e.guid ++ codes " offset=" ++ decimal e.offset ++ codes " size=" ++ decimal e.size
    ++ codes " flags=" ++ decimal e.flags ++ codes "\n"

-- a package with this table, of so many bytes
unfoldable pub info_text : Toc → ℕ → List ℕ
info_text toc size = head_line toc size ++ flat_map entry_line toc.entries

unfoldable pub packed_line : ℕ → ℕ → List ℕ
packed_line entries size = codes "packed entries=" ++ decimal entries ++ codes " size=" ++ decimal size ++ codes "\n"

unfoldable pub capsule_line : ℕ → ℕ → List ℕ
capsule_line items size = codes "capsule items=" ++ decimal items ++ codes " size=" ++ decimal size ++ codes "\n"

-- the line of what was made
abbrev pub made_line : Format → ℕ → ℕ → List ℕ
made_line format.Package count size = packed_line count size
made_line format.Capsule count size = capsule_line count size

unfoldable pub manifest_line : ℕ → ℕ → ℕ → List ℕ
manifest_line rows size security =
    codes "manifest rows=" ++ decimal rows ++ codes " size=" ++ decimal size ++ codes " security=" ++ decimal security ++ codes "\n"

-- the file of a payload that is unpacked
abbrev pub unpacked_name : List ℕ → List ℕ → List ℕ
unpacked_name prefix guid = prefix ++ guid_text guid ++ bin

unfoldable pub unpacked_line : List ℕ → Entry → List ℕ
unpacked_line prefix e =
    guid_text e.guid ++ codes " size=" ++ decimal e.size ++ codes " file=" ++ unpacked_name prefix e.guid ++ codes "\n"

-- ---- why it ended

abbrev pub pack_fault_text : PackFault → List ℕ
pack_fault_text pack.TooMany = codes "too-many"
pack_fault_text (pack.Duplicate i) = codes "duplicate " ++ decimal i
pack_fault_text (pack.NilGuid i) = codes "nil-uuid " ++ decimal i
pack_fault_text pack.BadAlign = codes "bad-align"
pack_fault_text pack.TooLarge = codes "too-large"

-- `BadCount` and `TooLarge` are faults of a manifest that is made; the others are of reading one
abbrev pub manifest_fault_text : ManifestFault → List ℕ
manifest_fault_text manifest.VersionTooHigh = codes "version-too-high"
manifest_fault_text manifest.BadCount = codes "bad-count"
manifest_fault_text f = codes "too-large"

-- the line of a stop. Nothing is printed where the sink takes no more, or for want of memory
unfoldable pub stop_line : Stop → List ℕ
stop_line stop.Usage = codes "usage: fip info|create|update|remove|unpack|manifest|capsule|package\n"
stop_line stop.FileFault = codes "file-fault\n"
stop_line stop.SinkFault = []
stop_line (stop.NotFip f) = codes "not-fip " ++ fip_fault_text f ++ codes "\n"
stop_line (stop.NoSuchEntry guid) = codes "no-entry " ++ guid_text guid ++ codes "\n"
stop_line (stop.NotPacked f) = codes "pack " ++ pack_fault_text f ++ codes "\n"
stop_line (stop.NoManifest f) = codes "manifest " ++ manifest_fault_text f ++ codes "\n"
stop_line stop.TooLong = codes "too-long\n"
stop_line (stop.NotCapsule f) = codes "not-capsule " ++ decimal (capsule_fault_number f) ++ codes "\n"
stop_line stop.NoMemory = []

-- what the line of a stop leaves, and the stop then
abbrev pub StopTold : Option (List ℕ) → Option (List ℕ) → Type 0 → Stop → Stop → Type 0
StopTold was text sink-rose s now =
    ((now ≡ s) × Appends was text (stop_line s))
    ⊎ ((now ≡ stop.SinkFault) × sink-rose × (k : ℕ) × Appends was text (take k (stop_line s)))
    ⊎ ((now ≡ stop.NoMemory) × (text ≡ was))

-- nothing is told where the sink takes no more, or for want of memory
abbrev pub Reported : Option (List ℕ) → Option (List ℕ) → Type 0 → Stop → Stop → Type 0
Reported was text sink-rose stop.SinkFault now = (now ≡ stop.SinkFault) × (text ≡ was)
Reported was text sink-rose stop.NoMemory now = (now ≡ stop.NoMemory) × (text ≡ was)
Reported was text sink-rose s now = StopTold was text sink-rose s now

-- How the tool ends, by how its command ended: at status 0 with no further line, and else with the line of the stop, where that is
-- told. The sink's text was `was` before that line, and is `text`.
abbrev pub EndsWithLine : Option (List ℕ) → Option (List ℕ) → Type 0 → Result (Unit {0}) Stop → ℕ → Type 0
EndsWithLine was text sink-rose (Ok done) status = (status ≡ 0) × (text ≡ was)
EndsWithLine was text sink-rose (Err s) status = (now : Stop) × Reported was text sink-rose s now × (status ≡ exit_status now)
