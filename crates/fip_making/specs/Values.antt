-- What is read of files, and what is made of it, by their bytes.
use Rattle.std.specs.Prelude.{◌≡◌, ◌≤◌, ◌⊎◌, ℕ, Bool, not, ◌||◌, ◌==◌, List, ◌++◌, Option, Some, None, Result, Ok, Err, if◌then◌else◌, length, map, filter, find, nat_lt, option_map}
use Rattle.std.specs.{List.list_any, Option.option_map_or}
use Rattle.std.specs.Io.KnownBytes.{Consumes, IsAtEnd}
use Rattle.base_core.specs.Bytes.{same_bytes}
use Rattle.sha2.specs.Sha256.{sha256}
use Rattle.host_io.specs.Contents.{Directory}
use Rattle.fwu_formats.specs.{Manifest.Row, Manifest.manifest_bytes, Capsule.capsule_of}
use Rattle.fwu_formats.specs.Package.{Entry, Part, Toc, has_guid, packed, payload, toc_of}
use Rattle.fwu_formats.specs.declared.kinds.ManifestFault.TheVariants as fault
use Rattle.capsule_tables.specs.Making.{capsule_bytes, make_fault}
use Rattle.fip_tables.specs.{Answers.decided, Packing.pack_fault}
use Rattle.fip_words.specs.Values.{NamedFile, NamedImage, each}
use Rattle.fip_making.specs.declared.stops.Stop.{Stop}
use Rattle.fip_making.specs.declared.stops.Stop.TheVariants as stop

-- a value, and then what is made of it
abbrev pub and_then : {X Y : Type 0} → Result X Stop → (X → Result Y Stop) → Result Y Stop
and_then (Ok x) f = f x
and_then (Err s) f = Err s

abbrev pub there : {X : Type 0} → Option X → Result X Stop
there None = Err stop.FileFault
there (Some x) = Ok x

-- a value, or the stop of its fault
abbrev pub or_stop : {F X : Type 0} → (F → Stop) → Result X F → Result X Stop
or_stop stopped (Ok x) = Ok x
or_stop stopped (Err f) = Err (stopped f)

-- a value, unless something is found that stops it
abbrev pub unless : {A X : Type 0} → (A → Stop) → Option A → Result X Stop → Result X Stop
unless stopped None value = value
unless stopped (Some a) value = Err (stopped a)

-- ---- what files give

-- a package's bytes, and its table
abbrev pub package_read_in : Directory → List ℕ → Result (List ℕ × Toc) Stop
package_read_in files name =
    and_then (there (files name)) (λ bytes. and_then (or_stop stop.NotFip (toc_of bytes)) (λ t. Ok (bytes, t)))

-- some bytes are a package with this table
abbrev pub IsTableOfSome : Toc → Type 0
IsTableOfSome t = (bytes : List ℕ) × (toc_of bytes ≡ Ok t)

-- a capsule's bytes, and its table
abbrev pub capsule_in : Directory → List ℕ → Result (List ℕ × Toc) Stop
capsule_in files name =
    and_then (there (files name)) (λ bytes. and_then (or_stop stop.NotCapsule (capsule_of bytes)) (λ t. Ok (bytes, t)))

abbrev pub part_in : Directory → NamedFile → Option Part
part_in files p = option_map (λ bytes. record { guid = p.guid; flags = 0; bytes = bytes }) (files p.file)

-- the parts of named files
abbrev pub parts_in : Directory → List NamedFile → Result (List Part) Stop
parts_in files parts = there (each (part_in files) parts)

-- a package's table, and how many bytes it has
unfoldable pub sized_table : Directory → List ℕ → Result (Toc × ℕ) Stop
sized_table files name = and_then (package_read_in files name) (λ p. Ok (p.1, length p.0))

-- how many bytes a file has
unfoldable pub size_in : Directory → List ℕ → Result ℕ Stop
size_in files name = and_then (there (files name)) (λ bytes. Ok (length bytes))

-- ---- what the source gives

-- the most bytes that are read of the source
abbrev pub source_limit : ℕ
source_limit = 4294967296

-- of the bytes that the source gave: a fault that no further bytes mend comes first, and then too many bytes
unfoldable pub given_table : List ℕ → Result (Toc × ℕ) Stop
given_table given =
    and_then (or_stop stop.NotFip (decided (toc_of given))) (λ none.
    if nat_lt source_limit (length given) then Err stop.TooLong
    else and_then (or_stop stop.NotFip (toc_of given)) (λ t. Ok (t, length given)))

-- But for the last read, of at most 4096 bytes, the bytes that were read were not too many,
-- and had no fault that no further bytes mend.
pub record StopsInTime (given : List ℕ) : Type 0 where
  pub before : List ℕ
  pub last : List ℕ
  pub all : given ≡ before ++ last
  pub short : length last ≤ 4096
  pub few : length before ≤ source_limit
  pub undecided : decided (toc_of before) ≡ Ok tt

-- What a part of a command answers of what the source gave. The source was read to its end but where a fault was decided,
-- too many bytes came, a read failed, or memory was wanting.
abbrev pub GivenTo : {X Y : Type 0} → (X → Y) → (List ℕ → Result Y Stop) → Option (List ℕ) → Option (List ℕ) → Type 0
    → Result X Stop → List ℕ → Type 0
GivenTo view value was left source-rose (Ok x) given = Consumes was left given × IsAtEnd left × (value given ≡ Ok (view x))
GivenTo view value was left source-rose (Err stop.FileFault) given = Consumes was left given × source-rose
GivenTo view value was left source-rose (Err stop.NoMemory) given = Consumes was left given
GivenTo view value was left source-rose (Err stop.SinkFault) given = ⊥
GivenTo view value was left source-rose (Err (stop.NotFip f)) given =
    Consumes was left given × (IsAtEnd left ⊎ (decided (toc_of given) ≡ Err f)) × (value given ≡ Err (stop.NotFip f))
GivenTo view value was left source-rose (Err s) given = Consumes was left given × (value given ≡ Err s)

-- ---- packages that are made

-- what is packed: how many entries, and the bytes; or the first fault
unfoldable pub pack_value : ℕ → ℕ → List Part → ℕ → Result (ℕ × List ℕ) Stop
pack_value serial flags parts align =
    unless stop.NotPacked (pack_fault parts align) (Ok (length parts, packed serial flags parts align))

-- the serial number of a package that is new
abbrev pub new_serial : ℕ
new_serial = 0x12345678

unfoldable pub create_value : Directory → ℕ → List NamedFile → Result (ℕ × List ℕ) Stop
create_value files align parts = and_then (parts_in files parts) (λ ps. pack_value new_serial 0 ps align)

-- the first type that the package hasn't
abbrev pub first_missing : Toc → List (List ℕ) → Option (List ℕ)
first_missing t guids = find (λ guid. not (list_any (has_guid guid) t.entries)) guids

-- an entry's part, with the new payload where there is one
abbrev pub updated_part : List ℕ → List Part → Entry → Part
updated_part bytes new e = record {
  guid = e.guid;
  flags = e.flags;
  bytes = option_map_or (λ p. p.bytes) (find (λ p. same_bytes p.guid e.guid) new) (payload bytes e);
}

-- serial number, flags and order stay
unfoldable pub update_value : Directory → ℕ → List ℕ → List NamedFile → Result (ℕ × List ℕ) Stop
update_value files align from parts =
    and_then (package_read_in files from) (λ p. unless stop.NoSuchEntry (first_missing p.1 (map (λ q. q.guid) parts))
    (and_then (parts_in files parts) (λ new. pack_value p.1.serial p.1.flags (map (updated_part p.0 new) p.1.entries) align)))

abbrev pub kept_part : List ℕ → Entry → Part
kept_part bytes e = record { guid = e.guid; flags = e.flags; bytes = payload bytes e }

abbrev pub has_type_among : List (List ℕ) → Entry → Bool
has_type_among guids e = list_any (λ guid. same_bytes guid e.guid) guids

unfoldable pub remove_value : Directory → ℕ → List ℕ → List (List ℕ) → Result (ℕ × List ℕ) Stop
remove_value files align from guids =
    and_then (package_read_in files from) (λ p. unless stop.NoSuchEntry (first_missing p.1 guids)
    (pack_value p.1.serial p.1.flags (map (kept_part p.0) (filter (λ e. not (has_type_among guids e)) p.1.entries)) align))

-- ---- from packages to capsules, and back

-- the capsule of parts: how many items, and the bytes; or the first fault
unfoldable pub enclose_value : List Part → Result (ℕ × List ℕ) Stop
enclose_value parts = unless stop.NotPacked (make_fault parts) (Ok (length parts, capsule_bytes parts))

-- of all entries, in their order
unfoldable pub capsule_value : Directory → List ℕ → Result (ℕ × List ℕ) Stop
capsule_value files from = and_then (package_read_in files from) (λ p. enclose_value (map (kept_part p.0) p.1.entries))

-- of all items, in their order
unfoldable pub repackage_value : Directory → ℕ → List ℕ → Result (ℕ × List ℕ) Stop
repackage_value files align from =
    and_then (capsule_in files from) (λ p. pack_value p.1.serial p.1.flags (map (kept_part p.0) p.1.entries) align)

-- ---- manifests

-- an image that a manifest is made of
pub record Image : Type 0 where
  pub guid : List ℕ
  pub version : ℕ
  pub bytes : List ℕ

abbrev pub image_in : Directory → NamedImage → Option Image
image_in files i = option_map (λ bytes. record { guid = i.guid; version = i.version; bytes = bytes }) (files i.file)

-- the longest image that a manifest may have, 1 MiB
abbrev pub image_limit : ℕ
image_limit = 1048576

abbrev pub is_long : Image → Bool
is_long i = nat_lt image_limit (length i.bytes)

-- what a manifest says of an image that is short enough
unfoldable pub image_row : Image → Option Row
image_row i =
    if is_long i then None
    else Some (record { guid = i.guid; size = length i.bytes; version = i.version; digest = sha256 i.bytes })

-- why there is no manifest of so many images, or of one that is too long
abbrev pub unless_long : ℕ → Bool → Result (Unit {0}) Stop
unless_long count long =
    if (count == 0) || nat_lt 15 count then Err (stop.NoManifest fault.BadCount)
    else if long then Err (stop.NoManifest fault.TooLarge)
    else Ok tt

-- whether there is a manifest of named images, by how many they are and how long
unfoldable pub sizes_value : Directory → List NamedImage → Result (Unit {0}) Stop
sizes_value files named =
    and_then (there (each (image_in files) named)) (λ images. unless_long (length images) (list_any is_long images))

abbrev pub of_rows : ℕ → Option (List Row) → Result (ℕ × List ℕ) Stop
of_rows security None = Err (stop.NoManifest fault.TooLarge)
of_rows security (Some rows) = Ok (length rows, manifest_bytes (record { security = security; rows = rows }))

unfoldable pub manifest_value : Directory → ℕ → List NamedImage → Result (ℕ × List ℕ) Stop
manifest_value files security named =
    and_then (there (each (image_in files) named)) (λ images.
    if (length images == 0) || nat_lt 15 (length images) then Err (stop.NoManifest fault.BadCount)
    else of_rows security (each image_row images))
