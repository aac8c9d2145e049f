-- What a package has besides its payloads.
use Rattle.std.specs.Prelude.{◌≡◌, ◌≤◌, ℕ, ◌+◌, ◌-◌, ◌*◌, List, [], ◌∷◌, ◌++◌, length, take, replicate, flat_map, map, sum_by}
use Rattle.std.specs.Int.{next_multiple_of}
use Rattle.base_core.specs.{Bytes.le, Guid.nil_guid}
use Rattle.fwu_formats.specs.Package.{Entry, Part, fip_name}
use Rattle.host_io.specs.Joined.{Chunk, joined}
use Rattle.fip_tables.specs.{Packing.AreOutlines, Packing.package_limit, Packing.zeroed, declared.frame.Frame.Frame}

-- where the table of a package ends
abbrev pub table_end : List Part → ℕ
table_end parts = 16 + 40 * (length parts + 1)

-- where the package ends, if its payloads begin behind a place
abbrev pub last_end : ℕ → ℕ → List Part → ℕ
last_end a end [] = next_multiple_of end a
last_end a end (p ∷ ps) = last_end a (next_multiple_of end a + length p.bytes) ps

-- the forty bytes of an entry
abbrev pub toc_entry_bytes : Entry → List ℕ
toc_entry_bytes e = e.guid ++ le 8 e.offset ++ le 8 e.size ++ le 8 e.flags

abbrev pub marker : ℕ → Entry
marker size = record { guid = nil_guid; offset = size; size = 0; flags = 0 }

-- a header, entries, and their marker
abbrev pub tabled : ℕ → ℕ → List Entry → ℕ → List ℕ
tabled serial flags entries size =
    le 4 fip_name ++ le 4 serial ++ le 8 flags ++ flat_map toc_entry_bytes entries ++ toc_entry_bytes (marker size)

-- bytes that are cut, or go on with zeros, to be so many
abbrev pub up_to : ℕ → List ℕ → List ℕ
up_to n bytes = take n bytes ++ replicate (n - length bytes) 0

-- each type has sixteen bytes
abbrev pub AreSixteen : List Part → Type 0
AreSixteen [] = Unit {0}
AreSixteen (p ∷ ps) = (length p.guid ≡ 16) × AreSixteen ps

-- the chunks that payloads are, each behind its gap
abbrev pub chunks : List ℕ → List Part → List Chunk
chunks [] ps = []
chunks (g ∷ gs) [] = []
chunks (g ∷ gs) (p ∷ ps) = record { gap = g; bytes = p.bytes } ∷ chunks gs ps

-- how many bytes stand before each payload, behind the end of the one before or, before the first, a place
abbrev pub gaps_from : ℕ → List Entry → List ℕ
gaps_from end [] = []
gaps_from end (e ∷ es) = (e.offset - end) ∷ gaps_from (e.offset + e.size) es

-- how many bytes all payloads have
abbrev pub sizes_of : List Entry → ℕ
sizes_of entries = sum_by (λ e. e.size) entries

-- from a place on the payloads stand one behind the other, in so many bytes
abbrev pub AreInOrder : ℕ → List Entry → ℕ → Type 0
AreInOrder end [] size = end ≤ size
AreInOrder end (e ∷ es) size = (end ≤ e.offset) × AreInOrder (e.offset + e.size) es size

-- A frame is that of the files that payloads of these outlines make, each payload with one gap before it.
pub record IsFrame (f : Frame) (blank : List Part) (file : List Part → List ℕ) : Type 0 where
  -- with the payloads it is the file
  pub filled : (parts : List Part) → map zeroed parts ≡ blank → joined f.bytes.items (chunks f.gaps.items parts) ≡ file parts
  pub gaps : length f.gaps.items ≡ length blank
  pub size : (parts : List Part) → map zeroed parts ≡ blank → f.size ≡ length (file parts)
  pub limit : f.size ≤ package_limit
  pub outlines : AreOutlines blank
