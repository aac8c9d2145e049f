-- What is written of parts: a capsule without drivers, whose items of version 2 stand one after the other.
use Rattle.std.specs.Prelude.{◌≡◌, ◌+◌, ◌*◌, ℕ, nat_lt, if◌then◌else◌, List, [], ◌∷◌, ◌++◌, length, map, replicate, sum_by, Option, Some, None, Ok}
use Rattle.base_core.specs.Bytes.{le}
use Rattle.fwu_formats.specs.{Package.Part, Package.Toc, Package.payload, Capsule.capsule_of, Capsule.fmp_guid, Capsule.swapped}
use Rattle.fip_tables.specs.{Frame.AreSixteen, declared.faults.PackFault.PackFault, declared.faults.PackFault.TheVariants.TooLarge}
use Rattle.fip_tables.specs.Packing.{first_of, package_limit, parts_fault}

-- the bytes of an item before its image
abbrev pub made_head : ℕ
made_head = 40

-- before its image an item has: version 2, its type, its index, the sizes of its image and of no vendor's code, and eight zeros
abbrev pub item_head : ℕ → Part → List ℕ
item_head index p = le 4 2 ++ swapped p.guid ++ (index ∷ 0 ∷ 0 ∷ 0 ∷ []) ++ le 4 (length p.bytes) ++ replicate 12 0

abbrev pub item_bytes : ℕ → Part → List ℕ
item_bytes index p = item_head index p ++ p.bytes

-- the items, numbered from one number on
abbrev pub items_bytes : ℕ → List Part → List ℕ
items_bytes index [] = []
items_bytes index (p ∷ ps) = item_bytes index p ++ items_bytes (index + 1) ps

-- what stands before the images of the items
abbrev pub heads_bytes : ℕ → List Part → List ℕ
heads_bytes index [] = []
heads_bytes index (p ∷ ps) = item_head index p ++ heads_bytes (index + 1) ps

-- how many bytes stand before each image, behind the one before: its head, and before the first so many more
abbrev pub head_gaps : ℕ → List Part → List ℕ
head_gaps front [] = []
head_gaps front (p ∷ ps) = (front + made_head) ∷ head_gaps 0 ps

-- where the items begin, from the payloads' header on, the first at a place
abbrev pub places_bytes : ℕ → List Part → List ℕ
places_bytes at [] = []
places_bytes at (p ∷ ps) = le 8 at ++ places_bytes (at + made_head + length p.bytes) ps

-- the headers, and for each part its place, the bytes before its image, and the image
abbrev pub capsule_size : List Part → ℕ
capsule_size parts = 36 + (8 + made_head) * length parts + sum_by (λ p. length p.bytes) parts

-- the capsule's header, without flags, and the payloads' header, without drivers
abbrev pub headers_bytes : ℕ → ℕ → List ℕ
headers_bytes size items = swapped fmp_guid ++ le 4 28 ++ le 4 0 ++ le 4 size ++ le 4 1 ++ le 2 0 ++ le 2 items

-- what stands before the items
abbrev pub capsule_front_bytes : List Part → List ℕ
capsule_front_bytes parts = headers_bytes (capsule_size parts) (length parts) ++ places_bytes (8 + 8 * length parts) parts

unfoldable pub capsule_bytes : List Part → List ℕ
capsule_bytes parts = capsule_front_bytes parts ++ items_bytes 1 parts

-- why parts make no capsule: their first fault
unfoldable pub make_fault : List Part → Option PackFault
make_fault parts = first_of (parts_fault parts) (if nat_lt package_limit (capsule_size parts) then Some TooLarge else None)

-- ---- the law

-- The bytes are a capsule that is read as these parts: in their order their types and their bytes, each without flags.
pub record IsCapsuleOf (parts : List Part) (bytes : List ℕ) : Type 0 where
  pub toc : Toc
  pub read : capsule_of bytes ≡ Ok toc
  pub types : map (λ e. e.guid) toc.entries ≡ map (λ p. p.guid) parts
  pub payloads : map (payload bytes) toc.entries ≡ map (λ p. p.bytes) parts

-- parts of types of sixteen bytes that have no fault are read again as they were made
abbrev pub MadeIsRead : Type 0
MadeIsRead = (parts : List Part) → make_fault parts ≡ None → AreSixteen parts → IsCapsuleOf parts (capsule_bytes parts)
