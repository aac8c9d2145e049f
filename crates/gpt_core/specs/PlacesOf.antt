-- The places that a table gives: one partition that is the store, and two for the metadata.
use Rattle.std.specs.Prelude.{if◌then◌else◌, ℕ, ◌+◌, ◌-◌, ◌*◌, ◌&&◌, ◌||◌, nat_le, nat_lt, Bool, List, [], ◌∷◌, ◌++◌, length, map, filter, codes, slice_index, Result, Ok, Err}
use Rattle.base_core.specs.{Block.fewest_blocks, Block.most_blocks, Bytes.num_at, Bytes.part, Bytes.listed, Bytes.same_bytes}
use Rattle.gpt_core.specs.{declared.layout.Places.Places, declared.layout.PlaceFault.PlaceFault}
use Rattle.gpt_core.specs.declared.layout.PlaceFault.TheVariants.{NoStore, Replicas, TooSmall}
use Rattle.gpt_core.specs.Table.{Table, entry_number_of, blocks_of}
pub use Rattle.gpt_core.specs.declared.partitions.Partition.{Partition}

-- sixteen bytes of a table, whose first three fields are little-endian, in the order of a GUID's text
abbrev pub in_text_order : List ℕ → List ℕ
in_text_order b =
    map (slice_index b) (3 ∷ 2 ∷ 1 ∷ 0 ∷ 5 ∷ 4 ∷ 7 ∷ 6 ∷ 8 ∷ 9 ∷ 10 ∷ 11 ∷ 12 ∷ 13 ∷ 14 ∷ 15 ∷ [])

-- the type of the store's partition, 46575553-544f-5245-5041-525400000001 (this project's own), as bytes in the order of the text
abbrev pub store_type : List ℕ
store_type = codes "FWUSTOREPART" ++ 0 ∷ 0 ∷ 0 ∷ 1 ∷ []

-- the type of a metadata partition, 8a7a84a0-8387-40f6-ab41-a8b9a5a60d23 (DEN0118)
abbrev pub metadata_type : List ℕ
metadata_type = 0x8a ∷ 0x7a ∷ 0x84 ∷ 0xa0 ∷ 0x83 ∷ 0x87 ∷ 0x40 ∷ 0xf6 ∷ 0xab ∷ 0x41 ∷ 0xa8 ∷ 0xb9 ∷ 0xa5 ∷ 0xa6 ∷ 0x0d ∷ 0x23 ∷ []

abbrev pub partition_at : List ℕ → ℕ → Partition
partition_at entries i = record {
  kind = in_text_order (part entries (128 * i) (128 * i + 16));
  first = num_at 8 entries (128 * i + 32);
  last = num_at 8 entries (128 * i + 40);
}

-- the partitions of a type, in the order of their entries
abbrev pub of_type : List ℕ → Table → List Partition
of_type kind t = filter (λ q. same_bytes q.kind kind) (listed (entry_number_of t) (partition_at t.entries))

-- its first block isn't after its last one, and both are usable in a device of so many blocks,
-- whose copies have so many blocks of entries
abbrev pub is_usable : ℕ → ℕ → Partition → Bool
is_usable blocks entry_blocks q =
    nat_le q.first q.last && nat_le (2 + entry_blocks) q.first && nat_le (q.last + 2 + entry_blocks) blocks

-- they have no block in common
abbrev pub are_apart : Partition → Partition → Bool
are_apart q r = nat_lt q.last r.first || nat_lt r.last q.first

-- how many blocks it has
abbrev pub partition_blocks : Partition → ℕ
partition_blocks q = q.last + 1 - q.first

unfoldable pub are_large : ℕ → ℕ → Partition → Partition → Partition → Bool
are_large blocks entry_blocks store zero one =
    is_usable blocks entry_blocks store && is_usable blocks entry_blocks zero && is_usable blocks entry_blocks one
    && (are_apart store zero && are_apart store one && are_apart zero one)
    && (nat_le fewest_blocks (partition_blocks store) && nat_le (partition_blocks store) most_blocks)

abbrev pub placed : ℕ → ℕ → List Partition → List Partition → Result Places PlaceFault
placed blocks entry_blocks (store ∷ []) (zero ∷ one ∷ []) =
    if are_large blocks entry_blocks store zero one
    then Ok (record { store_first = store.first; store_blocks = partition_blocks store; replicas = zero.first ∷ one.first ∷ [] })
    else Err TooSmall
placed blocks entry_blocks (store ∷ []) replicas = Err (Replicas (length replicas))
placed blocks entry_blocks stores replicas = Err NoStore

-- the places in a device of so many blocks, or the first fault
abbrev pub places_of : ℕ → Table → Result Places PlaceFault
places_of blocks t = placed blocks (blocks_of (entry_number_of t)) (of_type store_type t) (of_type metadata_type t)
