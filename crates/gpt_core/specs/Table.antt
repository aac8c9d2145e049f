-- GUID partition tables (UEFI) in the profile of this project: a sector is one block of 4096 bytes, each entry has 128 bytes. A
-- device has two copies of its table. The primary has its header in block 1 and its entries from block 2 on. The backup has its
-- header in the last block and its entries in the blocks before that.
use Rattle.std.specs.Prelude.{if◌then◌else◌, ◌≡◌, ℕ, ◌+◌, ◌-◌, ◌*◌, ◌/◌, ◌≤◌, ◌&&◌, ◌==◌, Bool, nat_le, List, ◌++◌, length, Option, Some, None, IsTrue, codes, replicate}
use Rattle.base_core.specs.{Block.block_bytes, Block.block, Crc.crc, Seal.has_table_seal}
use Rattle.base_core.specs.Bytes.{num_at, part, le, same_bytes}
use Rattle.gpt_core.specs.{declared.table.TableCopy.TableCopy, declared.table.WhichTable.WhichTable}
use Rattle.gpt_core.specs.declared.table.TableCopy.TheVariants.{Primary, Backup}
use Rattle.gpt_core.specs.declared.table.WhichTable.TheVariants.{Same, RepairPrimary, RepairBackup}

-- what both copies are to say
pub record Table : Type 0 where
  -- the disk's GUID
  pub disk : List ℕ
  -- the first and the last usable block
  pub first : ℕ
  pub last : ℕ
  -- the entries, one after the other
  pub entries : List ℕ

-- how many whole blocks so many entries take
abbrev pub blocks_of : ℕ → ℕ
blocks_of number = (number * 128 + (block_bytes - 1)) / block_bytes

abbrev pub header_at : TableCopy → ℕ → ℕ
header_at Primary blocks = 1
header_at Backup blocks = blocks - 1

abbrev pub other : TableCopy → TableCopy
other Primary = Backup
other Backup = Primary

-- the first block of that many blocks of entries
abbrev pub entries_at : TableCopy → ℕ → ℕ → ℕ
entries_at Primary blocks entry_blocks = 2
entries_at Backup blocks entry_blocks = blocks - 1 - entry_blocks

-- the first byte of a copy with so many blocks of entries, and the first byte behind it
abbrev pub copy_from : TableCopy → ℕ → ℕ → ℕ
copy_from Primary blocks entry_blocks = block_bytes
copy_from Backup blocks entry_blocks = block_bytes * (blocks - 1 - entry_blocks)

abbrev pub copy_to : TableCopy → ℕ → ℕ → ℕ
copy_to Primary blocks entry_blocks = block_bytes * (2 + entry_blocks)
copy_to Backup blocks entry_blocks = block_bytes * blocks

abbrev pub number_in : List ℕ → ℕ
number_in header = num_at 4 header 80

-- its revision, its size and the field that is zero
abbrev pub has_start : List ℕ → Bool
has_start header = (num_at 4 header 8 == 65536) && (num_at 4 header 12 == 92) && (num_at 4 header 20 == 0)

-- its own place, that of the other header, and that of the entries
abbrev pub has_places : TableCopy → ℕ → List ℕ → Bool
has_places copy blocks header =
    (num_at 8 header 24 == header_at copy blocks) && (num_at 8 header 32 == header_at (other copy) blocks)
    && (num_at 8 header 72 == entries_at copy blocks (blocks_of (number_in header)))

-- A header that speaks of so many blocks of entries, for which a device of so many blocks has room.
pub record SpeaksOfBlocks (blocks entry_blocks : ℕ) (header : List ℕ) : Type 0 where
  pub size : 92 ≤ length header
  pub room : 1 + entry_blocks ≤ blocks
  pub number : entry_blocks ≡ blocks_of (number_in header)

-- whether the fields of a header are those of this copy in a device of so many blocks
unfoldable pub header_has_fields : TableCopy → ℕ → List ℕ → Bool
header_has_fields copy blocks header = has_start header && has_places copy blocks header && (num_at 4 header 84 == 128)

-- It speaks of 1 to 128 entries, and with so many the blocks of both copies are apart.
abbrev pub is_roomy : ℕ → ℕ → Bool
is_roomy blocks number = nat_le 1 number && nat_le number 128 && nat_le (3 + 2 * blocks_of number) blocks

-- whether a block is the header of this copy in a device of so many blocks
abbrev pub is_header : TableCopy → ℕ → List ℕ → Bool
is_header copy blocks header = has_table_seal header && header_has_fields copy blocks header && is_roomy blocks (number_in header)

-- the entries that a header speaks of
unfoldable pub table_entries_in : TableCopy → ℕ → List ℕ → List ℕ → List ℕ
table_entries_in copy blocks header image =
    let at = block_bytes * entries_at copy blocks (blocks_of (number_in header)) in
    part image at (at + number_in header * 128)

abbrev pub partition_table_of : List ℕ → List ℕ → Table
partition_table_of header entries =
    record { disk = part header 56 72; first = num_at 8 header 40; last = num_at 8 header 48; entries = entries }

-- the table by a header and the entries that it speaks of, which have the header's checksum
abbrev pub checked_table : List ℕ → List ℕ → Option Table
checked_table header entries = if num_at 4 header 88 == crc entries then Some (partition_table_of header entries) else None

-- what a copy says, where it is valid
unfoldable pub copy_in : TableCopy → ℕ → List ℕ → Option Table
copy_in copy blocks image =
    let header = block (header_at copy blocks) image in
    if is_header copy blocks header then checked_table header (table_entries_in copy blocks header image) else None

abbrev pub same_table : Table → Table → Bool
same_table t u = same_bytes t.disk u.disk && (t.first == u.first) && (t.last == u.last) && same_bytes t.entries u.entries

-- the table that decides, of what the copies say, and what is to be repaired:
-- the primary decides where it is valid, else the backup
abbrev pub deciding_table : Option Table → Option Table → Option (Table × WhichTable)
deciding_table (Some t) (Some u) = Some (t, if same_table t u then Same else RepairBackup)
deciding_table (Some t) None = Some (t, RepairBackup)
deciding_table None (Some u) = Some (u, RepairPrimary)
deciding_table None None = None

abbrev pub table_in_image : ℕ → List ℕ → Option (Table × WhichTable)
table_in_image blocks image = deciding_table (copy_in Primary blocks image) (copy_in Backup blocks image)

-- this table decides, whatever is to be repaired
abbrev pub DecidesTable : ℕ → Table → List ℕ → Type 0
DecidesTable blocks t image = (which : WhichTable) × (table_in_image blocks image ≡ Some (t, which))

abbrev pub BothSay : ℕ → Table → List ℕ → Type 0
BothSay blocks t image = (copy : TableCopy) → copy_in copy blocks image ≡ Some t

-- ---- the same as facts

-- The image has this table in this copy.
pub record IsCopy (copy : TableCopy) (blocks : ℕ) (image : List ℕ) (t : Table) : Type 0 where
  pub header : List ℕ
  pub stands : block (header_at copy blocks) image ≡ header
  pub sealed : IsTrue (has_table_seal header)
  pub revision : num_at 4 header 8 ≡ 65536
  pub size : num_at 4 header 12 ≡ 92
  pub zero_field : num_at 4 header 20 ≡ 0
  pub own_place : num_at 8 header 24 ≡ header_at copy blocks
  pub other_place : num_at 8 header 32 ≡ header_at (other copy) blocks
  pub usable : (num_at 8 header 40 ≡ t.first) × (num_at 8 header 48 ≡ t.last)
  pub disk : part header 56 72 ≡ t.disk
  pub number : (1 ≤ number_in header) × (number_in header ≤ 128)
  pub entry_size : num_at 4 header 84 ≡ 128
  pub entry_place : num_at 8 header 72 ≡ entries_at copy blocks (blocks_of (number_in header))
  pub entries : table_entries_in copy blocks header image ≡ t.entries
  pub checks : num_at 4 header 88 ≡ crc t.entries
  pub apart : 3 + 2 * blocks_of (number_in header) ≤ blocks

-- ---- writing

-- how many entries a table has
abbrev pub entry_number_of : Table → ℕ
entry_number_of t = length t.entries / 128

-- A table whose entries both copies have room for in a device of so many blocks.
pub record FitsTable (blocks : ℕ) (t : Table) : Type 0 where
  pub number : (1 ≤ entry_number_of t) × (entry_number_of t ≤ 128)
  pub whole : length t.entries ≡ entry_number_of t * 128
  pub apart : 3 + 2 * blocks_of (entry_number_of t) ≤ blocks

-- the bytes of a header before its checksum
unfoldable pub header_lead : List ℕ
header_lead = codes "EFI PART" ++ le 4 65536 ++ le 4 92

-- those from the checksum to the disk's GUID
unfoldable pub header_places : TableCopy → ℕ → Table → List ℕ
header_places copy blocks t =
    le 4 0 ++ le 8 (header_at copy blocks) ++ le 8 (header_at (other copy) blocks) ++ le 8 t.first ++ le 8 t.last

-- and those behind the GUID
unfoldable pub header_back : TableCopy → ℕ → Table → List ℕ
header_back copy blocks t =
    le 8 (entries_at copy blocks (blocks_of (entry_number_of t))) ++ le 4 (entry_number_of t) ++ le 4 128 ++ le 4 (crc t.entries)

-- the 92 bytes of a header with this checksum
abbrev pub header_with : TableCopy → ℕ → Table → ℕ → List ℕ
header_with copy blocks t sum = header_lead ++ le 4 sum ++ header_places copy blocks t ++ t.disk ++ header_back copy blocks t

-- the header's block: 92 bytes, and zeros behind them
abbrev pub header_bytes : TableCopy → ℕ → Table → List ℕ
header_bytes copy blocks t = header_with copy blocks t (crc (header_with copy blocks t 0)) ++ replicate 4004 0
