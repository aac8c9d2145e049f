-- The entries of a metadata block.
use Rattle.std.specs.Prelude.{◌≡◌, ℕ, ◌+◌, ◌*◌, ◌<◌, ◌&&◌, ◌==◌, Bool, List, [], ◌++◌, ◌-◌, ◌%◌, length, take, drop, map, replicate, flat_map, slice_index_or}
use Rattle.std.specs.List.{list_all, range_with_len}
use Rattle.base_core.specs.Bytes.{le, num_at, same_bytes, listed}
use Rattle.fwu_formats.specs.{Layout.Layout, Layout.nil_guid, declared.kinds.BankState.BankState}
use Rattle.fwu_formats.specs.Metadata.{Meta, meta_size, entry_size, state_byte, bit_number, bit_at, entry_place, has_bank_entry, state_of_byte, bits_v1, state_at_v1, bits_from}

-- what an entry at a place says of the banks
abbrev pub has_bank_entries : List ℕ → List ℕ → ℕ → ℕ → Bool
has_bank_entries guid block at banks = list_all (λ bank. has_bank_entry guid block (at + 32 + 24 * bank)) (range_with_len 0 banks)

-- the entry of a type at a place
abbrev pub has_entry_at : List ℕ → List ℕ → ℕ → ℕ → Bool
has_entry_at guid block at banks =
    same_bytes (take 16 (drop at block)) guid
    && same_bytes (take 16 (drop (at + 16) block)) nil_guid
    && has_bank_entries guid block at banks

-- an image's bit in a bank
abbrev pub bit_from : Layout → ℕ → List ℕ → ℕ → ℕ → Bool
bit_from L from block bank image = num_at 4 block (entry_place L from image + 32 + 24 * bank + 16) == 1

-- the state of a bank in version 2
abbrev pub state_from : List ℕ → ℕ → BankState
state_from block bank = state_of_byte (num_at 1 block (24 + bank))

-- the bits of a bank that count in version 1
abbrev pub bits_at_v1 : Layout → List ℕ → ℕ → List Bool
bits_at_v1 L block bank = bits_v1 (state_at_v1 L block bank) (bits_from L 0x10 block bank)

-- ---- writing

-- the bytes of one write of a replica
abbrev pub replica_size : Layout → ℕ
replica_size L = meta_size L + (16 - meta_size L % 16) % 16

-- what an entry says of a bank
abbrev pub bank_bytes : List ℕ → Meta → ℕ → ℕ → List ℕ
bank_bytes guid m image bank = guid ++ le 4 (bit_number (bit_at m bank image)) ++ le 4 0

-- the entry of an image of a type
abbrev pub meta_entry_of : ℕ → List ℕ → Meta → ℕ → List ℕ
meta_entry_of banks guid m image = guid ++ nil_guid ++ flat_map (bank_bytes guid m image) (listed banks (λ bank. bank))

-- the metadata has a bit for the image in each of so many banks
pub record HasBits (m : Meta) (banks image : ℕ) : Type 0 where
  pub count : length m.bits ≡ banks
  pub within : (bank : ℕ) → bank < banks → image < length (slice_index_or m.bits bank [])

-- the states of at most four banks, and 0xFF behind them
abbrev pub state_bytes : List BankState → List ℕ
state_bytes states = map state_byte states ++ replicate (4 - length states) 0xFF

-- the body's bytes before the fields that the layout gives
abbrev pub front_bytes : Layout → Meta → List ℕ
front_bytes L m = (le 4 2 ++ le 4 m.active ++ le 4 m.previous ++ le 4 (meta_size L) ++ le 2 0x20 ++ le 2 0) ++ state_bytes m.states

-- and these fields: the numbers of banks and of images, and the sizes of an entry and of a bank's part
abbrev pub rest_bytes : Layout → List ℕ
rest_bytes L = le 4 0 ++ le 1 L.banks ++ le 1 0 ++ le 2 (length L.rows) ++ le 2 (entry_size L) ++ le 2 24
