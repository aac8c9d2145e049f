-- The directory, by the numbers that the agent keeps and the manifest of the bank that was started.
use Rattle.std.specs.Prelude.{ℕ, zero, suc, ◌+◌, ◌-◌, ◌*◌, List, [], ◌++◌, length, take, drop, Option, Some, None, slice_index_or, flat_map}
use Rattle.base_core.specs.{Block.block_bytes, Bytes.le, Bytes.num_at, Bytes.listed}
use Rattle.fwu_formats.specs.{Layout.Layout, Layout.start, Layout.slot_bytes, Manifest.manifest_size, Manifest.row_at, Image.slot}
use Rattle.fwu_formats.specs.Metadata.{Meta, bit_at, bit_number}

-- the version of an image: of image 0 the manifest's security version, else what its row says
abbrev pub version_by : List ℕ → ℕ → ℕ
version_by manifest zero = num_at 4 manifest 8
version_by manifest (suc j) = (row_at manifest j).version

abbrev pub directory_row_by : Layout → Meta → ℕ → List ℕ → List ℕ → ℕ → List ℕ
directory_row_by L m boot lengths manifest image =
    (slice_index_or L.rows image (record { guid = []; slots = 0 })).guid
    ++ le 4 (slot_bytes L image) ++ le 4 (slice_index_or lengths image 0)
    ++ le 4 (version_by manifest image) ++ le 4 (bit_number (bit_at m boot image))

abbrev pub directory_head : Layout → ℕ → List ℕ
directory_head L boot = le 4 1 ++ le 4 (length L.rows) ++ le 4 32 ++ le 4 boot

unfoldable pub directory_by : Layout → Meta → ℕ → List ℕ → List ℕ → List ℕ
directory_by L m boot lengths manifest =
    directory_head L boot ++ flat_map (directory_row_by L m boot lengths manifest) (listed (length L.rows) (λ image. image))

-- ---- what a handle reads

-- the manifest of a bank, at the front of its slot
abbrev pub manifest_in : Layout → List ℕ → ℕ → List ℕ
manifest_in L now bank = take (manifest_size (length L.rows - 1)) (slot L now bank 0)

-- so many bytes of the directory, or of an image of a bank, from a place of it on
abbrev pub piece_of : Layout → Meta → ℕ → List ℕ → List ℕ → Option ℕ → ℕ → ℕ → List ℕ
piece_of L m bank lengths now None at n = take n (drop at (directory_by L m bank lengths (manifest_in L now bank)))
piece_of L m bank lengths now (Some image) at n = take n (drop (block_bytes * start L bank image + at) now)
