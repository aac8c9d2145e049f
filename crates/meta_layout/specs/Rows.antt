-- The rows of a layout in its block, and the limits of a layout on a flash.
use Rattle.std.specs.Prelude.{ℕ, ◌+◌, ◌*◌, ◌==◌, nat_lt, not, if◌then◌else◌, Bool, List, take, drop, Result, Ok, Err}
use Rattle.std.specs.List.{list_all, range_with_len}
use Rattle.base_core.specs.Bytes.{num_at}
use Rattle.fwu_formats.specs.Layout.{ImageRow, Layout, fits_layout, blocks_needed, nil_guid}
use Rattle.fwu_formats.specs.declared.kinds.LayoutFault.{LayoutFault}
use Rattle.fwu_formats.specs.declared.kinds.LayoutFault.TheVariants as fault

-- no image, in the unused places of an array
abbrev pub unused_row : ImageRow
unused_row = record { guid = nil_guid; slots = 0 }

-- the row that a layout block has at an index
abbrev pub layout_row_at : List ℕ → ℕ → ImageRow
layout_row_at block i = record { guid = take 16 (drop (32 + 24 * i) block); slots = num_at 4 block (48 + 24 * i) }

-- the last field of a row is zero
abbrev pub has_zero : List ℕ → ℕ → Bool
has_zero block i = num_at 4 block (52 + 24 * i) == 0

abbrev pub has_row_zeros : List ℕ → ℕ → Bool
has_row_zeros block count = list_all (has_zero block) (range_with_len 0 count)

-- a layout of a flash of so many blocks, or its first fault
unfoldable pub fitted : Layout → ℕ → Result Layout LayoutFault
fitted L blocks =
    if not (fits_layout L) then Err fault.BadField
    else if nat_lt blocks (blocks_needed L) then Err fault.BeyondFlash
    else Ok L
