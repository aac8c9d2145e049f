-- The values on the command line of `fwu`.
use Rattle.std.specs.Prelude.{ℕ, ◌==◌, ◌&&◌, List, Option, Some, None, if◌then◌else◌, nat_le, option_and_then}
use Rattle.std.specs.List.{slice_split}
use Rattle.base_core.specs.Limits.{fewest_banks, most_banks}
use Rattle.fwu_formats.specs.Layout.{ImageRow}
pub use Rattle.clap_words.specs.Values.{each}
unfoldable pub use Rattle.clap_words.specs.Values.{file_named, name_of, number_read, split_of}

-- the numbers of banks that a flash may have
abbrev pub if_banks : ℕ → Option ℕ
if_banks n = if nat_le fewest_banks n && nat_le n most_banks then Some n else None

-- the number of banks, and the fewest where none is given
abbrev pub banks_of : Option (List ℕ) → Option ℕ
banks_of None = Some fewest_banks
banks_of (Some text) = option_and_then if_banks (number_read text)

-- NAME:SLOTS
unfoldable pub slots_row_of : List ℕ → Option ImageRow
slots_row_of text =
    option_and_then (λ p. option_and_then (λ guid. option_and_then (λ slots. Some (record { guid = guid; slots = slots }))
    (number_read p.1)) (name_of p.0)) (split_of 58 text)

-- LAYOUT: NAME:SLOTS once or more, parted by commas
unfoldable pub rows_of : List ℕ → Option (List ImageRow)
rows_of text = each slots_row_of (slice_split (λ b. b == 44) text)
