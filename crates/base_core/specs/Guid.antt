-- The text of a GUID: 8-4-4-4-12 hexadecimal digits, the bytes in the order of the text.
use Rattle.std.specs.Prelude.{ℕ, List, Option, map, replicate}
use Rattle.std.specs.Char.{to_ascii_lowercase}
use Rattle.uuid.specs.Text.{hyphenated_text, lower, parsed_hyphenated}

-- the sixteen bytes that a text of 36 characters with four hyphens spells, in either case of letters
abbrev pub guid_of : List ℕ → Option (List ℕ)
guid_of text = parsed_hyphenated text

-- the text of sixteen bytes, in lower case
abbrev pub guid_text : List ℕ → List ℕ
guid_text bytes = hyphenated_text lower bytes

abbrev pub in_lower_case : List ℕ → List ℕ
in_lower_case text = map to_ascii_lowercase text

-- the nil UUID
abbrev pub nil_guid : List ℕ
nil_guid = replicate 16 0
