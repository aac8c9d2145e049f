-- The values on the command line of `fip`.
use Rattle.std.specs.Prelude.{ℕ, ◌+◌, ◌==◌, ◌&&◌, Bool, false, List, Option, Some, None, length, take, drop, if◌then◌else◌, option_and_then, map, codes}
use Rattle.base_core.specs.{Bytes.same_bytes, Guid.guid_of, Guid.guid_text}
use Rattle.fwu_formats.specs.Layout.{are_distinct}
pub use Rattle.clap_words.specs.Values.{each}
unfoldable pub use Rattle.clap_words.specs.Values.{file_named, name_of, number_read, split_of}

-- PART: a payload's type, and the file that it comes from
pub record NamedFile : Type 0 where
  pub guid : List ℕ
  pub file : List ℕ

-- ROW: an image's type and version, and the file that it comes from
pub record NamedImage : Type 0 where
  pub guid : List ℕ
  pub version : ℕ
  pub file : List ℕ

-- NAME=FILE
unfoldable pub part_of : List ℕ → Option NamedFile
part_of text =
    option_and_then (λ p. option_and_then (λ guid. option_and_then (λ file. Some (record { guid = guid; file = file }))
    (file_named p.1)) (name_of p.0)) (split_of 61 text)

-- VERSION,FILE
unfoldable pub version_word_of : List ℕ → Option (ℕ × List ℕ)
version_word_of text =
    option_and_then (λ p. option_and_then (λ version. option_and_then (λ file. Some (version, file))
    (file_named p.1)) (number_read p.0)) (split_of 44 text)

-- NAME,VERSION,FILE
unfoldable pub named_row_of : List ℕ → Option NamedImage
named_row_of text =
    option_and_then (λ p. option_and_then (λ guid. option_and_then (λ v. Some (record { guid = guid; version = v.0; file = v.1 }))
    (version_word_of p.1)) (name_of p.0)) (split_of 44 text)

-- no type is named twice
abbrev pub if_distinct : {X : Type 0} → (X → List ℕ) → List X → Option (List X)
if_distinct guid xs = if are_distinct (map guid xs) then Some xs else None

unfoldable pub named_parts_of : List (List ℕ) → Option (List NamedFile)
named_parts_of texts = option_and_then (if_distinct (λ p. p.guid)) (each part_of texts)

unfoldable pub named_rows_of : List (List ℕ) → Option (List NamedImage)
named_rows_of texts = option_and_then (if_distinct (λ r. r.guid)) (each named_row_of texts)

unfoldable pub names_of : List (List ℕ) → Option (List (List ℕ))
names_of texts = option_and_then (if_distinct (λ guid. guid)) (each name_of texts)

-- the alignment, 1 where none is given
abbrev pub align_of : Option (List ℕ) → Option ℕ
align_of None = Some 1
align_of (Some text) = number_read text

-- ---- where `unpack` writes

abbrev pub bin : List ℕ
bin = codes ".bin"

abbrev pub is_spelled : Option (List ℕ) → List ℕ → Bool
is_spelled None text = false
is_spelled (Some guid) text = same_bytes (guid_text guid) text

-- a UUID's text in lower case
unfoldable pub is_lower_guid : List ℕ → Bool
is_lower_guid text = is_spelled (guid_of text) text

-- the file is one that `unpack` may write: the prefix, the lower-case text of a UUID, and `.bin`
unfoldable pub is_unpacked : List ℕ → List ℕ → Bool
is_unpacked prefix file =
    (length file == length prefix + 40) && same_bytes (take (length prefix) file) prefix
    && is_lower_guid (take 36 (drop (length prefix) file)) && same_bytes (drop (length prefix + 36) file) bin
