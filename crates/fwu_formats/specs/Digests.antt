-- Lists of digests, and the manifests that pass: any, or those whose digests are listed.
use Rattle.std.specs.Prelude.{ℕ, ◌+◌, Bool, true, ◌==◌, if◌then◌else◌, List, [], ◌∷◌, length, Option, Some, None, Result, Ok, Err}
use Rattle.std.specs.List.{list_any, slice_split}
use Rattle.sha2.specs.Sha256.{sha256}
use Rattle.hex.specs.Hex.{decode_of}
use Rattle.base_core.specs.Bytes.{same_bytes}
use Rattle.fwu_formats.specs.Words.{ok_bytes}

-- the manifests with a digest of the list pass
unfoldable pub passes_listed : List (List ℕ) → List ℕ → Bool
passes_listed digests manifest = list_any (same_bytes (sha256 manifest)) digests

-- any manifest passes
abbrev pub passes_any : List ℕ → Bool
passes_any manifest = true

-- ---- the file: lines of 64 hexadecimal digits, each with an end

abbrev pub digest_of : List ℕ → Option (List ℕ)
digest_of line = if length line == 64 then ok_bytes (decode_of line) else None

abbrev pub onto_digests : ℕ → Option (List ℕ) → Result (List (List ℕ)) ℕ → Result (List (List ℕ)) ℕ
onto_digests n None later = Err n
onto_digests n (Some digest) (Ok digests) = Ok (digest ∷ digests)
onto_digests n (Some digest) (Err line) = Err line

-- the parts between line ends; nothing may stand behind the last one
abbrev pub digests_from : ℕ → List (List ℕ) → Result (List (List ℕ)) ℕ
digests_from n [] = Ok []
digests_from n (last ∷ []) = if length last == 0 then Ok [] else Err n
digests_from n (line ∷ next ∷ more) = onto_digests n (digest_of line) (digests_from (n + 1) (next ∷ more))

-- the digests of a file, or the number of its first bad line, from 1
unfoldable pub digests_of : List ℕ → Result (List (List ℕ)) ℕ
digests_of bytes = digests_from 1 (slice_split (λ b. b == 10) bytes)
