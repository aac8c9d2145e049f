-- The values of words.
use Rattle.std.specs.Prelude.{ℕ, ◌==◌, List, [], ◌∷◌, Option, Some, None, length, if◌then◌else◌, nat_lt, option_and_then, option_map}
use Rattle.std.specs.List.{position_or_len, before_first, after_first}
use Rattle.fwu_formats.specs.Words.{file_word_of, named, number_of}

-- NAME
unfoldable pub name_of : List ℕ → Option (List ℕ)
name_of text = named text

-- FILE
unfoldable pub file_named : List ℕ → Option (List ℕ)
file_named text = file_word_of text

-- NUMBER
unfoldable pub number_read : List ℕ → Option ℕ
number_read text = number_of text

-- the text before and after the first byte of this value
unfoldable pub split_of : ℕ → List ℕ → Option (List ℕ × List ℕ)
split_of c text =
    if nat_lt (position_or_len (λ b. b == c) text) (length text)
    then Some (before_first (λ b. b == c) text, after_first (λ b. b == c) text) else None

-- each element read, where all are
abbrev pub each : {X Y : Type 0} → (X → Option Y) → List X → Option (List Y)
each f [] = Some []
each f (x ∷ xs) = option_and_then (λ y. option_map (λ ys. y ∷ ys) (each f xs)) (f x)
