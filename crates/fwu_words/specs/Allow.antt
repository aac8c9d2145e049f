-- Whether the words begin with a list of the manifests that pass.
use Rattle.std.specs.Prelude.{◌≡◌, ℕ, true, false, List, ◌∷◌, None, codes, map, string_bytes, IsTrue}
use Rattle.fwu_model.specs.Allow.{asks_list, list_name}
use Rattle.fwu_formats.specs.Words.{is_file}
use Rattle.fwu_words.specs.declared.allow.Allow.{Allow}
use Rattle.fwu_words.specs.declared.allow.Allow.TheVariants.{No, Usage, File}

-- `--allow` and a name that a file may have, and the words that follow them
pub record NamesList (words : List (List ℕ)) (name : List ℕ) (rest : List (List ℕ)) : Type 0 where
  pub whole : words ≡ codes "--allow" ∷ name ∷ rest
  pub file : IsTrue (is_file name)

-- `--allow` with no name behind it that a file may have
pub record NamesNone (words : List (List ℕ)) : Type 0 where
  pub asks : asks_list words ≡ true
  pub none : list_name words ≡ None

-- which of the three the words are
abbrev pub Begins : Allow → List (List ℕ) → Type 0
Begins No words = asks_list words ≡ false
Begins Usage words = NamesNone words
Begins (File name rest) words = NamesList words name.now (map string_bytes rest.now)
