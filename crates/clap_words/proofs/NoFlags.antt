-- What `clap` sees of a plain word.
use Rattle.std.proofs.Common.{◌≡◌, ◌==◌, false, [], ◌∷◌, None, refl, arith}
use Rattle.std.specs.Str.{bytes_eq}
use Rattle.std.proofs.lemmas.Bool.Decides.{nat_tests}
use Rattle.clap.specs.{Lexer.long_of, Lexer.short_of, Words.Text}
use Rattle.clap_words.specs.Plain.{IsPlain}

-- what `clap` sees of a word that is no flag
pub record IsNoFlag (word : Text) : Type 0 where
  pub long : long_of word ≡ None
  pub short : short_of word ≡ None
  pub dashes : bytes_eq word (45 ∷ 45 ∷ []) ≡ false

pub plain_is_no_flag : (word : Text) → IsPlain word → IsNoFlag word
plain_is_no_flag [] h = record { long = refl; short = refl; dashes = refl }
plain_is_no_flag (c ∷ word) h =
    let other : (c == 45) ≡ false = grind (arith, nat_tests) in
    record { long = rw other refl; short = rw other refl; dashes = rw other refl }
