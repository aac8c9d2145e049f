-- The calls of words, and lines with none.
use Rattle.std.proofs.Common.{◌≡◌, ℕ, Bool, cond, codes, ap, true, false, ◌==◌, List, [], ◌∷◌, length, ◌<◌, Some, None, refl, arith}
use Rattle.std.specs.Prelude.{option_map}
use Rattle.std.specs.List.{slice_split}
use Rattle.fwu_model.specs.Script.{begin_call, call_of_others, call_of_words, line_of}
use Rattle.fwu_formats.specs.Words.{is_word}
use Rattle.script_text.specs.Shown.{is_nothing}

-- what isn't `begin`, and has five words and more
pub five_words : (w a b c : List ℕ) (others : List (List ℕ)) → 0 < length others → call_of_others (w ∷ a ∷ b ∷ c ∷ others) ≡ None
five_words w a b c [] some = absurd (omega (arith, some))
five_words w a b c (d ∷ more) some = refl

pub begin_words : (w : List ℕ) (names : List (List ℕ)) → 0 < length names → is_word w (codes "begin") ≡ true → call_of_words (w ∷ names) ≡ begin_call names
begin_words w [] some is = absurd (omega (arith, some))
begin_words w (a ∷ others) some is = ap (λ (b : Bool). cond b (begin_call (a ∷ others)) (call_of_others (w ∷ a ∷ others))) is

pub line_nothing : (line : List ℕ) → is_nothing line ≡ true → line_of line ≡ Some None
unfolding line_of
line_nothing [] is = refl
line_nothing (c ∷ rest) is = rw is refl

pub line_call : (line : List ℕ) → is_nothing line ≡ false → line_of line ≡ option_map Some (call_of_words (slice_split (λ b. b == 32) line))
unfolding line_of
line_call [] fails = absurd cc
line_call (c ∷ rest) fails = rw fails refl
