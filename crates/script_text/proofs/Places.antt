-- The first byte of a value, as memchr tells it, is its position.
use Rattle.std.proofs.Common.{◌≡◌, ℕ, ◌<◌, ◌≤◌, Bool, inl, inr, List, length, Option, Some, None, refl, sym, ap, arith, ◌∙◌}
use Rattle.std.specs.Prelude.{position}
use Rattle.std.proofs.lemmas.Grind.{common_steps}
use Rattle.std.proofs.lemmas.Bool.{cases_lt, true≢false}
use Rattle.std.proofs.lemmas.List.Quantifiers.{position-Some}
use Rattle.std.proofs.lemmas.List.Sums.{fails_before_first}
use Rattle.std.specs.List.{position_or_len}
use Rattle.memchr.specs.Find.{IsFirstByte}

first_is : (test : ℕ → Bool) (hay : List ℕ) (r p : Option ℕ) → IsFirstByte test hay r → position test hay ≡ p → r ≡ p
first_is test hay None None h e = refl
first_is test hay None (Some i) h e =
    let found = position-Some test hay i 0 e in
    absurd (h i (omega arith) found.0 found.1)
first_is test hay (Some k) None h e =
    let all : length hay ≤ position_or_len test hay = grind (arith, common_steps, e) in
    let inside : k < length hay = h.0.high in
    absurd (true≢false (sym h.1 ∙ fails_before_first test hay k 0 (omega (arith, all, inside))))
first_is test hay (Some k) (Some i) h e =
    let found = position-Some test hay i 0 e in
    elim (cases_lt i k) [
      | inl below ↦ absurd (h.0.before i (omega arith) below found.1)
      | inr above ↦
          elim (cases_lt k i) [
            | inl later ↦ absurd (true≢false (sym h.1 ∙ found.2 k later))
            | inr same ↦
                let one : k ≡ i = omega arith in
                ap Some one
          ]
    ]

pub position-by_first : (test : ℕ → Bool) (hay : List ℕ) (r : Option ℕ) → IsFirstByte test hay r → r ≡ position test hay
position-by_first test hay r h = first_is test hay r (position test hay) h refl
