-- What `split_once` gives.
use Rattle.std.proofs.Common.{◌≡◌, ◌<◌, ◌==◌, ℕ, true, false, List, Option, Some, None, Bor, length, nat_lt, option_map, refl, ap₂, arith}
use Rattle.std.specs.Prelude.{MatchOption}
use Rattle.std.specs.List.{position_or_len, before_first, after_first}
use Rattle.std.proofs.lemmas.Bool.Decides.{nat_tests}
use Rattle.clap_words.specs.Values.{split_of}

pub split_result : (c : ℕ) (text : List ℕ) (r : Option (Bor (List ℕ) × Bor (List ℕ)))
    → MatchOption r (position_or_len (λ b. b == c) text ≡ length text)
    (λ x. (position_or_len (λ b. b == c) text < length text) × (x.0.now ≡ before_first (λ b. b == c) text) × (x.1.now ≡ after_first (λ b. b == c) text))
    → option_map (λ p. (p.0.now, p.1.now)) r ≡ split_of c text
unfolding split_of
split_result c text None h =
    let past : nat_lt (position_or_len (λ b. b == c) text) (length text) ≡ false = grind (arith, nat_tests) in
    rw past refl
split_result c text (Some x) h =
    let within : nat_lt (position_or_len (λ b. b == c) text) (length text) ≡ true = (let l = h.0 in grind (arith, nat_tests)) in
    rw within (ap₂ (λ (a b : List ℕ). Some (a, b)) h.1 h.2)
