-- Fronts of lists, searches, and tests that hold of the same numbers.
use Rattle.std.proofs.Common.{◌≡◌, ℕ, zero, suc, ◌+◌, ◌*◌, ◌<◌, ◌≤◌, Bool, true, false, ◌==◌, List, [], ◌∷◌, ◌++◌, length, take, drop, Some, None, refl, sym, ap, ◌∙◌, arith, ltb, cond, mul-le-mul_right, eqb-true}
use Rattle.std.proofs.lemmas.Bool.{ltb-false}
use Rattle.std.proofs.lemmas.List.Sums.{fails_before_first}
use Rattle.std.proofs.Math.Seq.{take-append_seam, drop-append_seam}
use Rattle.std.specs.Prelude.{position}
use Rattle.std.specs.List.{All, position_or_len, prefix_len, range_with_len}

-- the first of two lists, of a length that is known
pub take-front : (n : ℕ) (xs ys : List ℕ) → length xs ≡ n → take n (xs ++ ys) ≡ xs
take-front n xs ys is = ap (λ (k : ℕ). take k (xs ++ ys)) (sym is) ∙ take-append_seam xs ys

-- and the second
pub drop-front : (n : ℕ) (xs ys : List ℕ) → length xs ≡ n → drop n (xs ++ ys) ≡ ys
drop-front n xs ys is = ap (λ (k : ℕ). drop k (xs ++ ys)) (sym is) ∙ drop-append_seam xs ys

-- one of several pieces of one size ends within all of them
pub piece-within : (piece pieces size : ℕ) → piece < pieces → piece * size + size ≤ pieces * size
piece-within piece pieces size lt = omega (arith, mul-le-mul_right size lt)

-- a search that finds nothing
pub none-found : {X : Type 0} (p : X → Bool) (xs : List X) → position p xs ≡ None → All (λ x. p x ≡ false) xs
none-found p xs e = go (ltb (position_or_len p xs) (length xs)) refl e
  where
    go : (b : Bool) → ltb (position_or_len p xs) (length xs) ≡ b → cond b (Some (position_or_len p xs)) None ≡ None → All (λ x. p x ≡ false) xs
    go true is h = absurd cc
    go false is h = λ k d lt. fails_before_first p xs k d (let le = ltb-false (position_or_len p xs) (length xs) is in omega (arith, le, lt))

-- as many numbers of a range pass at its front by two tests that agree on it
pub prefix-same : (p q : ℕ → Bool) (from n : ℕ) → ((j : ℕ) → from ≤ j → j < from + n → p j ≡ q j) → prefix_len p (range_with_len from n) ≡ prefix_len q (range_with_len from n)
prefix-same p q from zero h = refl
prefix-same p q from (suc n) h = rw (h from (omega arith) (omega arith), prefix-same p q (from + 1) n (λ j low high. h j (omega (arith, low)) (omega (arith, high)))) refl

-- a list of which it is asked whether it is empty
pub some_left : {X : Type 0} (b : Bool) (rest : List X) → b ≡ (length rest == 0) → b ≡ false → 0 < length rest
some_left b [] is h = absurd cc
some_left b (x ∷ rest) is h = omega arith

pub none_left : {X : Type 0} (b : Bool) (rest : List X) → b ≡ (length rest == 0) → b ≡ true → rest ≡ []
none_left b [] is h = refl
none_left b (x ∷ rest) is h = absurd (omega (arith, eqb-true (length (x ∷ rest)) 0 (sym is ∙ h)))
