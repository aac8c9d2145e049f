-- Tests of two lists side by side, of which the second one is listed.
use Rattle.std.proofs.Common.{◌≡◌, ℕ, zero, suc, ◌+◌, ◌<◌, Bool, true, false, ◌&&◌, List, [], ◌∷◌, length, get_or, map, refl, sym, ap, ◌∙◌, arith, add-zero, zero-add}
use Rattle.std.specs.List.{range_with_len}
use Rattle.fwu_formats.specs.Manifest.{all_paired}

and_true : (a b : Bool) → true ≡ a → true ≡ b → true ≡ (a && b)
and_true true b ha hb = hb
and_true false b ha hb = ha

and_first : (a b : Bool) → false ≡ a → false ≡ (a && b)
and_first true b h = absurd cc
and_first false b h = refl

and_second : (a b : Bool) → false ≡ b → false ≡ (a && b)
and_second true b h = h
and_second false b h = refl

module _ {X Y : Type 0} (test : X → Y → Bool) (f : ℕ → Y) where
  paired_all : (xs : List X) (from : ℕ) → ((k : ℕ) (d : X) → k < length xs → true ≡ test (get_or xs k d) (f (from + k)))
      → true ≡ all_paired test xs (map f (range_with_len from (length xs)))
  paired_all [] from each = refl
  paired_all (x ∷ xs) from each =
      and_true _ _ (each 0 x (omega arith) ∙ ap (λ k. test x (f k)) (add-zero from))
      (paired_all xs (from + 1) (λ k d h. each (suc k) d (omega arith) ∙ ap (λ (n : ℕ). test (get_or xs k d) (f n)) (omega arith)))

  paired_not : (xs : List X) (from k : ℕ) (d : X) → k < length xs → false ≡ test (get_or xs k d) (f (from + k))
      → false ≡ all_paired test xs (map f (range_with_len from (length xs)))
  paired_not [] from k d h fails = absurd (omega arith)
  paired_not (x ∷ xs) from zero d h fails = and_first _ _ (fails ∙ ap (λ k. test x (f k)) (add-zero from))
  paired_not (x ∷ xs) from (suc k) d h fails =
      and_second (test x (f from)) _ (paired_not xs (from + 1) k d (omega arith) (fails ∙ ap (λ (n : ℕ). test (get_or xs k d) (f n)) (omega arith)))

  -- from the first row on
  pub all_pass : (xs : List X) → ((k : ℕ) (d : X) → k < length xs → true ≡ test (get_or xs k d) (f k))
      → true ≡ all_paired test xs (map f (range_with_len 0 (length xs)))
  all_pass xs each = paired_all xs 0 (λ k d h. each k d h ∙ ap (λ (n : ℕ). test (get_or xs k d) (f n)) (sym (zero-add k)))

  pub one_fails : (xs : List X) (k : ℕ) (d : X) → k < length xs → false ≡ test (get_or xs k d) (f k)
      → false ≡ all_paired test xs (map f (range_with_len 0 (length xs)))
  one_fails xs k d h fails = paired_not xs 0 k d h (fails ∙ ap (λ (n : ℕ). test (get_or xs k d) (f n)) (sym (zero-add k)))
