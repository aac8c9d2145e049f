-- The lowest bad image.
use Rattle.std.proofs.Common.{◌≡◌, ℕ, zero, suc, ◌+◌, ◌-◌, ◌≤◌, ◌<◌, Bool, true, false, length, take, Some, None, refl, sym, ap, ◌∙◌, subst, arith, inl, inr, Ok}
use Rattle.std.proofs.lemmas.Bool.{cases_eq, cases_lt}
use Rattle.flash_core.specs.{declared.flash.Flash.Ghosts, Calls.Reads}
use Rattle.fwu_formats.specs.Layout.{slot_total}
use Rattle.image_check.specs.{Verdict.lowest_bad, declared.image.Images.Images}
use Rattle.image_check.specs.Taken.{IsFoundAt, IsLowestBad, is_good_in}

-- the images of the first rows are good, the last of them begins at this block, and nothing but reads was done
pub record HasPassed {D : Type 0} (g : Ghosts D) (old new : D) (images : Images) (block k : ℕ) : Type 0 where
  pub reads : Reads {X = Unit {0}} g (Ok tt) old new
  pub place : block ≡ images.first + slot_total (take k images.rows.now)
  pub all_good : (i : ℕ) → i < k → IsFoundAt g old images i true

pub none_bad : (good : ℕ → Bool) (k n : ℕ) → ((i : ℕ) → k ≤ i → i < k + n → good i ≡ true) → None ≡ lowest_bad good k n
none_bad good k zero each = refl
none_bad good k (suc n) each = rw (each k (omega arith) (omega arith)) (none_bad good (k + 1) n (λ i low high. each i (omega arith) (omega arith)))

pub one_bad : (good : ℕ → Bool) (k n i : ℕ) → k ≤ i → i < k + n → good i ≡ false → ((j : ℕ) → k ≤ j → j < i → good j ≡ true) → Some (i + 1) ≡ lowest_bad good k n
one_bad good k zero i low high bad before = absurd (omega (arith, low, high))
one_bad good k (suc n) i low high bad before =
    elim (cases_eq k i) [
      | inl same ↦ rw (ap good same ∙ bad) (ap (λ (j : ℕ). Some (j + 1)) (sym same))
      | inr other ↦ rw (before k (omega arith) (omega arith)) (one_bad good (k + 1) n i (omega arith) (omega arith) bad (λ j above below. before j (omega arith) below))
    ]

pub same_bad : (f g : ℕ → Bool) (k n : ℕ) → ((i : ℕ) → k ≤ i → i < k + n → f i ≡ g i) → lowest_bad f k n ≡ lowest_bad g k n
same_bad f g k zero same = refl
same_bad f g k (suc n) same = rw (same k (omega arith) (omega arith), same_bad f g (k + 1) n (λ i low high. same i (omega arith) (omega arith))) refl

module _ {D : Type 0} (g : Ghosts D) (d : D) (images : Images) where
  -- one more good image
  pub found_more : (k : ℕ) → ((i : ℕ) → i < k → IsFoundAt g d images i true) → IsFoundAt g d images k true → (i : ℕ) → i < k + 1 → IsFoundAt g d images i true
  found_more k before here i below = elim (cases_lt i k) [
    | inl under ↦ before i under
    | inr over ↦ let at : i ≡ k = omega arith in subst (λ (j : ℕ). IsFoundAt g d images j true) (sym at) here
  ]

  -- in the end
  pub one_found : (k : ℕ) → k < length images.rows.now - 1 → ((i : ℕ) → i < k → IsFoundAt g d images i true) → IsFoundAt g d images k false
      → IsLowestBad g d images (Some (k + 1))
  one_found k within each bad = record {
    told = λ tells.
        one_bad (is_good_in (g.told d).now images) 0 (length images.rows.now - 1) k (omega arith) (omega arith) (sym (bad.told tells))
        (λ i low below. sym ((each i below).told tells));
    some = (omega arith, omega arith, λ i below. (each i (omega (arith, below))).some refl);
  }

  pub none_found : ((i : ℕ) → i < length images.rows.now - 1 → IsFoundAt g d images i true) → IsLowestBad g d images None
  none_found each = record {
    told = λ tells. none_bad (is_good_in (g.told d).now images) 0 (length images.rows.now - 1) (λ i low high. sym ((each i (omega (arith, high))).told tells));
    some = λ i below. (each i below).some refl;
  }
