-- The packages of a soak's rounds stand under the rounds' names, and each installs its images.
use Rattle.std.proofs.Common.{◌≡◌, ℕ, zero, suc, ◌+◌, ◌^◌, ◌<◌, ◌≤◌, false, List, ◌++◌, get_or, Some, refl, sym, ap, subst, ◌∙◌, arith, inl, inr, IsTrue, codes, add-zero}
use Rattle.std.specs.Prelude.{decimal}
use Rattle.std.proofs.lemmas.Bool.{cases_Bool, cond-true, cond-false}
use Rattle.std.proofs.lemmas.Fmt.{decimal_injective}
use Rattle.base_core.specs.Bytes.{same_bytes}
use Rattle.fwu_model.proofs.Staging.{same-is}
use Rattle.gen_core.specs.{Draws.draw, Draws.drawn, Draws.register_after, Generated.fit_sizes, Generated.generated_images}
use Rattle.gen_core.specs.{Law.InstallsPackage, Law.RoundsHavePackages, Setup.soak_layout, declared.rounds.Round.Round}
use Rattle.gen_core.specs.Calls.{file_name, packages_of, round_package}
use Rattle.gen_core.specs.Rounds.{draws_of, round_of, rounds_from, security_in_round, sizes_in_round, soak_rounds}
use Rattle.gen_core.proofs.{Making.soak-images, Making.soak-sizes_fit, Completing.generated-are-complete}
use Rattle.base_core.proofs.Spelled.{same_refl}

-- ---- names

number-is : (x number : ℕ) → (round_of x number).number ≡ number
unfolding round_of
number-is x number = refl

name-apart : (a b : ℕ) → a < 2 ^ 64 → b < 2 ^ 64 → (a ≡ b → ⊥) → same_bytes (file_name a) (file_name b) ≡ false
name-apart a b low least ne = elim (cases_Bool (same_bytes (file_name a) (file_name b))) [
  | inl e ↦ absurd
      (ne (decimal_injective a b low least (behind (decimal a) (decimal b) (same-is (file_name a) (file_name b) e))))
  | inr e ↦ e
]
  where
    behind : (xs ys : List ℕ) → codes "g" ++ xs ≡ codes "g" ++ ys → xs ≡ ys
    behind xs ys e = cc

named : (x first n k : ℕ) (d : Round) → first + n < 2 ^ 64 → k < n → packages_of (rounds_from x first n) (file_name (first + k)) ≡ Some
    (round_package (get_or (rounds_from x first n) k d))
named x first zero k d low lt = absurd (omega (arith, lt))
named x first (suc n) zero d low lt =
    let r = round_of x first in
    let name : file_name r.number ≡ file_name (first + 0) = ap file_name (number-is x first ∙ sym (add-zero first)) in
    cond-true (same_bytes (file_name (first + 0)) (file_name r.number)) _ _
    (subst (λ (t : List ℕ). IsTrue (same_bytes (file_name (first + 0)) t)) (sym name) (same_refl (file_name (first + 0))))
named x first (suc n) (suc k) d low lt =
    let r = round_of x first in
    let next : first + suc k ≡ first + 1 + k = omega arith in
    let apart = name-apart (first + suc k) first (omega (arith, low, lt)) (omega (arith, low)) (λ e. absurd (omega (arith, e))) in
    cond-false (same_bytes (file_name (first + suc k)) (file_name r.number)) _ _
    (ap (λ (m : ℕ). same_bytes (file_name (first + suc k)) (file_name m)) (number-is x first) ∙ apart)
    ∙ ap (λ (m : ℕ). packages_of (rounds_from (register_after (draws_of x) x) (first + 1) n) (file_name m)) next
    ∙ named (register_after (draws_of x) x) (first + 1) n k d (omega (arith, low)) (omega (arith, lt))

-- ---- sizes and versions

draw-below : (x number limit : ℕ) → 0 < limit → draw x number limit < limit
unfolding drawn
draw-below x number limit some = omega arith

sizes-fit-soak : (x : ℕ) → IsTrue (fit_sizes soak_layout.rows (sizes_in_round x))
sizes-fit-soak x =
    let first = draw-below x 1 8193 (omega arith) in
    let second = draw-below x 2 16385 (omega arith) in
    soak-sizes_fit (draw x 1 8193) (draw x 2 16385) (omega (arith, first)) (omega (arith, second))

security-low : (number lower : ℕ) → security_in_round number lower ≤ 223
security-low number lower = omega arith

each-installs : (x number : ℕ) → number < 4294967296
    → let r = round_of x number in InstallsPackage soak_layout.rows (round_package r) (generated_images soak_layout.rows r.sizes r.number r.security) r.security
unfolding round_of
each-installs x number low =
    generated-are-complete soak_layout.rows (sizes_in_round x) number (security_in_round number (draw x 3 2)) soak-images (sizes-fit-soak x) low
    (security-low number (draw x 3 2))

pub rounds-have-packages : RoundsHavePackages
rounds-have-packages = record {
  named = λ seed n k d low lt.
      let at : 1 + k ≡ k + 1 = omega arith in
      ap (λ (m : ℕ). packages_of (soak_rounds seed n) (file_name m)) (sym at) ∙ named (register_after 2 seed) 1 n k d (omega (arith, low)) lt;
  first = λ seed. generated-are-complete soak_layout.rows (sizes_in_round seed) 0 1 soak-images (sizes-fit-soak seed) (omega arith) (omega arith);
  each = each-installs;
}
