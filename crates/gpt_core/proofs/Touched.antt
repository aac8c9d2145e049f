-- Which blocks of the flash, and of the device besides it, an erase or a program of the device touches.
use Rattle.std.proofs.Common.{◌≡◌, ◌⊎◌, inl, inr, ℕ, ◌+◌, ◌-◌, ◌*◌, ◌/◌, ◌<◌, ◌≤◌, Some, ◌∙◌, arith, refl, subst}
use Rattle.std.proofs.lemmas.Bool.{cases_lt, lt-ltb, le-ltb}
use Rattle.flash_core.specs.Touches.{TouchesOnly}
use Rattle.gpt_core.specs.{declared.layout.Places.Places, Places.behind, Places.byte_behind, Places.Fit, View.place_seen}
use Rattle.gpt_core.specs.{View.writes_seen, Beside.IsHiddenBlock, Beside.TouchesPlaces}
use Rattle.gpt_core.proofs.Seen.{Shown, beside_or_within, shown_seen, byte_in}

-- a place isn't beside the bytes that begin with it
never_beside : (k there n : ℕ) → 0 < n → k ≡ there → (k < there) ⊎ (there + n ≤ k) → ⊥
never_beside k there n some is (inl low) = omega (arith, low, is)
never_beside k there n some is (inr high) = omega (arith, high, is, some)

-- a block each of whose bytes lies beside a range lies beside it whole
whole_beside : (c there n : ℕ) → 0 < n → ((k : ℕ) → k < 4096 → (4096 * c + k < there) ⊎ (there + n ≤ 4096 * c + k)) → (4096 * c + 4096 ≤ there) ⊎ (there + n ≤ 4096 * c)
whole_beside c there n some out = elim (out 0 (omega arith)) [
  | inr past ↦ inr (omega (arith, past))
  | inl first ↦ elim (out 4095 (omega arith)) [
    | inl last ↦ inl (omega (arith, last))
    | inr past ↦ absurd (never_beside (4096 * c + (there - 4096 * c)) there n some (omega (arith, first)) (out (there - 4096 * c) (omega (arith, first, past, some))))
  ]
]

module _ (p : Places) (blocks : ℕ) (fit : Fit blocks p) (there here n : ℕ) (some : 0 < n) (seen : place_seen p there n ≡ Some here) (old new : ℕ → ℕ) (only : TouchesOnly there (there + n) old new) where
  shown : Shown p there here n
  shown = shown_seen p blocks fit there n here seen

  byte_beside : (b k : ℕ) → k < 4096 → (4096 * b + 4096 ≤ here) ⊎ (here + n ≤ 4096 * b) → (4096 * b + k < here) ⊎ (here + n ≤ 4096 * b + k)
  byte_beside b k small (inl low) = inl (omega (arith, small, low))
  byte_beside b k small (inr high) = inr (omega (arith, high))

  pub touches-seen : TouchesOnly here (here + n) (writes_seen p old) (writes_seen p new)
  touches-seen b out = elim (cases_lt b p.store_blocks) [
    | inl within ↦
        let beside = whole_beside (behind p b) there n some (λ k small. subst (λ j. (j < there) ⊎ (there + n ≤ j)) (byte_in p b k small) (shown.apart (4096 * b + k) (omega (arith, within, small)) (byte_beside b k small out))) in
        rw (lt-ltb b p.store_blocks within) (only (behind p b) beside)
    | inr past ↦ rw (le-ltb b p.store_blocks past) refl
  ]

  hidden_beside : (c k : ℕ) → IsHiddenBlock p c → k < 4096 → (4096 * c + k < there) ⊎ (there + n ≤ 4096 * c + k)
  unfolding byte_behind
  hidden_beside c k hidden small = elim (beside_or_within there n (4096 * c + k)) [
    | inl out ↦ out
    | inr within ↦
        let i = here + (4096 * c + k - there) in
        let at = shown.at i (omega arith) (omega (arith, within)) in
        absurd (hidden (i / 4096) (omega (arith, within, shown.inside)) (omega (arith, at, within, small)))
  ]

  pub touches-places : (started : ℕ → ℕ) → TouchesPlaces p started old → TouchesPlaces p started new
  touches-places started before c hidden = only c (whole_beside c there n some (λ k small. hidden_beside c k hidden small)) ∙ before c hidden
