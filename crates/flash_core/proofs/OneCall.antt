-- One erase or program within a guarded block of a device with nothing dirty. A loss leaves the whole image as it was, or with the call done,
-- or the block has no seal; outside the block nothing changes.
use Rattle.std.proofs.Common.{◌≡◌, ◌⊎◌, inl, inr, ℕ, ◌+◌, ◌-◌, ◌*◌, ◌<◌, ◌≤◌, List, length, get_or, sym, ◌∙◌, ap, arith, refl, subst}
use Rattle.std.proofs.lemmas.Bool.{cases_lt}
use Rattle.std.proofs.lemmas.List.{ext_get_or}
use Rattle.std.specs.List.{list_any}
use Rattle.std.specs.Prelude.{IsTrue, IsFalse, ◌==◌, Result, Ok, Err}
use Rattle.base_core.specs.{Block.block, Seal.Sealed}
use Rattle.base_core.proofs.Blocks.{get_or-block}
use Rattle.flash_core.specs.Told.{Told, NothingDirty, is_unsure, is_guarded, put, halt, written, fresh, finished, overwritten}
use Rattle.flash_core.specs.May.{as_stable, as_now, as_finished, unsealed, May}
use Rattle.flash_core.proofs.Calls.{outside_within, sure_put, sure_halt, now-put, now-halt, stable-put, stable-halt, finished-put, finished-halt, guard-put, guard-halt}
use Rattle.flash_core.proofs.Images.{length-overwritten, overwritten_below, overwritten_above}

-- two images are one where they have one block alike, and all bytes outside it
pub same_image : (b : ℕ) (image other : List ℕ) → 4096 * b + 4096 ≤ length image → length image ≡ length other → block b image ≡ block b other
    → ((i : ℕ) → (i < 4096 * b) ⊎ (4096 * b + 4096 ≤ i) → get_or image i 0 ≡ get_or other i 0) → image ≡ other
same_image b image other inside size same outside =
    ext_get_or 0 image other size (λ i below. at i (cases_lt i (4096 * b)) (cases_lt i (4096 * b + 4096)))
  where
    at : (i : ℕ) → (i < 4096 * b) ⊎ (4096 * b ≤ i) → (i < 4096 * b + 4096) ⊎ (4096 * b + 4096 ≤ i) → get_or image i 0 ≡ get_or other i 0
    at i (inl low) _ = outside i (inl low)
    at i (inr _) (inr high) = outside i (inr high)
    at i (inr low) (inl high) =
        let back : 4096 * b + (i - 4096 * b) ≡ i = omega (arith, low) in
        ap (λ j. get_or image j 0) (sym back)
        ∙ sym (get_or-block b image (i - 4096 * b) 0 (omega (arith, low, high)))
        ∙ ap (λ (l : List ℕ). get_or l (i - 4096 * b) 0) same
        ∙ get_or-block b other (i - 4096 * b) 0 (omega (arith, low, high))
        ∙ ap (λ j. get_or other j 0) back

-- where nothing is dirty, each byte is sure, and stable is now
pub sure_settled : (s : Told) → NothingDirty s → (i : ℕ) → IsFalse (is_unsure s i)
unfolding is_unsure fresh
sure_settled s settled i = subst (λ (t : Told). IsFalse (is_unsure t i)) (sym settled) refl

pub stable_settled : (s : Told) → NothingDirty s → s.stable ≡ s.now
unfolding fresh
stable_settled s settled = ap (λ (t : Told). t.stable) settled

-- as it was, with the call done, or the block has no seal
abbrev pub IsLeft : ℕ → List ℕ → List ℕ → List ℕ → Type 0
IsLeft b before done image = (image ≡ before) ⊎ ((image ≡ done) ⊎ (Sealed (block b image) → ⊥))

module _ (b at : ℕ) (bytes : List ℕ) (s : Told) (above : 4096 * b ≤ at) (below : at + length bytes ≤ 4096 * b + 4096) (inside : 4096 * b + 4096 ≤ length s.now) (settled : NothingDirty s) where
  -- the image with the call done
  abbrev pub done : List ℕ
  done = overwritten at bytes s.now

  fits : at + length bytes ≤ length s.now
  fits = omega (arith, inside, below)

  done_size : length done ≡ length s.now
  done_size = length-overwritten at bytes s.now fits

  wide : (i : ℕ) → (i < 4096 * b) ⊎ (4096 * b + 4096 ≤ i) → (i < at) ⊎ (at + length bytes ≤ i)
  wide = outside_within (4096 * b) (4096 * b + 4096) at (at + length bytes) above below

  done_outside : (i : ℕ) → (i < 4096 * b) ⊎ (4096 * b + 4096 ≤ i) → get_or done i 0 ≡ get_or s.now i 0
  done_outside i out = elim (wide i out) [
    | inl low ↦ overwritten_below at bytes s.now fits i 0 low
    | inr high ↦ overwritten_above at bytes s.now fits i 0 high
  ]

  -- what is told after the call: now and the finished image are as before, or with the call done
  record After (t : Told) : Type 0 where
    pub stable : t.stable ≡ s.now
    pub now : (t.now ≡ s.now) ⊎ (t.now ≡ done)
    pub finished_is : (finished t ≡ s.now) ⊎ (finished t ≡ done)
    pub guard : t.guard ≡ s.guard
    pub sure : (i : ℕ) → (i < 4096 * b) ⊎ (4096 * b + 4096 ≤ i) → IsFalse (is_unsure t i)

  after_halt : After (halt at bytes s)
  after_halt = record {
    stable = stable-halt at bytes s ∙ stable_settled s settled;
    now = inl (now-halt at bytes s);
    finished_is = inr (finished-halt at bytes s);
    guard = guard-halt at bytes s;
    sure = λ i out. sure_halt at bytes s i (wide i out) (sure_settled s settled i);
  }

  after_put : After (put at bytes s)
  after_put = record {
    stable = stable-put at bytes s ∙ stable_settled s settled;
    now = inr (now-put at bytes s);
    finished_is = inr (finished-put at bytes s);
    guard = guard-put at bytes s;
    sure = λ i out. sure_put at bytes s i (wide i out) (sure_settled s settled i);
  }

  size_of_now : (t : Told) → (t.now ≡ s.now) ⊎ (t.now ≡ done) → length t.now ≡ length s.now
  size_of_now t (inl e) = ap length e
  size_of_now t (inr e) = ap length e ∙ done_size

  now_outside : (t : Told) → (t.now ≡ s.now) ⊎ (t.now ≡ done) → (i : ℕ) → (i < 4096 * b) ⊎ (4096 * b + 4096 ≤ i) → get_or t.now i 0 ≡ get_or s.now i 0
  now_outside t (inl e) i out = ap (λ (l : List ℕ). get_or l i 0) e
  now_outside t (inr e) i out = ap (λ (l : List ℕ). get_or l i 0) e ∙ done_outside i out

  module _ (t : Told) (image : List ℕ) (after : After t) (may : May t image) where
    size : length image ≡ length s.now
    size = may.leaves.size ∙ size_of_now t after.now

    outside : (i : ℕ) → (i < 4096 * b) ⊎ (4096 * b + 4096 ≤ i) → get_or image i 0 ≡ get_or s.now i 0
    outside i out = may.leaves.sure i (after.sure i out) ∙ now_outside t after.now i out

    by_block : (x : List ℕ) → block b image ≡ block b x → (x ≡ s.now) ⊎ (x ≡ done) → IsLeft b s.now done image
    by_block x same (inl is) = inl (same_image b image s.now (omega (arith, inside, size)) size (same ∙ ap (block b) is) outside)
    by_block x same (inr is) = inr (inl (same_image b image done (omega (arith, inside, size)) (size ∙ sym done_size) (same ∙ ap (block b) is) (λ i out. outside i out ∙ sym (done_outside i out))))

    left_after : IsTrue (is_guarded s b) → IsLeft b s.now done image
    left_after guarded = elim (may.no_chance b (subst (λ (g : List ℕ). IsTrue (list_any (λ k. k == b) g)) (sym after.guard) guarded)) [
      | as_stable e ↦ by_block t.stable e (inl after.stable)
      | as_now e ↦ by_block t.now e after.now
      | as_finished e ↦ by_block (finished t) e after.finished_is
      | unsealed none ↦ inr (inr none)
    ]

  after_written : {T E : Type 0} (result : Result T E) → After (written result at bytes s)
  after_written (Ok x) = after_put
  after_written (Err e) = after_halt

  -- an erase or a program with any result
  pub one_call_left : {T E : Type 0} (result : Result T E) (image : List ℕ) → IsTrue (is_guarded s b) → May (written result at bytes s) image → IsLeft b s.now done image
  one_call_left result image guarded may = left_after (written result at bytes s) image (after_written result) may guarded

  pub one_call_outside : {T E : Type 0} (result : Result T E) (image : List ℕ) → May (written result at bytes s) image
      → (i : ℕ) → (i < 4096 * b) ⊎ (4096 * b + 4096 ≤ i) → get_or image i 0 ≡ get_or s.now i 0
  one_call_outside result image may = outside (written result at bytes s) image (after_written result) may
