-- What the steps leave is sound.
use Rattle.std.proofs.Common.{◌≡◌, ◌⊎◌, inl, inr, ℕ, ◌+◌, ◌*◌, ◌<◌, ◌≤◌, true, List, length, get_or, IsFalse, sym, ◌∙◌, arith, refl}
use Rattle.std.proofs.lemmas.Bool.{or_parts, and_cases, leb-false, ltb-false}
use Rattle.std.specs.Prelude.{nat_le, nat_lt}
use Rattle.flash_core.specs.Told.{Told, IsSound, is_within, fresh, put, settle, overwritten}
use Rattle.flash_core.proofs.Images.{length-overwritten, overwritten_below, overwritten_above}

-- a byte outside a range lies before or behind it
outside : (at n i : ℕ) → IsFalse (is_within at n i) → (i < at) ⊎ (at + n ≤ i)
outside at n i out = elim (and_cases (nat_le at i) (nat_lt i (at + n)) out) [
  | inl below ↦ inl (leb-false at i below)
  | inr above ↦ inr (ltb-false i (at + n) above)
]

pub sound_put : (blocks at : ℕ) (bytes : List ℕ) (t : Told) → IsSound blocks true t → at + length bytes ≤ 4096 * blocks → IsSound blocks true (put at bytes t)
unfolding put
sound_put blocks at bytes t sound fits =
    let inside : at + length bytes ≤ length t.now = omega (arith, sound.size) in
    record {
      size = length-overwritten at bytes t.now inside ∙ sound.size;
      stable_size = sound.stable_size;
      kept = λ i clean.
          let parts = or_parts (is_within at (length bytes) i) (t.dirty i) clean in
          sound.kept i parts.1 ∙ sym (byte inside i (outside at (length bytes) i parts.0));
      idle = λ is_on. refl;
    }
  where
    byte : at + length bytes ≤ length t.now → (i : ℕ) → (i < at) ⊎ (at + length bytes ≤ i) → get_or (overwritten at bytes t.now) i 0 ≡ get_or t.now i 0
    byte inside i (inl below) = overwritten_below at bytes t.now inside i 0 below
    byte inside i (inr above) = overwritten_above at bytes t.now inside i 0 above

pub sound_fresh : (blocks : ℕ) (guard image : List ℕ) → length image ≡ 4096 * blocks → IsSound blocks true (fresh guard image)
unfolding fresh
sound_fresh blocks guard image size = record { size = size; stable_size = size; kept = λ i clean. refl; idle = λ on. refl }

pub sound_settle : (blocks : ℕ) (t : Told) → IsSound blocks true t → IsSound blocks true (settle t)
unfolding settle
sound_settle blocks t sound = sound_fresh blocks t.guard t.now sound.size
