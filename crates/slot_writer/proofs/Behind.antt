-- Bytes behind those that are done.
use Rattle.std.proofs.Common.{◌≡◌, inl, inr, ℕ, ◌+◌, ◌-◌, ◌*◌, ◌<◌, ◌≤◌, List, length, get_or, drop, slice_range, sym, ◌∙◌, ap, arith}
use Rattle.std.proofs.lemmas.Bool.{cases_lt}
use Rattle.std.proofs.lemmas.List.{length-take, length-drop, get_or-take, get_or-drop, get_or_default, same_lists}
use Rattle.std.specs.Prelude.{Result, Ok, Err}
use Rattle.base_core.specs.Block.{blank}
use Rattle.base_core.proofs.Blocks.{length-blank, get_or-blank}
use Rattle.flash_core.specs.{declared.flash.FlashStop.FlashStop, Told.Told, Told.written, May.Keeps}
use Rattle.flash_core.proofs.Images.{overwritten_above, slice_range-overwritten}
use Rattle.flash_core.proofs.Calls.{keeps_wider, keeps_put, keeps_halt, now-put, stable-put, stable-halt}
use Rattle.slot_writer.specs.Slots.{Erases, Programs, IsBlankAhead, blocks_for}

-- so many bytes lie in the blocks that they reach
pub reached : (n : ℕ) → n ≤ 4096 * blocks_for n
reached n = omega arith

module _ (first done low high : ℕ) (bytes : List ℕ) (s m : Told) (low_is : low ≡ first + blocks_for done) (high_is : high ≡ first + blocks_for (done + length bytes)) (some : 0 < length bytes) where
  abbrev at : ℕ
  at = 4096 * first + done

  abbrev end : ℕ
  end = first + blocks_for (done + length bytes)

  module _ {T : Type 0} (x : T) (room : 4096 * end ≤ length s.now) (ahead : IsBlankAhead first done s.now) (erases : Erases {T = T} (Ok x) low high s m) where
    wide : Keeps at (4096 * end) s m
    wide = keeps_wider (4096 * low) (4096 * high) at (4096 * end) s m (omega (arith, reached done, low_is)) (omega (arith, high_is)) erases.keeps

    -- all up to the end of the last block is blank
    blank_there : (i : ℕ) → at ≤ i → i < 4096 * end → get_or m.now i 0 ≡ 255
    blank_there i above under = elim (cases_lt i (4096 * low)) [
      | inl below ↦ erases.keeps.now i (inl below) ∙ ahead i above (omega (arith, below, low_is))
      | inr here ↦ erases.erased i here (omega (arith, under, high_is))
    ]

    fits : at + length bytes ≤ length m.now
    fits = omega (arith, reached (done + length bytes), wide.size, room)

    pub range_blank : slice_range m.now at (at + length bytes) ≡ blank (length bytes)
    range_blank =
        let n : at + length bytes - at ≡ length bytes = omega arith in
        let size : length (slice_range m.now at (at + length bytes)) ≡ length bytes = omega (arith, length-take (at + length bytes - at) (drop at m.now), length-drop at m.now, fits, n) in
        same_lists (slice_range m.now at (at + length bytes)) (blank (length bytes)) (size ∙ sym (length-blank (length bytes)))
        (λ k d h.
        let lt : k < length bytes = omega (arith, h, size) in
        get_or-take (at + length bytes - at) (drop at m.now) k d (omega (arith, lt, n)) ∙ get_or-drop at m.now k d
        ∙ get_or_default m.now (at + k) d 0 (omega (arith, lt, fits)) ∙ blank_there (at + k) (omega arith) (omega (arith, lt, reached (done + length bytes)))
        ∙ sym (get_or-blank (length bytes) k d lt))

    pub programs_written : (result : Result (Unit {0}) FlashStop) → Programs result first done bytes s (written result at bytes m)
    programs_written (Ok u) = record {
      keeps = keeps_put at (4096 * end) s m at bytes (omega arith) (omega (arith, reached (done + length bytes))) (omega (arith, fits, wide.size)) wide;
      idle = λ none. absurd (omega (arith, none, some));
      written = ap (λ (l : List ℕ). slice_range l at (at + length bytes)) (now-put at bytes m) ∙ slice_range-overwritten at bytes m.now fits;
      ahead = λ i above under. ap (λ (l : List ℕ). get_or l i 0) (now-put at bytes m) ∙ overwritten_above at bytes m.now fits i 0 (omega (arith, above)) ∙ blank_there i (omega (arith, above)) under;
      stable = stable-put at bytes m ∙ erases.stable;
    }
    programs_written (Err stop) = record {
      keeps = keeps_halt at (4096 * end) s m at bytes (omega arith) (omega (arith, reached (done + length bytes))) wide;
      idle = λ none. absurd (omega (arith, none, some));
      written = tt;
      ahead = tt;
      stable = stable-halt at bytes m ∙ erases.stable;
    }
