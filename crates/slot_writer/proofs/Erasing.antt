-- One more erased block.
use Rattle.std.proofs.Common.{◌≡◌, ◌⊎◌, inl, inr, ℕ, ◌+◌, ◌-◌, ◌*◌, ◌<◌, ◌≤◌, List, length, get_or, ◌∙◌, ap, arith}
use Rattle.std.proofs.lemmas.Bool.{cases_lt}
use Rattle.std.proofs.lemmas.Result.{IfOk-from_err}
use Rattle.std.specs.Prelude.{Result, Ok, IsErr}
use Rattle.base_core.specs.Block.{blank}
use Rattle.base_core.proofs.Blocks.{length-blank, get_or-blank}
use Rattle.flash_core.specs.{declared.flash.FlashStop.FlashStop, Told.Told, Told.overwritten, Told.put, Told.halt}
use Rattle.flash_core.proofs.Images.{overwritten_below, overwritten_inside}
use Rattle.flash_core.proofs.Calls.{keeps_wider, keeps_put, keeps_halt, now-put, stable-put, stable-halt}
use Rattle.slot_writer.specs.Slots.{Erases}

module _ (first end b : ℕ) (s t : Told) (from : first ≤ b) (more : b < end) (room : 4096 * end ≤ length s.now) (T : Type 0) (x : T) (so_far : Erases {T = T} (Ok x) first b s t) where
  pub erase_stopped : {U : Type 0} (result : Result U FlashStop) → IsErr result → Erases result first end s (halt (4096 * b) (blank 4096) t)
  erase_stopped result err = record {
    keeps = keeps_halt (4096 * first) (4096 * end) s t (4096 * b) (blank 4096) (omega arith) (omega (arith, length-blank 4096))
        (keeps_wider (4096 * first) (4096 * b) (4096 * first) (4096 * end) s t (omega arith) (omega arith) so_far.keeps);
    erased = IfOk-from_err result _ err;
    stable = stable-halt (4096 * b) (blank 4096) t ∙ so_far.stable;
  }

  pub erase_more : Erases {T = T} (Ok x) first (b + 1) s (put (4096 * b) (blank 4096) t)
  erase_more = record {
    keeps = keeps_put (4096 * first) (4096 * (b + 1)) s t (4096 * b) (blank 4096) (omega arith) (omega (arith, length-blank 4096)) (omega (arith, length-blank 4096))
        (keeps_wider (4096 * first) (4096 * b) (4096 * first) (4096 * (b + 1)) s t (omega arith) (omega arith) so_far.keeps);
    erased = λ i low high. ap (λ (l : List ℕ). get_or l i 0) (now-put (4096 * b) (blank 4096) t) ∙ at i low high (cases_lt i (4096 * b));
    stable = stable-put (4096 * b) (blank 4096) t ∙ so_far.stable;
  }
    where
      fits : 4096 * b + length (blank 4096) ≤ length t.now
      fits = omega (arith, length-blank 4096, so_far.keeps.size)

      at : (i : ℕ) → 4096 * first ≤ i → i < 4096 * (b + 1) → (i < 4096 * b) ⊎ (4096 * b ≤ i) → get_or (overwritten (4096 * b) (blank 4096) t.now) i 0 ≡ 255
      at i low high (inl below) = overwritten_below (4096 * b) (blank 4096) t.now fits i 0 below ∙ so_far.erased i low below
      at i low high (inr here) = overwritten_inside (4096 * b) (blank 4096) t.now fits i 0 here (omega (arith, length-blank 4096)) ∙ get_or-blank 4096 (i - 4096 * b) 0 (omega arith)
