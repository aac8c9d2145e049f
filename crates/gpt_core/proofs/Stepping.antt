-- The steps of a repair, one after the other. What is left to show is that the header is spelled: `spelled` in the last one.
use Rattle.std.proofs.Common.{◌≡◌, ◌⊎◌, inl, inr, ℕ, ◌+◌, ◌*◌, ◌/◌, ◌<◌, ◌≤◌, List, length, Some, sym, ◌∙◌, ap, arith, refl, subst}
use Rattle.std.proofs.lemmas.List.{ext_get_or}
use Rattle.std.proofs.lemmas.Result.{IfOk-from_err}
use Rattle.std.specs.Prelude.{IsTrue, Result, Ok, Err, IsErr, OnOk}
use Rattle.base_core.specs.{Block.block, Block.blank, Bytes.part, Bytes.overwritten}
use Rattle.base_core.proofs.Blocks.{length-blank}
use Rattle.flash_core.specs.{declared.flash.FlashStop.FlashStop, May.May, May.Keeps}
use Rattle.flash_core.specs.Told.{Told, NothingDirty, is_guarded, put, halt, settle, settled}
use Rattle.flash_core.proofs.Calls.{now-put, now-settle, guard-put, guard-settle, settle-fresh, keeps_halt, keeps_put, keeps_settle, keeps_same}
use Rattle.flash_core.proofs.OneCall.{sure_settled}
use Rattle.gpt_core.specs.declared.table.TableCopy.{TableCopy}
use Rattle.gpt_core.specs.Table.{Table, blocks_of, entry_number_of, header_at, entries_at, other, copy_in, DecidesTable}
use Rattle.gpt_core.specs.Repair.{Ready, Cleared, Filled, RepairSteps, IsMended}
use Rattle.gpt_core.proofs.Copies.{block_over, entries_whole}
use Rattle.gpt_core.proofs.Mending.{decides_without, both_say, head_inside, none_blank, done_size, says_done, decides_done, header_stopped, header_done, entries_kept, entries_step}

-- an image of a device with nothing dirty is what it holds
pub image_is_now : (u : Told) (image : List ℕ) → NothingDirty u → May u image → image ≡ u.now
image_is_now u image nothing may = ext_get_or 0 image u.now may.leaves.size (λ i below. may.leaves.sure i (sure_settled u nothing i))

same_guard : (s u : Told) (b : ℕ) → u.guard ≡ s.guard → IsTrue (is_guarded s b) → IsTrue (is_guarded u b)
same_guard s u b e h = subst (λ (l : List ℕ). IsTrue (Rattle.std.specs.List.list_any (λ k. Rattle.std.specs.Prelude.nat_eq k b) l)) (sym e) h

module _ (w : TableCopy) (blocks : ℕ) (t : Table) where
  -- a step in the header's block, behind which it is erased, or the copy says the table
  module _ (s : Told) (ready : Ready w blocks t s) (bytes : List ℕ) (short : length bytes ≤ 4096)
      (after : (block (header_at w blocks) (overwritten (4096 * header_at w blocks) bytes s.now) ≡ blank 4096)
      ⊎ (copy_in w blocks (overwritten (4096 * header_at w blocks) bytes s.now) ≡ Some t)) where
    now_is : (settle (put (4096 * header_at w blocks) bytes s)).now ≡ overwritten (4096 * header_at w blocks) bytes s.now
    now_is = now-settle (put (4096 * header_at w blocks) bytes s) ∙ now-put (4096 * header_at w blocks) bytes s

    -- settled after the step
    ready_after : Ready w blocks t (settle (put (4096 * header_at w blocks) bytes s))
    ready_after = record {
      nothing = settle-fresh (put (4096 * header_at w blocks) bytes s);
      size = ap length now_is ∙ done_size w blocks t s ready bytes short ∙ ready.size;
      guarded = same_guard s (settle (put (4096 * header_at w blocks) bytes s)) (header_at w blocks) (guard-settle (put (4096 * header_at w blocks) bytes s) ∙ guard-put (4096 * header_at w blocks) bytes s) ready.guarded;
      says = ap (copy_in (other w) blocks) now_is ∙ says_done w blocks t s ready bytes short;
      decides = subst (DecidesTable blocks t) (sym now_is) (decides_done w blocks t s ready bytes short after);
    }

    pub step_halted : (P : Told → Type 0) {T : Type 0} (result : Result T FlashStop) → IsErr result → RepairSteps P result blocks t (halt (4096 * header_at w blocks) bytes s)
    step_halted P result err = record { stays = header_stopped w blocks t s ready bytes short after; ok = IfOk-from_err result _ err }

    -- all exits behind the call: the barrier too was done, or stopped
    pub step_over : (P : Told → Type 0) {T : Type 0} (result : Result T FlashStop) → P (settle (put (4096 * header_at w blocks) bytes s))
        → RepairSteps P result blocks t (settled result (put (4096 * header_at w blocks) bytes s))
    step_over P (Err e) done = record { stays = header_done w blocks t s ready bytes short after; ok = tt }
    step_over P (Ok x) done = record {
      stays = λ image may. subst (DecidesTable blocks t) (sym (image_is_now _ image ready_after.nothing may)) ready_after.decides;
      ok = done;
    }

  -- ---- the header is erased

  pub blank_short : length (blank 4096) ≤ 4096
  blank_short = omega (arith, length-blank 4096)

  pub erased : (s : Told) → Ready w blocks t s → block (header_at w blocks) (overwritten (4096 * header_at w blocks) (blank 4096) s.now) ≡ blank 4096
  erased s ready = block_over (header_at w blocks) (blank 4096) s.now (length-blank 4096) (head_inside w blocks t s.now ready.size ready.says)

  pub is_cleared : (s : Told) (ready : Ready w blocks t s) → Cleared w blocks t (settle (put (4096 * header_at w blocks) (blank 4096) s))
  is_cleared s ready = record {
    ready = ready_after s ready (blank 4096) blank_short (inl (erased s ready));
    empty = ap (block (header_at w blocks)) (now_is s ready (blank 4096) blank_short (inl (erased s ready))) ∙ erased s ready;
  }

  -- ---- the entries are written, whatever calls that takes

  module _ (s : Told) (cleared : Cleared w blocks t s) (v : Told)
      (keeps : Keeps (4096 * entries_at w blocks (blocks_of (entry_number_of t))) (4096 * entries_at w blocks (blocks_of (entry_number_of t)) + 4096 * blocks_of (entry_number_of t)) s v) where
    pub fill_stopped : {T : Type 0} (result : Result T FlashStop) → IsErr result → RepairSteps (Filled w blocks t) result blocks t v
    fill_stopped result err = record {
      stays = λ image may. entries_step w blocks t s v image cleared.ready.nothing cleared.ready.size cleared.ready.says cleared.empty keeps may;
      ok = IfOk-from_err result _ err;
    }

    kept : (block (header_at w blocks) v.now ≡ blank 4096) × (copy_in (other w) blocks v.now ≡ Some t)
    kept = entries_kept w blocks t s.now v.now cleared.ready.size cleared.ready.says cleared.empty keeps.size keeps.now

    is_filled : part v.now (4096 * entries_at w blocks (blocks_of (entry_number_of t))) (4096 * entries_at w blocks (blocks_of (entry_number_of t)) + length t.entries) ≡ t.entries → Filled w blocks t (settle v)
    is_filled held = record {
      cleared = record {
        ready = record {
          nothing = settle-fresh v;
          size = ap length (now-settle v) ∙ keeps.size ∙ cleared.ready.size;
          guarded = same_guard s (settle v) (header_at w blocks) (guard-settle v ∙ keeps.guard) cleared.ready.guarded;
          says = ap (copy_in (other w) blocks) (now-settle v) ∙ kept.1;
          decides = subst (DecidesTable blocks t) (sym (now-settle v)) (decides_without w blocks v.now t (none_blank w blocks t v.now kept.0) kept.1);
        };
        empty = ap (block (header_at w blocks)) (now-settle v) ∙ kept.0;
      };
      entries = ap (λ (l : List ℕ). part l (4096 * entries_at w blocks (blocks_of (entry_number_of t))) (4096 * entries_at w blocks (blocks_of (entry_number_of t)) + length t.entries)) (now-settle v) ∙ held;
    }

    pub fills : {T : Type 0} (result : Result T FlashStop) → part v.now (4096 * entries_at w blocks (blocks_of (entry_number_of t))) (4096 * entries_at w blocks (blocks_of (entry_number_of t)) + length t.entries) ≡ t.entries
        → RepairSteps (Filled w blocks t) result blocks t (settled result v)
    fills (Err e) held = fill_stopped (Err e) refl
    fills (Ok x) held =
        let filled = is_filled held in
        record { stays = λ image may. subst (DecidesTable blocks t) (sym (image_is_now _ image filled.cleared.ready.nothing may)) filled.cleared.ready.decides; ok = filled }

  -- ---- the header is written

  pub is_mended : (s : Told) (ready : Ready w blocks t s) (bytes : List ℕ) (short : length bytes ≤ 4096)
      → copy_in w blocks (overwritten (4096 * header_at w blocks) bytes s.now) ≡ Some t → IsMended blocks t (settle (put (4096 * header_at w blocks) bytes s))
  is_mended s ready bytes short spelled =
      let next = ready_after s ready bytes short (inr spelled) in
      (both_say w blocks _ t (ap (copy_in w blocks) (now_is s ready bytes short (inr spelled)) ∙ spelled) next.says, next.nothing)

-- ---- the same by what a device tells after the calls

module _ (w : TableCopy) (blocks : ℕ) (t : Table) (s u : Told) (b : ℕ) (place : b ≡ header_at w blocks) {T : Type 0} (result : Result T FlashStop) where
  pub clear_halted : Ready w blocks t s → IsErr result → u ≡ halt (4096 * b) (blank 4096) s → RepairSteps (Cleared w blocks t) result blocks t u
  clear_halted ready err is =
      subst (RepairSteps (Cleared w blocks t) result blocks t) (sym (is ∙ ap (λ k. halt (4096 * k) (blank 4096) s) place))
      (step_halted w blocks t s ready (blank 4096) (blank_short w blocks t) (inl (erased w blocks t s ready)) (Cleared w blocks t) result err)

  pub clear_over : Ready w blocks t s → u ≡ settled result (put (4096 * b) (blank 4096) s) → RepairSteps (Cleared w blocks t) result blocks t u
  clear_over ready is =
      subst (RepairSteps (Cleared w blocks t) result blocks t) (sym (is ∙ ap (λ k. settled result (put (4096 * k) (blank 4096) s)) place))
      (step_over w blocks t s ready (blank 4096) (blank_short w blocks t) (inl (erased w blocks t s ready)) (Cleared w blocks t) result (is_cleared w blocks t s ready))

  module _ (filled : Filled w blocks t s) (bytes : List ℕ) (short : length bytes ≤ 4096) (spelled : copy_in w blocks (overwritten (4096 * b) bytes s.now) ≡ Some t) where
    spelled_at : copy_in w blocks (overwritten (4096 * header_at w blocks) bytes s.now) ≡ Some t
    spelled_at = ap (λ k. copy_in w blocks (overwritten (4096 * k) bytes s.now)) (sym place) ∙ spelled

    pub write_halted : IsErr result → u ≡ halt (4096 * b) bytes s → RepairSteps (IsMended blocks t) result blocks t u
    write_halted err is =
        subst (RepairSteps (IsMended blocks t) result blocks t) (sym (is ∙ ap (λ k. halt (4096 * k) bytes s) place))
        (step_halted w blocks t s filled.cleared.ready bytes short (inr spelled_at) (IsMended blocks t) result err)

    pub write_over : u ≡ settled result (put (4096 * b) bytes s) → RepairSteps (IsMended blocks t) result blocks t u
    write_over is =
        subst (RepairSteps (IsMended blocks t) result blocks t) (sym (is ∙ ap (λ k. settled result (put (4096 * k) bytes s)) place))
        (step_over w blocks t s filled.cleared.ready bytes short (inr spelled_at) (IsMended blocks t) result (is_mended w blocks t s filled.cleared.ready bytes short spelled_at))

-- ---- but for the block nothing changes

module _ (b n : ℕ) (s u : Told) (bytes : List ℕ) (inside : b < n) (size : length s.now ≡ 4096 * n) (short : length bytes ≤ 4096) where
  pub keeps_halted : u ≡ halt (4096 * b) bytes s → Keeps (4096 * b) (4096 * b + 4096) s u
  keeps_halted is = subst (Keeps (4096 * b) (4096 * b + 4096) s) (sym is) (keeps_halt (4096 * b) (4096 * b + 4096) s s (4096 * b) bytes (omega arith) (omega (arith, short)) (keeps_same _ _ s))

  pub keeps_over : {T : Type 0} (result : Result T FlashStop) → u ≡ settled result (put (4096 * b) bytes s) → Keeps (4096 * b) (4096 * b + 4096) s u
  keeps_over result is = subst (Keeps (4096 * b) (4096 * b + 4096) s) (sym is) (by result)
    where
      once : Keeps (4096 * b) (4096 * b + 4096) s (put (4096 * b) bytes s)
      once = keeps_put (4096 * b) (4096 * b + 4096) s s (4096 * b) bytes (omega arith) (omega (arith, short)) (omega (arith, short, inside, size)) (keeps_same _ _ s)

      by : {T : Type 0} (result : Result T FlashStop) → Keeps (4096 * b) (4096 * b + 4096) s (settled result (put (4096 * b) bytes s))
      by (Ok x) = keeps_settle (4096 * b) (4096 * b + 4096) s (put (4096 * b) bytes s) once
      by (Err e) = once

-- the entries, by what a device tells after the calls
module _ (w : TableCopy) (blocks : ℕ) (t : Table) (s v : Told) (first n : ℕ) (at : first ≡ entries_at w blocks (blocks_of (entry_number_of t))) (count : n ≡ length t.entries) (cleared : Cleared w blocks t s)
    (keeps : Keeps (4096 * first) (4096 * first + 4096 * ((n + 4095) / 4096)) s v) where
  keeps_at : Keeps (4096 * entries_at w blocks (blocks_of (entry_number_of t))) (4096 * entries_at w blocks (blocks_of (entry_number_of t)) + 4096 * blocks_of (entry_number_of t)) s v
  keeps_at =
      let whole = count ∙ entries_whole (other w) blocks s.now t cleared.ready.size cleared.ready.says in
      subst (λ k. Keeps (4096 * entries_at w blocks (blocks_of (entry_number_of t))) (4096 * entries_at w blocks (blocks_of (entry_number_of t)) + 4096 * ((k + 4095) / 4096)) s v) whole
      (subst (λ k. Keeps (4096 * k) (4096 * k + 4096 * ((n + 4095) / 4096)) s v) at keeps)

  pub entries_stopped : {T : Type 0} (result : Result T FlashStop) → IsErr result → RepairSteps (Filled w blocks t) result blocks t v
  entries_stopped result err = fill_stopped w blocks t s cleared v keeps_at result err

  pub entries_over : {T : Type 0} (result : Result T FlashStop) (u : Told) → part v.now (4096 * first) (4096 * first + n) ≡ t.entries → u ≡ settled result v → RepairSteps (Filled w blocks t) result blocks t u
  entries_over result u held is =
      subst (RepairSteps (Filled w blocks t) result blocks t) (sym is)
      (fills w blocks t s cleared v keeps_at result
      (subst (λ k. part v.now (4096 * entries_at w blocks (blocks_of (entry_number_of t))) (4096 * entries_at w blocks (blocks_of (entry_number_of t)) + k) ≡ t.entries) count
      (subst (λ k. part v.now (4096 * k) (4096 * k + n) ≡ t.entries) at held)))

pub keeps_settled : {T : Type 0} (low high : ℕ) (s v u : Told) (result : Result T FlashStop) → Keeps low high s v → u ≡ settled result v → Keeps low high s u
keeps_settled low high s v u (Ok x) keeps is = subst (Keeps low high s) (sym is) (keeps_settle low high s v keeps)
keeps_settled low high s v u (Err e) keeps is = subst (Keeps low high s) (sym is) keeps

-- what a step leaves of one goal is what it leaves of another, where it was stopped
pub steps_stopped : {T U : Type 0} (P Q : Told → Type 0) (result : Result T FlashStop) (stopped : Result U FlashStop) (blocks : ℕ) (t : Table) (u : Told) → IsErr stopped → RepairSteps P result blocks t u → RepairSteps Q stopped blocks t u
steps_stopped P Q result stopped blocks t u err steps = record { stays = steps.stays; ok = IfOk-from_err stopped _ err }
