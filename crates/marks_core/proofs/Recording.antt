-- Records of the counter, and what each exit of `raise` leaves.
use Rattle.std.proofs.Common.{◌≡◌, ◌⊎◌, inl, inr, ℕ, ◌+◌, ◌-◌, ◌*◌, ◌<◌, ◌≤◌, max, Bool, true, false, List, length, Option, Some, None, refl, ap, ◌∙◌, arith, subst, cond, lt-ltb, le-ltb}
use Rattle.std.proofs.lemmas.Bool.{cases_Bool, cases_lt, cond-true, cond-false}
use Rattle.std.proofs.lemmas.Result.{on_ok_weaker, IfOk-from_err}
use Rattle.std.specs.Prelude.{nat_lt, unwrap_or, Result, IsErr}
use Rattle.base_core.specs.{Bytes.num_at, Block.block, Block.blank, Seal.Sealed}
use Rattle.flash_core.specs.{declared.flash.FlashStop.FlashStop, Told.Told, May.May, May.Quiet, Touches.TouchesOnly}
use Rattle.flash_core.specs.Replaces.{padded, IsOldOrNew, Replaces}
use Rattle.flash_core.proofs.Touches.{touches_none, touches_then, touches_wider}
use Rattle.flash_core.proofs.Calls.{block_quiet, keeps_same, keeps_wider, block_kept, now_kept}
use Rattle.fwu_formats.specs.{Image.marks, Counter.record_bytes, Counter.is_record, Counter.recorded, Counter.counter_in}
use Rattle.fwu_formats.proofs.{Same.marks-same, SealLaws.record-sealed, Written.record-read}
use Rattle.marks_core.specs.Marks.{value_in, place_for, record_place, Raises, TouchesOneRecord}

-- a block without a seal counts as 0
unsealed_value : (bytes : List ℕ) → (Sealed bytes → ⊥) → recorded bytes ≡ 0
unsealed_value bytes none = elim (cases_Bool (is_record bytes)) [
  | inl is ↦ absurd (none (record-sealed bytes is))
  | inr other ↦ cond-false (is_record bytes) (num_at 4 bytes 8) 0 other
]

value_or : (bytes : List ℕ) → unwrap_or (value_in bytes) 0 ≡ recorded bytes
value_or bytes = by (is_record bytes)
  where
    by : (b : Bool) → unwrap_or (cond b (Some (num_at 4 bytes 8)) None) 0 ≡ cond b (num_at 4 bytes 8) 0
    by true = refl
    by false = refl

pub counter_of : (image : List ℕ) (m : ℕ) (first second : Option ℕ) → m ≡ marks image 4 223 → first ≡ value_in (block 5 image) → second ≡ value_in (block 6 image)
    → max m (max (unwrap_or first 0) (unwrap_or second 0)) ≡ counter_in image
unfolding counter_in
counter_of image m first second is_marks is_first is_second =
    let a = ap (λ (o : Option ℕ). unwrap_or o 0) is_first ∙ value_or (block 5 image) in
    let b = ap (λ (o : Option ℕ). unwrap_or o 0) is_second ∙ value_or (block 6 image) in
    cc

-- ---- the block that is written counts less, or as much

-- the block that is written, and the other one
pub data Written : ℕ → ℕ → Type 0 where
  five : Written 5 6
  six : Written 6 5

-- what is written to block b leaves the greater one of the two
pub record IsLower (image : List ℕ) (b c : ℕ) : Type 0 where
  pub place : record_place image ≡ b
  pub pair : Written b c
  pub lower : recorded (block b image) ≤ recorded (block c image)

place_low : (a b : List ℕ) → ((place_for (value_in a) (value_in b) ≡ 5) × (recorded a ≤ recorded b)) ⊎ ((place_for (value_in a) (value_in b) ≡ 6) × (recorded b ≤ recorded a))
place_low a b = low (is_record a) (is_record b) (num_at 4 a 8) (num_at 4 b 8)
  where
    low : (p q : Bool) (x y : ℕ)
        → ((place_for (cond p (Some x) None) (cond q (Some y) None) ≡ 5) × (cond p x 0 ≤ cond q y 0)) ⊎ ((place_for (cond p (Some x) None) (cond q (Some y) None) ≡ 6) × (cond q y 0 ≤ cond p x 0))
    low false q x y = inl (refl, omega arith)
    low true false x y = inr (refl, omega arith)
    low true true x y = elim (cases_lt y x) [
      | inl lt ↦ inr (cond-true (nat_lt y x) 6 5 (lt-ltb y x lt), omega arith)
      | inr le ↦ inl (cond-false (nat_lt y x) 6 5 (le-ltb y x le), le)
    ]

-- one of the two is written, and the other one counts as much or more
pub lower_place : (image : List ℕ) → IsLower image 5 6 ⊎ IsLower image 6 5
lower_place image = elim (place_low (block 5 image) (block 6 image)) [
  | inl first ↦ inl (record { place = first.0; pair = five; lower = first.1 })
  | inr second ↦ inr (record { place = second.0; pair = six; lower = second.1 })
]

-- the counter by the two
pub counter_by : (b c : ℕ) → Written b c → (image : List ℕ) → counter_in image ≡ max (marks image 4 223) (max (recorded (block b image)) (recorded (block c image)))
unfolding counter_in
counter_by _ _ five image = refl
counter_by _ _ six image = let e : max (recorded (block 5 image)) (recorded (block 6 image)) ≡ max (recorded (block 6 image)) (recorded (block 5 image)) = omega arith in ap (max (marks image 4 223)) e

-- where one of the two changes
pick : (m lower x v other old count : ℕ) → old ≡ max m (max lower other) → count ≡ max m (max x other) → lower ≤ other → old < v → (x ≡ lower) ⊎ ((x ≡ v) ⊎ (x ≡ 0)) → (count ≡ old) ⊎ (count ≡ v)
pick m lower x v other old count was is low above (inl same) = inl (omega (arith, was, is, low, same))
pick m lower x v other old count was is low above (inr (inl new)) = inr (omega (arith, was, is, low, above, new))
pick m lower x v other old count was is low above (inr (inr none)) = inl (omega (arith, was, is, low, none))

new_count : (m lower x v other old count : ℕ) → old ≡ max m (max lower other) → count ≡ max m (max x other) → old < v → x ≡ v → count ≡ v
new_count m lower x v other old count was is above here = omega (arith, was, is, above, here)

-- ---- what each exit of `raise` leaves

module _ {T : Type 0} (result : Result T FlashStop) (v : ℕ) (s t : Told) (room : 32768 ≤ length s.now) (fits : v < 4294967296) (above : counter_in s.now < v) where
  abbrev new : List ℕ
  new = padded (record_bytes v)

  new_value : recorded new ≡ v
  new_value = record-read v (blank (4096 - length (record_bytes v))) fits

  value_cases : (b : ℕ) (image : List ℕ) → IsOldOrNew (block b s.now) new (block b image)
      → (recorded (block b image) ≡ recorded (block b s.now)) ⊎ ((recorded (block b image) ≡ v) ⊎ (recorded (block b image) ≡ 0))
  value_cases b image (inl as_old) = inl (ap recorded as_old)
  value_cases b image (inr (inl as_new)) = inr (inl (ap recorded as_new ∙ new_value))
  value_cases b image (inr (inr none)) = inr (inr (unsealed_value (block b image) none))

  module _ (b c : ℕ) (at : IsLower s.now b c) (range : (20480 ≤ 4096 * b) × (4096 * b + 4096 ≤ 28672) × (20480 ≤ 4096 * c) × (4096 * c + 4096 ≤ 28672)) (apart : (4096 * c + 4096 ≤ 4096 * b) ⊎ (4096 * b + 4096 ≤ 4096 * c))
      (replaced : Replaces result b new s t) where
    -- the counter of an image by what the written block counts there
    count_with : (image : List ℕ) → marks image 4 223 ≡ marks s.now 4 223 → block c image ≡ block c s.now → counter_in image ≡ max (marks s.now 4 223) (max (recorded (block b image)) (recorded (block c s.now)))
    count_with image same other =
        counter_by b c at.pair image ∙ ap (λ m. max m (max (recorded (block b image)) (recorded (block c image)))) same
        ∙ ap (λ (bytes : List ℕ). max (marks s.now 4 223) (max (recorded (block b image)) (recorded bytes))) other

    count_left : Quiet 16384 28672 s → (image : List ℕ) → May t image → counter_in image ≡ max (marks s.now 4 223) (max (recorded (block b image)) (recorded (block c s.now)))
    count_left quiet image may = count_with image
        (marks-same image s.now 4 223 (may.leaves.size ∙ replaced.keeps.size) (omega arith) (λ i low high.
        may.leaves.sure i (replaced.keeps.sure i (inl (omega (arith, high, range.0))) (quiet i (omega (arith, low)) (omega (arith, high))))
        ∙ replaced.keeps.now i (inl (omega (arith, high, range.0)))))
        (block_kept c (4096 * b) (4096 * b + 4096) s t image (omega (arith, room, range.3)) apart (λ i low high. quiet i (omega (arith, low, range.2)) (omega (arith, high, range.3))) replaced.keeps may.leaves)

    count_now : counter_in t.now ≡ max (marks s.now 4 223) (max (recorded (block b t.now)) (recorded (block c s.now)))
    count_now = count_with t.now
        (marks-same t.now s.now 4 223 replaced.keeps.size (omega arith) (λ i low high. replaced.keeps.now i (inl (omega (arith, high, range.0)))))
        (now_kept c (4096 * b) (4096 * b + 4096) s t (omega (arith, room, range.3)) apart replaced.keeps)

    raised_at : Replaces result (record_place s.now) new s t → Raises result v s t
    raised_at writes = record {
      writes = writes;
      keeps = keeps_wider (4096 * b) (4096 * b + 4096) 20480 28672 s t range.0 range.1 replaced.keeps;
      either = λ guards quiet image may.
          pick (marks s.now 4 223) (recorded (block b s.now)) (recorded (block b image)) v (recorded (block c s.now)) (counter_in s.now) (counter_in image) (counter_by b c at.pair s.now) (count_left quiet image may) at.lower above
          (value_cases b image (replaced.either (guards b (omega (arith, range.0)) (omega (arith, range.1))) (λ i low high. quiet i (omega (arith, low, range.0)) (omega (arith, high, range.1))) image may));
      done = on_ok_weaker result (λ ok.
          new_count (marks s.now 4 223) (recorded (block b s.now)) (recorded (block b t.now)) v (recorded (block c s.now)) (counter_in s.now) (counter_in t.now) (counter_by b c at.pair s.now) count_now above
          (ap recorded ok.bytes_are ∙ new_value)) replaced.ok;
      stable = on_ok_weaker result (λ ok. ok.stable) replaced.ok;
    }

  pub raised : Replaces result (record_place s.now) new s t → Raises result v s t
  raised writes = elim (lower_place s.now) [
    | inl first ↦ raised_at 5 6 first (omega arith, omega arith, omega arith, omega arith) (inr (omega arith)) (subst (λ b. Replaces result b new s t) first.place writes) writes
    | inr second ↦ raised_at 6 5 second (omega arith, omega arith, omega arith, omega arith) (inl (omega arith)) (subst (λ b. Replaces result b new s t) second.place writes) writes
  ]

-- nothing was written
pub unwritten : {T : Type 0} (result : Result T FlashStop) (new : List ℕ) (s : Told) → 32768 ≤ length s.now → IsErr result → Replaces result (record_place s.now) new s s
unwritten result new s room err = record {
  keeps = keeps_same _ _ s;
  either = λ guarded quiet image may. inl (block_quiet (record_place s.now) s image (omega (arith, room, within)) quiet may.leaves);
  ok = IfOk-from_err result _ err;
}
  where
    within : record_place s.now ≤ 6
    within = elim (lower_place s.now) [ inl first ↦ omega (arith, first.place) | inr second ↦ omega (arith, second.place) ]

-- one record's block, behind reads
pub one_record : (place : ℕ) (old read new : ℕ → ℕ) → 5 ≤ place → place ≤ 6 → read ≡ old
    → TouchesOnly (4096 * place) (4096 * place + 4096) read new → TouchesOneRecord old new
one_record place old read new low high same only = at (cases_lt place 6)
  where
    at : (place < 6) ⊎ (6 ≤ place) → TouchesOneRecord old new
    at (inl first) = inl (touches_then 20480 24576 (touches_none 20480 24576 same)
        (touches_wider (4096 * place) (4096 * place + 4096) 20480 24576 (omega (arith, low)) (omega (arith, first)) only))
    at (inr second) = inr (touches_then 24576 28672 (touches_none 24576 28672 same)
        (touches_wider (4096 * place) (4096 * place + 4096) 24576 28672 (omega (arith, second)) (omega (arith, high)) only))
