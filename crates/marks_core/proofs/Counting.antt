-- Granules of an image, what one more mark does to the count of a block, and what each exit of `add` and of `clear` leaves.
use Rattle.std.proofs.Common.{◌≡◌, ◌⊎◌, inl, inr, ℕ, ◌+◌, ◌*◌, ◌<◌, ◌≤◌, Bool, List, replicate, ◌∙◌, ap, arith, refl, sym, subst, IsTrue, IsFalse, ◌-◌, true, [], ◌∷◌, length, get_or, take, drop, zero, suc, ◌++◌, Option}
use Rattle.std.proofs.lemmas.Bool.{cases_lt, cases_Bool, and_parts, eqb-true, false≢true}
use Rattle.std.proofs.lemmas.Result.{IfOk-from_err, on_ok_weaker}
use Rattle.std.specs.Prelude.{Result, Ok, Err, OnOk, IsErr, slice_range, ◌==◌, IsFalse}
use Rattle.base_core.specs.Block.{granule, blank, block}
use Rattle.flash_core.specs.{declared.flash.FlashStop.FlashStop, May.Keeps, May.Leaves, May.Quiet, declared.flash.Arming.Arming}
use Rattle.flash_core.specs.Told.{Told, IsSound, put, halt, settled, NothingDirty, overwritten}
use Rattle.flash_core.specs.Counts.{arming_kept, lowered}
use Rattle.flash_core.proofs.Calls.{keeps_same, keeps_put, keeps_halt, keeps_settle, now-put, now-settle, settle-fresh, quiet_settle}
use Rattle.flash_core.proofs.Images.{slice_range-overwritten, block-overwritten_front}
use Rattle.fwu_formats.specs.Image.{is_blank, marks, is_tidy}
use Rattle.fwu_formats.proofs.{Marks.marks-are-counted, Same.range-same}
use Rattle.marks_core.specs.Marks.{IsNextMark, CountsOnce, Adds, Clears, TakesClear}
use Rattle.std.proofs.lemmas.List.{length-take-le, length-drop, drop_all, append-nil}
use Rattle.base_core.proofs.Blocks.{length-blank, length-block}

pub granule_range : (b j : ℕ) (image : List ℕ) → granule b j image ≡ slice_range image (4096 * b + 16 * j) (4096 * b + 16 * j + 16)
unfolding granule
granule_range b j image =
    let size : 16 ≡ 4096 * b + 16 * j + 16 - (4096 * b + 16 * j) = omega arith in
    ap (λ n. take n (drop (4096 * b + 16 * j) image)) size

-- what a read of the granule gives
pub granule_read : (b j n : ℕ) (image out : List ℕ) → n ≡ 16 → out ≡ slice_range image (4096 * b + 16 * j) (4096 * b + 16 * j + n) → out ≡ granule b j image
granule_read b j n image out size is = is ∙ ap (λ k. slice_range image (4096 * b + 16 * j) (4096 * b + 16 * j + k)) size ∙ sym (granule_range b j image)

length-granule : (b j : ℕ) (image : List ℕ) → 4096 * b + 16 * j + 16 ≤ length image → length (granule b j image) ≡ 16
unfolding granule
length-granule b j image fits = length-take-le 16 (drop (4096 * b + 16 * j) image) (omega (arith, length-drop (4096 * b + 16 * j) image))

-- the granule of two images of one length that agree there
pub same_granule : (b j : ℕ) (image other : List ℕ) → length image ≡ length other → ((i : ℕ) → 4096 * b + 16 * j ≤ i → i < 4096 * b + 16 * j + 16 → get_or image i 0 ≡ get_or other i 0)
    → granule b j image ≡ granule b j other
unfolding granule
same_granule b j image other size same = range-same image other (4096 * b + 16 * j) 16 size same

pub blank_list : (bytes : List ℕ) → is_blank bytes ≡ true → bytes ≡ replicate (length bytes) 255
blank_list [] all = refl
blank_list (x ∷ xs) all = let parts = and_parts (x == 255) (is_blank xs) all in
    ap (λ y. y ∷ xs) (eqb-true x 255 parts.0) ∙ ap (λ (l : List ℕ). 255 ∷ l) (blank_list xs parts.1)

pub blank_granule : (b j : ℕ) (image : List ℕ) → 4096 * b + 16 * j + 16 ≤ length image → is_blank (granule b j image) ≡ true → granule b j image ≡ blank 16
unfolding blank
blank_granule b j image fits all = blank_list (granule b j image) all ∙ ap (λ n. replicate n 255) (length-granule b j image fits)

pub granule-overwritten : (b j : ℕ) (bytes image : List ℕ) → length bytes ≡ 16 → 4096 * b + 16 * j + 16 ≤ length image → granule b j (overwritten (4096 * b + 16 * j) bytes image) ≡ bytes
granule-overwritten b j bytes image size fits =
    granule_range b j (overwritten (4096 * b + 16 * j) bytes image) ∙ ap (λ n. slice_range (overwritten (4096 * b + 16 * j) bytes image) (4096 * b + 16 * j) (4096 * b + 16 * j + n)) (sym size)
    ∙ slice_range-overwritten (4096 * b + 16 * j) bytes image (omega arith)

-- a granule that no call has touched, now and in each image
module _ (b j low high : ℕ) (s t : Told) (keeps : Keeps low high s t) (apart : (i : ℕ) → 4096 * b + 16 * j ≤ i → i < 4096 * b + 16 * j + 16 → (i < low) ⊎ (high ≤ i)) where
  pub granule_kept : granule b j t.now ≡ granule b j s.now
  granule_kept = same_granule b j t.now s.now keeps.size (λ i above below. keeps.now i (apart i above below))

  pub granule_left : (image : List ℕ) → Leaves t image → Quiet (4096 * b + 16 * j) (4096 * b + 16 * j + 16) s → granule b j image ≡ granule b j s.now
  granule_left image leaves quiet =
      same_granule b j image s.now (leaves.size ∙ keeps.size)
      (λ i above below. leaves.sure i (keeps.sure i (apart i above below) (quiet i above below)) ∙ keeps.now i (apart i above below))

-- the count of a block by its granules
pub marks_is : (image : List ℕ) (b limit n : ℕ) → n < limit → ((k : ℕ) → k < n → IsFalse (is_blank (granule b k image))) → IsTrue (is_blank (granule b n image)) → marks image b limit ≡ n
marks_is image b limit n within before here = marks-are-counted.is image b limit n (omega (arith, within)) before (λ lt. here)

pub marks_all : (image : List ℕ) (b limit : ℕ) → ((k : ℕ) → k < limit → IsFalse (is_blank (granule b k image))) → marks image b limit ≡ limit
marks_all image b limit before = marks-are-counted.is image b limit limit (omega arith) before (λ lt. absurd (omega (arith, lt)))

-- where the count is below the limit, the granule behind the marks is blank
pub blank_at_count : (image : List ℕ) (b limit n : ℕ) → n ≡ marks image b limit → n < limit → IsTrue (is_blank (granule b n image))
blank_at_count image b limit n is lt = subst (λ k. IsTrue (is_blank (granule b k image))) (sym is) (marks-are-counted.at image b limit (omega (arith, is, lt)))

-- an image that differs in one granule, behind the marks
module _ (old image : List ℕ) (b at limit : ℕ) (next : IsNextMark old b at limit) (same : (j : ℕ) → j < limit → (j ≡ at → ⊥) → granule b j image ≡ granule b j old) where
  before : (k : ℕ) → k < at → IsFalse (is_blank (granule b k image))
  before k lt =
      ap is_blank (same k (omega (arith, lt, next.below)) (λ e. omega (arith, lt, e)))
      ∙ marks-are-counted.before old b limit k (omega (arith, lt, next.count))

  blank_behind : (j : ℕ) → at < j → j < limit → IsTrue (is_blank (granule b j image))
  blank_behind j low high =
      ap is_blank (same j high (λ e. omega (arith, low, e)))
      ∙ marks-are-counted.then_blank old b limit next.tidy j (omega (arith, low, next.count)) high

  upto : IsFalse (is_blank (granule b at image)) → (k : ℕ) → k < at + 1 → (k < at) ⊎ (at ≤ k) → IsFalse (is_blank (granule b k image))
  upto marked k lt (inl below) = before k below
  upto marked k lt (inr above) = let here : at ≡ k = omega (arith, lt, above) in subst (λ j. IsFalse (is_blank (granule b j image))) here marked

  -- a mark there counts
  pub one_more : IsFalse (is_blank (granule b at image)) → marks image b limit ≡ at + 1
  one_more marked =
      marks-are-counted.is image b limit (at + 1) (omega (arith, next.below)) (λ k lt. upto marked k lt (cases_lt k at)) (λ lt. blank_behind (at + 1) (omega arith) lt)

  tidy_marked : marks image b limit ≡ at + 1 → IsTrue (is_tidy image b limit)
  tidy_marked is = marks-are-counted.where_blank image b limit (λ j low high. blank_behind j (omega (arith, low, is)) high)

  tidy_blank : IsTrue (is_blank (granule b at image)) → IsTrue (is_tidy image b limit)
  tidy_blank none = marks-are-counted.where_blank image b limit (λ j low high. each j (omega (arith, low, count)) high (cases_lt at j))
    where
      count : marks image b limit ≡ at
      count = marks_is image b limit at next.below before none

      each : (j : ℕ) → at ≤ j → j < limit → (at < j) ⊎ (j ≤ at) → IsTrue (is_blank (granule b j image))
      each j low high (inl behind) = blank_behind j behind high
      each j low high (inr here) = let e : at ≡ j = omega (arith, low, here) in subst (λ k. IsTrue (is_blank (granule b k image))) e none

  -- whatever is there, the count is the old one or one more
  pub counts_once : CountsOnce image b at limit
  counts_once = elim (cases_Bool (is_blank (granule b at image))) [
    | inl none ↦ record { count = inl (marks_is image b limit at next.below before none); tidy = tidy_blank none }
    | inr marked ↦ record { count = inr (one_more marked); tidy = tidy_marked (one_more marked) }
  ]

-- ---- adding a mark

zero_marks : (bytes : List ℕ) → bytes ≡ replicate 16 0 → IsFalse (is_blank bytes)
zero_marks bytes is = ap is_blank is ∙ refl

module _ (b at blocks : ℕ) (on : Bool) (s : Told) (sound : IsSound blocks on s) (within : b < blocks) (place : at ≤ 255) where
  outside : (j i : ℕ) → (j ≡ at → ⊥) → 4096 * b + 16 * j ≤ i → i < 4096 * b + 16 * j + 16 → (i < 4096 * b + 16 * at) ⊎ (4096 * b + 16 * at + 16 ≤ i)
  outside j i other low high = elim (cases_lt j at) [
    | inl below ↦ inl (omega (arith, below, high))
    | inr above ↦ elim (cases_lt at j) [ inl more ↦ inr (omega (arith, more, low)) | inr less ↦ absurd (other (omega (arith, above, less))) ]
  ]

  -- whatever the exit, but for what Ok promises
  pub adds : {T : Type 0} (result : Result T FlashStop) (t : Told) → Keeps (4096 * b + 16 * at) (4096 * b + 16 * at + 16) s t
      → OnOk result (granule b at t.now ≡ replicate 16 0) → OnOk result (NothingDirty t) → Adds result b at s t
  adds result t keeps written stable = record {
    keeps = keeps;
    either = λ limit next quiet image may. counts_once s.now image b at limit next (λ j below other.
        granule_left b j (4096 * b + 16 * at) (4096 * b + 16 * at + 16) s t keeps (λ i low high. outside j i other low high) image may.leaves
        (λ i low high. quiet i (omega (arith, low)) (omega (arith, high, below, next.few))));
    written = written;
    one_more = λ limit next. on_ok_weaker result (λ zeros. one_more s.now t.now b at limit next (λ j below other.
        granule_kept b j (4096 * b + 16 * at) (4096 * b + 16 * at + 16) s t keeps (λ i low high. outside j i other low high)) (zero_marks _ zeros)) written;
    stable = stable;
  }

  abbrev programmed : Told
  programmed = put (4096 * b + 16 * at) (replicate 16 0) s

  keeps_program : Keeps (4096 * b + 16 * at) (4096 * b + 16 * at + 16) s programmed
  keeps_program = keeps_put _ _ s s (4096 * b + 16 * at) (replicate 16 0) (omega arith) (omega arith) (omega (arith, sound.size, within, place)) (keeps_same _ _ s)

  pub program_stopped : {T : Type 0} (result : Result T FlashStop) → IsErr result → Adds result b at s (halt (4096 * b + 16 * at) (replicate 16 0) s)
  program_stopped result err = adds result _ (keeps_halt _ _ s s (4096 * b + 16 * at) (replicate 16 0) (omega arith) (omega arith) (keeps_same _ _ s)) (IfOk-from_err result _ err) (IfOk-from_err result _ err)

  pub added : {T : Type 0} (result : Result T FlashStop) → Adds result b at s (settled result programmed)
  added (Err stop) = adds (Err stop) _ keeps_program tt tt
  added (Ok x) = adds (Ok x) _ (keeps_settle _ _ s _ keeps_program)
      (ap (granule b at) (now-settle programmed ∙ now-put (4096 * b + 16 * at) (replicate 16 0) s) ∙ granule-overwritten b at (replicate 16 0) s.now refl (omega (arith, sound.size, within, place)))
      (settle-fresh programmed)

-- ---- what each exit of `clear` leaves

all_blank : (bytes : List ℕ) → length bytes ≡ 4096 → is_blank bytes ≡ true → bytes ≡ blank 4096
unfolding blank
all_blank bytes size all = blank_list bytes all ∙ ap (λ n. replicate n 255) size

blank_is : (n : ℕ) → is_blank (replicate n 255) ≡ true
blank_is zero = refl
blank_is (suc n) = blank_is n

is_blank-blank : (n : ℕ) → is_blank (blank n) ≡ true
unfolding blank
is_blank-blank n = blank_is n

-- a block that wasn't blank was erased, with a barrier behind that
pub takes_erase : {T : Type 0} (result : Result T FlashStop) (clear : Bool) (armed amid arming : Option Arming) → IsFalse clear → amid ≡ lowered armed → arming ≡ arming_kept result amid
    → OnOk result (TakesClear clear armed arming)
takes_erase (Ok x) clear armed amid arming unclear erased kept = subst (λ (b : Bool). TakesClear b armed arming) (sym unclear) (kept ∙ erased)
takes_erase (Err stop) clear armed amid arming unclear erased kept = tt

module _ (b blocks : ℕ) (on : Bool) (s : Told) (sound : IsSound blocks on s) (within : b < blocks) where
  pub was_clear : {T : Type 0} (x : T) (out : List ℕ) → out ≡ block b s.now → is_blank out ≡ true → Clears {T = T} (Ok x) b s s
  was_clear x out is all = record {
    keeps = keeps_same _ _ s;
    idle = λ none. refl;
    erased = sym is ∙ all_blank out (ap length is ∙ length-block b s.now (omega (arith, sound.size, within))) all;
    quiet = λ quiet. quiet;
  }

  -- what was erased was not blank
  never : (out : List ℕ) → out ≡ block b s.now → IsFalse (is_blank out) → block b s.now ≡ blank 4096 → ⊥
  never out is some none = absurd (apart (is_blank out) (ap is_blank (is ∙ none) ∙ is_blank-blank 4096) some)
    where
      apart : (x : Bool) → x ≡ true → IsFalse x → ⊥
      apart x yes_ no_ = false≢true (sym no_ ∙ yes_)

  pub clear_stopped : {T : Type 0} (result : Result T FlashStop) → IsErr result → (out : List ℕ) → out ≡ block b s.now → IsFalse (is_blank out) → Clears result b s (halt (4096 * b) (blank 4096) s)
  clear_stopped result err out is some = record {
    keeps = keeps_halt (4096 * b) (4096 * b + 4096) s s (4096 * b) (blank 4096) (omega arith) (omega (arith, length-blank 4096)) (keeps_same _ _ s);
    idle = λ none. absurd (never out is some none);
    erased = IfOk-from_err result _ err;
    quiet = λ quiet. IfOk-from_err result _ err;
  }

  keeps_erased : Keeps (4096 * b) (4096 * b + 4096) s (put (4096 * b) (blank 4096) s)
  keeps_erased = keeps_put _ _ s s (4096 * b) (blank 4096) (omega arith) (omega (arith, length-blank 4096)) (omega (arith, length-blank 4096, sound.size, within)) (keeps_same _ _ s)

  pub cleared : {T : Type 0} (result : Result T FlashStop) (out : List ℕ) → out ≡ block b s.now → IsFalse (is_blank out) → Clears result b s (settled result (put (4096 * b) (blank 4096) s))
  cleared (Err stop) out is some = record { keeps = keeps_erased; idle = λ none. absurd (never out is some none); erased = tt; quiet = λ quiet. tt }
  cleared (Ok x) out is some = record {
    keeps = keeps_settle _ _ s _ keeps_erased;
    idle = λ none. absurd (never out is some none);
    erased =
        ap (block b) (now-settle (put (4096 * b) (blank 4096) s) ∙ now-put (4096 * b) (blank 4096) s)
        ∙ block-overwritten_front b (blank 4096) s.now (omega (arith, length-blank 4096)) (omega (arith, sound.size, within))
        ∙ ap (λ (l : List ℕ). blank 4096 ++ l) (drop_all (length (blank 4096)) (block b s.now) (omega (arith, length-blank 4096, length-block b s.now (omega (arith, sound.size, within)))))
        ∙ append-nil (blank 4096);
    quiet = λ quiet. quiet_settle (4096 * b) (4096 * b + 4096) (put (4096 * b) (blank 4096) s);
  }
