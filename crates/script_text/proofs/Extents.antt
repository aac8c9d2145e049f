-- The limits of a text, a byte at a time.
use Rattle.std.proofs.Common.{◌≡◌, ℕ, ◌+◌, ◌<◌, ◌≤◌, Bool, true, false, cond, ◌==◌, nat_lt, List, [], ◌∷◌, ◌++◌, length, take, drop, get_or, refl, sym, ap, subst, ◌∙◌, arith, inl, inr, ◌⊎◌, append_assoc, append-nil, length-append}
use Rattle.std.specs.Prelude.{◌||◌, IsTrue, count_by}
use Rattle.std.specs.List.{slice_split, onto_first}
use Rattle.std.proofs.lemmas.Bool.{cases_Bool, cases_lt, ne_eqb, lt-ltb, le-ltb, ltb-true, ltb-false, or_cases, or_from, or_left, or_right, or_parts}
use Rattle.std.proofs.lemmas.List.Splits.{length-slice_split}
use Rattle.std.proofs.lemmas.List.{take_more, take_all, take-append-drop}
use Rattle.std.proofs.lemmas.List.Sums.{sum_by-append}
use Rattle.fwu_model.specs.Script.{without_empty_last, script_lines, is_too_long}
use Rattle.script_text.specs.{Limit.Extent, Limit.IsExtentOf, Law.LongStaysLong}
use Rattle.script_text.proofs.Parts.{some_parts}

abbrev pub is_end : ℕ → Bool
is_end b = b == 10

abbrev ends : List ℕ → ℕ
ends text = count_by is_end text

-- parts are no more than a first that is empty
abbrev IsBlank : List (List ℕ) → Type 0
IsBlank parts = parts ≡ [] ∷ []

no_blank : (x : ℕ) (xs : List ℕ) → IsBlank (slice_split is_end (x ∷ xs)) → ⊥
no_blank x xs blank = go (is_end x) (slice_split is_end xs) (some_parts is_end xs) blank
  where
    go : (b : Bool) (parts : List (List ℕ)) → 0 < length parts → IsBlank (cond b ([] ∷ parts) (onto_first x parts)) → ⊥
    go true [] some is = omega (arith, some)
    go true (part ∷ parts) some is = cc
    go false [] some is = omega (arith, some)
    go false (part ∷ parts) some is = cc

-- a byte before the first part is in its line
same_lines : (x : ℕ) (parts : List (List ℕ)) → 0 < length parts → (IsBlank parts → ⊥) → length (without_empty_last (onto_first x parts)) ≡ length (without_empty_last parts)
same_lines x [] some other = absurd (omega (arith, some))
same_lines x ([] ∷ []) some other = absurd (other refl)
same_lines x ((y ∷ ys) ∷ []) some other =
    let one : (length (x ∷ y ∷ ys) == 0) ≡ false = ne_eqb _ _ (λ e. omega arith) in
    let two : (length (y ∷ ys) == 0) ≡ false = ne_eqb _ _ (λ e. omega arith) in
    rw (one, two) refl
same_lines x (part ∷ next ∷ parts) some other = refl

-- a first empty line
next_lines : (parts : List (List ℕ)) → 0 < length parts → length (without_empty_last ([] ∷ parts)) ≡ length (without_empty_last parts) + 1
next_lines [] some = absurd (omega (arith, some))
next_lines (part ∷ parts) some = omega arith

ends_behind : (x : ℕ) (xs : List ℕ) (n : ℕ) → cond (is_end x) 1 0 ≡ n → ends (x ∷ xs) ≡ n + ends xs
ends_behind x xs n is = omega (arith, is, sum_by-append (λ b. cond (is_end b) 1 0) (x ∷ []) xs)

-- the lines of a text with one byte more
pub lines_with : (text : List ℕ) (b : ℕ) → length (script_lines (text ++ b ∷ [])) ≡ ends text + 1
lines_with [] b = elim (cases_Bool (is_end b)) [
  | inl is ↦ rw is refl
  | inr other ↦ rw other refl
]
lines_with (x ∷ xs) b = elim (cases_Bool (is_end x)) [
  | inl is ↦
      let parts = slice_split is_end (xs ++ b ∷ []) in
      let here : length (script_lines (x ∷ (xs ++ b ∷ []))) ≡ length (without_empty_last ([] ∷ parts)) = rw is refl in
      let count : ends (x ∷ xs) ≡ 1 + ends xs = ends_behind x xs 1 (rw is refl) in
      omega (arith, here, next_lines parts (some_parts is_end (xs ++ b ∷ [])), lines_with xs b, count)
  | inr other ↦
      let parts = slice_split is_end (xs ++ b ∷ []) in
      let here : length (script_lines (x ∷ (xs ++ b ∷ []))) ≡ length (without_empty_last (onto_first x parts)) = rw other refl in
      let count : ends (x ∷ xs) ≡ 0 + ends xs = ends_behind x xs 0 (rw other refl) in
      omega (arith, here, same_lines x parts (some_parts is_end (xs ++ b ∷ [])) (some_bytes xs b), lines_with xs b, count)
]
  where
    some_bytes : (ys : List ℕ) (b : ℕ) → IsBlank (slice_split is_end (ys ++ b ∷ [])) → ⊥
    some_bytes [] b = no_blank b []
    some_bytes (y ∷ ys) b = no_blank y (ys ++ b ∷ [])

few_lines : (parts : List (List ℕ)) → length (without_empty_last parts) ≤ length parts
few_lines [] = omega arith
few_lines (x ∷ []) = go (length x == 0)
  where
    go : (b : Bool) → length (cond b [] (x ∷ [])) ≤ 1
    go true = omega arith
    go false = omega arith
few_lines (x ∷ y ∷ more) = omega (arith, few_lines (y ∷ more))

lines_few : (text : List ℕ) → length (script_lines text) ≤ ends text + 1
lines_few text = omega (arith, few_lines (slice_split is_end text), length-slice_split is_end text)

length_with : (text : List ℕ) (b : ℕ) → length (text ++ b ∷ []) ≡ length text + 1
length_with text b = omega (arith, length-append text (b ∷ []))

-- a text with one byte more is too long
pub long_with : (text : List ℕ) (b : ℕ) → is_too_long (text ++ b ∷ []) ≡ (nat_lt 4194304 (length text + 1) || nat_lt 65536 (ends text + 1))
unfolding is_too_long
long_with text b = ap (λ (n : ℕ). nat_lt 4194304 n || nat_lt 65536 (length (script_lines (text ++ b ∷ [])))) (length_with text b) ∙ ap (λ (n : ℕ). nat_lt 4194304 (length text + 1) || nat_lt 65536 n) (lines_with text b)

stays_with : (text : List ℕ) (b : ℕ) → IsTrue (is_too_long text) → IsTrue (is_too_long (text ++ b ∷ []))
unfolding is_too_long
stays_with text b long =
    let n = length text + 1 in
    let k = ends text + 1 in
    elim (or_cases (nat_lt 4194304 (length text)) (nat_lt 65536 (length (script_lines text))) long) [
      | inl bytes ↦ long_with text b ∙ or_left (nat_lt 4194304 n) (nat_lt 65536 k) (lt-ltb 4194304 n (omega (arith, ltb-true 4194304 (length text) bytes)))
      | inr lines ↦ long_with text b ∙ or_right (nat_lt 4194304 n) (nat_lt 65536 k) (lt-ltb 65536 k (omega (arith, ltb-true 65536 (length (script_lines text)) lines, lines_few text)))
    ]

pub long-stays-long : LongStaysLong
long-stays-long text [] long = subst (λ (l : List ℕ). IsTrue (is_too_long l)) (sym (append-nil text)) long
long-stays-long text (b ∷ more) long = subst (λ (l : List ℕ). IsTrue (is_too_long l)) (append_assoc text (b ∷ []) more) (long-stays-long (text ++ b ∷ []) more (stays_with text b long))

-- ---- extents

pub extent_none : IsExtentOf (record { bytes = 0; ends = 0 }) []
unfolding is_too_long
extent_none = record { bytes = refl; ends = refl; within = refl; few = omega arith }

-- at a limit, every further byte is too much
pub extent_full : (e : Extent) (text : List ℕ) (b : ℕ) → (e.bytes ≡ 4194304) ⊎ (e.ends ≡ 65536) → IsExtentOf e text → is_too_long (text ++ b ∷ []) ≡ true
extent_full e text b full of =
    let n = length text + 1 in
    let k = ends text + 1 in
    elim full [
      | inl bytes ↦ long_with text b ∙ or_left (nat_lt 4194304 n) (nat_lt 65536 k) (lt-ltb 4194304 n (omega (arith, bytes, of.bytes)))
      | inr lines ↦ long_with text b ∙ or_right (nat_lt 4194304 n) (nat_lt 65536 k) (lt-ltb 65536 k (omega (arith, lines, of.ends)))
    ]

pub extent_with : (e later : Extent) (text : List ℕ) (b : ℕ) → e.bytes < 4194304 → e.ends < 65536 → later.bytes ≡ e.bytes + 1 → later.ends ≡ e.ends + cond (is_end b) 1 0 → IsExtentOf e text → IsExtentOf later (text ++ b ∷ [])
extent_with e later text b few_bytes few_ends bytes_is ends_is of = record {
  bytes = omega (arith, bytes_is, of.bytes, length_with text b);
  ends = omega (arith, ends_is, of.ends, sum_by-append (λ x. cond (is_end x) 1 0) text (b ∷ []));
  within = long_with text b ∙ or_from (nat_lt 4194304 (length text + 1)) (nat_lt 65536 (ends text + 1)) (le-ltb 4194304 (length text + 1) (omega (arith, few_bytes, of.bytes))) (le-ltb 65536 (ends text + 1) (omega (arith, few_ends, of.ends)));
  few = omega (arith, few_bytes, of.bytes, length_with text b);
}

-- a whole piece more, after which one line end more would not be too much
pub extent_with_piece : (e later : Extent) (text piece : List ℕ) → e.bytes + length piece ≤ 4194304 → e.ends + ends piece < 65536 → later.bytes ≡ e.bytes + length piece → later.ends ≡ e.ends + ends piece → IsExtentOf e text → IsExtentOf later (text ++ piece)
unfolding is_too_long
extent_with_piece e later text piece few_bytes few_ends bytes_is ends_is of =
    let long : length (text ++ piece) ≡ e.bytes + length piece = omega (arith, of.bytes, length-append text piece) in
    let count : ends (text ++ piece) ≡ e.ends + ends piece = omega (arith, of.ends, sum_by-append (λ x. cond (is_end x) 1 0) text piece) in
    record {
      bytes = omega (arith, bytes_is, long);
      ends = omega (arith, ends_is, count);
      within = or_from (nat_lt 4194304 (length (text ++ piece))) (nat_lt 65536 (length (script_lines (text ++ piece)))) (le-ltb 4194304 (length (text ++ piece)) (omega (arith, few_bytes, long))) (le-ltb 65536 (length (script_lines (text ++ piece))) (omega (arith, lines_few (text ++ piece), few_ends, count)));
      few = omega (arith, few_bytes, long);
    }

-- the bytes of a piece up to an index, and the next
pub next_byte : (text piece : List ℕ) (i b : ℕ) → i < length piece → b ≡ get_or piece i 0 → (text ++ take i piece) ++ b ∷ [] ≡ text ++ take (i + 1) piece
next_byte text piece i b within is = append_assoc text (take i piece) (b ∷ []) ∙ ap (λ (n : ℕ). text ++ (take i piece ++ n ∷ [])) is ∙ ap (λ (l : List ℕ). text ++ l) (sym (take_more piece i 0 within))

-- a text whose bytes are within the limits up to some place, and not with the next
pub long_beyond : (text : List ℕ) (n : ℕ) → n ≤ length text → is_too_long (take n text) ≡ false → (n < length text → is_too_long (take (n + 1) text) ≡ true) → nat_lt n (length text) ≡ is_too_long text
long_beyond text n within fits beyond = elim (cases_lt n (length text)) [
  | inl less ↦
      lt-ltb n (length text) less
      ∙ sym (subst (λ (l : List ℕ). IsTrue (is_too_long l)) (take-append-drop (n + 1) text) (long-stays-long (take (n + 1) text) (drop (n + 1) text) (beyond less)))
  | inr all ↦ le-ltb n (length text) all ∙ sym fits ∙ ap is_too_long (take_all n text all)
]

-- a text within the limits has few bytes
pub few_bytes : (text : List ℕ) → is_too_long text ≡ false → length text ≤ 4194304
unfolding is_too_long
few_bytes text fits = ltb-false 4194304 (length text) (or_parts (nat_lt 4194304 (length text)) (nat_lt 65536 (length (script_lines text))) fits).0
