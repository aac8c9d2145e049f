-- Image rows: tests of all of them, their types, and the sum of their slots.
use Rattle.std.proofs.Common.{zero, suc, ◌-◌, length-drop, take_all, false, not, get_or, drop, drop-cons, add-one, arith, ◌⊎◌, inl, inr, ◌≡◌, ℕ, ◌+◌, ◌<◌, ◌≤◌, Bool, true, false, ◌&&◌, IsTrue, List, [], ◌∷◌, length, take, map, refl, ap, sym, ◌∙◌}
use Rattle.base_core.specs.Bytes.{same_bytes}
use Rattle.fwu_formats.specs.Layout.{ImageRow, is_row, are_distinct}
use Rattle.std.specs.List.{list_all, list_any, range_with_len}
use Rattle.std.proofs.lemmas.Bool.{cases_lt, and_parts, and_from}
use Rattle.fwu_formats.proofs.Spell.{all-range}

-- a test of the numbers of a range
pub range-true : (test : ℕ → Bool) (n : ℕ) → ((i : ℕ) → i < n → test i ≡ true) → true ≡ list_all test (range_with_len 0 n)
range-true test n h = sym (all-range test 0 n (λ i low high. h i (omega arith)))

range-at : (test : ℕ → Bool) (from n i : ℕ) → (from < i) ⊎ (i ≤ from) → (from < i → false ≡ list_all test (range_with_len (from + 1) n)) → from ≤ i → test i ≡ false
    → false ≡ (test from && list_all test (range_with_len (from + 1) n))
range-at test from n i (inl below) later low off = rw (← later below) (dull (test from))
  where
    dull : (b : Bool) → false ≡ (b && false)
    dull true = refl
    dull false = refl
range-at test from n i (inr same) later low off =
    let here : from ≡ i = omega arith in
    let first : test from ≡ false = ap test here ∙ off in
    rw first refl

pub range-false : (test : ℕ → Bool) (from n i : ℕ) → from ≤ i → i < from + n → test i ≡ false → false ≡ list_all test (range_with_len from n)
range-false test from zero i low high off = absurd (omega arith)
range-false test from (suc n) i low high off =
    range-at test from n i (cases_lt from i) (λ below. range-false test (from + 1) n i (omega arith) (omega arith) off) low off

-- no two types are one
any-map : (guid : List ℕ) (rows : List ImageRow) → list_any (same_bytes guid) (map (λ r. r.guid) rows) ≡ list_any (λ r. same_bytes guid r.guid) rows
any-map guid [] = refl
any-map guid (r ∷ rows) = rw (any-map guid rows) refl

abbrev types : List ImageRow → List (List ℕ)
types rows = map (λ r. r.guid) rows

apart-step : (rows : List ImageRow) (i : ℕ) (d : ImageRow) → i < length rows
    → are_distinct (types (drop i rows)) ≡ (not (list_any (λ r. same_bytes (get_or rows i d).guid r.guid) (drop (i + 1) rows)) && are_distinct (types (drop (i + 1) rows)))
apart-step rows i d lt =
    rw (add-one i)
    (ap (λ l. are_distinct (types l)) (drop-cons rows i d lt)
    ∙ ap (λ b. not b && are_distinct (types (drop (suc i) rows))) (any-map (get_or rows i d).guid (drop (suc i) rows)))

tail-whole : (rows : List ImageRow) (k : ℕ) → take (length rows - k) (drop k rows) ≡ drop k rows
tail-whole rows k = ap (λ n. take n (drop k rows)) (sym (length-drop k rows)) ∙ take_all (length (drop k rows)) (drop k rows) (omega arith)

module _ (rows : List ImageRow) (i : ℕ) (row : ImageRow) (again : Bool) (lt : i < length rows) (here : row ≡ get_or rows i row)
    (test : again ≡ list_any (λ r. same_bytes row.guid r.guid) (take (length rows - (i + 1)) (drop (i + 1) rows))) (whole : Bool)
    (so : are_distinct (types (drop i rows)) ≡ whole) where
  split : whole ≡ (not again && are_distinct (types (drop (i + 1) rows)))
  split =
      sym so ∙ apart-step rows i row lt
      ∙ ap (λ (z : ImageRow). not (list_any (λ r. same_bytes z.guid r.guid) (drop (i + 1) rows)) && are_distinct (types (drop (i + 1) rows))) (sym here)
      ∙ ap (λ l. not (list_any (λ r. same_bytes row.guid r.guid) l) && are_distinct (types (drop (i + 1) rows))) (sym (tail-whole rows (i + 1)))
      ∙ ap (λ b. not b && are_distinct (types (drop (i + 1) rows))) (sym test)

  pub apart-more : again ≡ false → are_distinct (types (drop (i + 1) rows)) ≡ whole
  apart-more off = sym (split ∙ ap (λ b. not b && are_distinct (types (drop (i + 1) rows))) off)

  pub apart-not : again ≡ true → false ≡ whole
  apart-not on = sym (split ∙ ap (λ b. not b && are_distinct (types (drop (i + 1) rows))) on)

pub front-fit : (rows : List ImageRow) (n : ℕ) → IsTrue (list_all is_row rows) → IsTrue (list_all is_row (take n rows))
front-fit rows zero h = refl
front-fit [] (suc n) h = refl
front-fit (r ∷ rows) (suc n) h = let both = and_parts (is_row r) _ h in and_from _ _ both.0 (front-fit rows n both.1)
