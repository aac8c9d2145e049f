-- The parts of a text between bytes of a value.
use Rattle.std.proofs.Common.{◌≡◌, ℕ, ◌+◌, ◌<◌, ◌≤◌, Bool, false, ◌==◌, List, [], ◌∷◌, length, take, drop, Some, None, refl, sym, ap, ◌∙◌, arith, inl, inr}
use Rattle.std.proofs.lemmas.Bool.{cases_Bool, cases_lt, lt-ltb, le-ltb, ne_eqb}
use Rattle.std.proofs.lemmas.List.Splits.{slice_split_first, length-slice_split}
use Rattle.std.specs.List.{slice_split, position, position_or_len}
use Rattle.fwu_model.specs.Script.{without_empty_last, script_lines}

-- the part before a place that was found, and those behind it
pub split_found : (p : ℕ → Bool) (xs : List ℕ) (place : ℕ) → position p xs ≡ Some place → (slice_split p xs ≡ take place xs ∷ slice_split p (drop (place + 1) xs)) × (place < length xs)
split_found p xs place e = elim (cases_lt (position_or_len p xs) (length xs)) [
  | inl within ↦
      let some : position p xs ≡ Some (position_or_len p xs) = rw (lt-ltb _ _ within) refl in
      let is : place ≡ position_or_len p xs = cc in (
        slice_split_first p xs 0 within ∙ ap (λ (k : ℕ). take k xs ∷ slice_split p (drop (k + 1) xs)) (sym is),
        omega (arith, is, within),
      )
  | inr none ↦
      let fails : position p xs ≡ None = rw (le-ltb _ _ none) refl in
      absurd cc
]

alone : (p : ℕ → Bool) (xs : List ℕ) → length xs ≤ position_or_len p xs → slice_split p xs ≡ xs ∷ []
alone p [] all = refl
alone p (x ∷ xs) all = elim (cases_Bool (p x)) [
  | inl holds ↦
      let first : position_or_len p (x ∷ xs) ≡ 0 = rw holds refl in
      absurd (omega (arith, all, first))
  | inr fails ↦
      let more : position_or_len p (x ∷ xs) ≡ 1 + position_or_len p xs = rw fails refl in
      rw (fails, alone p xs (omega (arith, all, more))) refl
]

-- with no place, the one part
pub split_alone : (p : ℕ → Bool) (xs : List ℕ) → position p xs ≡ None → slice_split p xs ≡ xs ∷ []
split_alone p xs e = elim (cases_lt (position_or_len p xs) (length xs)) [
  | inl within ↦
      let found : position p xs ≡ Some (position_or_len p xs) = rw (lt-ltb _ _ within) refl in
      absurd cc
  | inr none ↦ alone p xs none
]

pub some_parts : (p : ℕ → Bool) (xs : List ℕ) → 0 < length (slice_split p xs)
some_parts p xs = omega (arith, length-slice_split p xs)

kept_first : (line : List ℕ) (parts : List (List ℕ)) → 0 < length parts → without_empty_last (line ∷ parts) ≡ line ∷ without_empty_last parts
kept_first line [] some = absurd (omega (arith, some))
kept_first line (next ∷ more) some = refl

-- the first line with its end, and those behind it
pub first_line : (text line behind : List ℕ) → slice_split (λ b. b == 10) text ≡ line ∷ slice_split (λ b. b == 10) behind → script_lines text ≡ line ∷ script_lines behind
first_line text line behind e = ap without_empty_last e ∙ kept_first line (slice_split (λ b. b == 10) behind) (some_parts (λ b. b == 10) behind)

-- a last line without its end
pub last_line : (text : List ℕ) → 0 < length text → slice_split (λ b. b == 10) text ≡ text ∷ [] → script_lines text ≡ text ∷ []
last_line [] some e = absurd (omega (arith, some))
last_line (x ∷ xs) some e =
    let other : (length (x ∷ xs) == 0) ≡ false = ne_eqb _ _ (λ e. omega arith) in
    let one : without_empty_last ((x ∷ xs) ∷ []) ≡ (x ∷ xs) ∷ [] = rw other refl in
    ap without_empty_last e ∙ one
