-- The digests of a file, line by line.
use Rattle.std.proofs.Common.{◌≡◌, ℕ, zero, suc, ◌+◌, ◌<◌, ◌≤◌, Bool, false, ◌==◌, List, [], ◌∷◌, ◌++◌, length, take, drop, min, Option, Some, None, Result, Ok, Err, refl, sym, ap, subst, ◌∙◌, arith, append_assoc, eqb-true, inl, inr}
use Rattle.std.specs.Prelude.{IsSomeAnd, option_and_then}
use Rattle.std.proofs.lemmas.List.{length-take, length-take-le, take-take}
use Rattle.std.proofs.lemmas.Option.{option_and_then_some}
use Rattle.std.proofs.lemmas.Bool.{cases_Bool, cases_lt, lt-ltb, le-ltb, ne_eqb}
use Rattle.std.proofs.lemmas.List.Splits.{slice_split_first, length-slice_split}
use Rattle.std.specs.List.{slice_split, position, position_or_len, before_first, after_first}
use Rattle.fwu_formats.specs.Digests.{digest_of, onto_digests, digests_from}
use Rattle.verify_core.specs.Shown.{first_digest}

-- the digests that were read before these
abbrev pub behind : List (List ℕ) → Result (List (List ℕ)) ℕ → Result (List (List ℕ)) ℕ
behind front (Ok later) = Ok (front ++ later)
behind front (Err line) = Err line

-- the digests from line n on
abbrev pub from_line : ℕ → List ℕ → Result (List (List ℕ)) ℕ
from_line n rest = digests_from n (slice_split (λ b. b == 10) rest)

by_parts : (n : ℕ) (line : List ℕ) (parts : List (List ℕ)) → 0 < length parts → digests_from n (line ∷ parts) ≡ onto_digests n (digest_of line) (digests_from (n + 1) parts)
by_parts n line [] some = absurd (omega (arith, some))
by_parts n line (next ∷ more) some = refl

-- the first line, and those behind it
pub by_line : (n : ℕ) (rest : List ℕ) (end : ℕ) → end ≡ position_or_len (λ b. b == 10) rest → end < length rest
    → from_line n rest ≡ onto_digests n (digest_of (take end rest)) (from_line (n + 1) (drop (end + 1) rest))
by_line n rest end is within =
    let p : ℕ → Bool = λ b. b == 10 in
    let others = slice_split p (after_first p rest) in
    let some : 0 < length others = omega (arith, length-slice_split p (after_first p rest)) in
    ap (digests_from n) (slice_split_first p rest 0 (omega (arith, is, within)))
    ∙ by_parts n (before_first p rest) others some
    ∙ ap (λ (k : ℕ). onto_digests n (digest_of (take k rest)) (from_line (n + 1) (drop (k + 1) rest))) (sym is)

-- the place of a line end
pub end_is : (rest : List ℕ) (end : ℕ) → position (λ b. b == 10) rest ≡ Some end → (end ≡ position_or_len (λ b. b == 10) rest) × (end < length rest)
end_is rest end e = elim (cases_lt (position_or_len (λ b. b == 10) rest) (length rest)) [
  | inl within ↦
      let some : position (λ b. b == 10) rest ≡ Some (position_or_len (λ b. b == 10) rest) = rw (lt-ltb _ _ within) refl in
      let is : end ≡ position_or_len (λ b. b == 10) rest = cc in
      (is, omega (arith, is, within))
  | inr none ↦
      let no : position (λ b. b == 10) rest ≡ None = rw (le-ltb _ _ none) refl in
      absurd cc
]

pub behind_next : (front : List (List ℕ)) (n : ℕ) (digest : List ℕ) (later : Result (List (List ℕ)) ℕ)
    → behind front (onto_digests n (Some digest) later) ≡ behind (front ++ digest ∷ []) later
behind_next front n digest (Ok later) = ap Ok (sym (append_assoc front (digest ∷ []) later))
behind_next front n digest (Err line) = refl

-- bytes with no line end are one part
unsplit : (xs : List ℕ) → length xs ≤ position_or_len (λ b. b == 10) xs → slice_split (λ b. b == 10) xs ≡ xs ∷ []
unsplit [] all = refl
unsplit (x ∷ xs) all = elim (cases_Bool (x == 10)) [
  | inl end ↦
      let first : position_or_len (λ b. b == 10) (x ∷ xs) ≡ 0 = rw end refl in
      absurd (omega (arith, all, first))
  | inr other ↦
      let more : position_or_len (λ b. b == 10) (x ∷ xs) ≡ 1 + position_or_len (λ b. b == 10) xs = rw other refl in
      rw (other, unsplit xs (omega (arith, all, more))) refl
]

not_empty : (n : ℕ) (rest : List ℕ) → 0 < length rest → digests_from n (rest ∷ []) ≡ Err n
not_empty n [] some = absurd (omega (arith, some))
not_empty n (x ∷ xs) some =
    let other : (length (x ∷ xs) == 0) ≡ false = ne_eqb _ _ (λ e. omega arith) in
    rw other refl

pub no_end : (n : ℕ) (rest : List ℕ) → position (λ b. b == 10) rest ≡ None → 0 < length rest → from_line n rest ≡ Err n
no_end n rest e some = elim (cases_lt (position_or_len (λ b. b == 10) rest) (length rest)) [
  | inl within ↦
      let found : position (λ b. b == 10) rest ≡ Some (position_or_len (λ b. b == 10) rest) = rw (lt-ltb _ _ within) refl in
      absurd cc
  | inr none ↦ ap (digests_from n) (unsplit rest none) ∙ not_empty n rest some
]

-- a line that is no digest
pub bad_line : (n : ℕ) (rest : List ℕ) (end : ℕ) → position (λ b. b == 10) rest ≡ Some end → digest_of (take end rest) ≡ None → from_line n rest ≡ Err n
bad_line n rest end e bad =
    let is = end_is rest end e in
    by_line n rest end is.0 is.1 ∙ ap (λ (d : Option (List ℕ)). onto_digests n d (from_line (n + 1) (drop (end + 1) rest))) bad

-- a line that is a digest, behind those that were read
pub next_line : (front : List (List ℕ)) (n : ℕ) (rest : List ℕ) (end : ℕ) (digest : List ℕ) → position (λ b. b == 10) rest ≡ Some end → digest_of (take end rest) ≡ Some digest
    → behind front (from_line n rest) ≡ behind (front ++ digest ∷ []) (from_line (n + 1) (drop (end + 1) rest))
next_line front n rest end digest e good =
    let is = end_is rest end e in
    let later = from_line (n + 1) (drop (end + 1) rest) in
    ap (behind front) (by_line n rest end is.0 is.1 ∙ ap (λ (d : Option (List ℕ)). onto_digests n d later) good)
    ∙ behind_next front n digest later

-- ---- the first line alone

-- a digest is that of 64 digits
digits_long : (line digest : List ℕ) → digest_of line ≡ Some digest → length line ≡ 64
digits_long line digest e = elim (cases_Bool (length line == 64)) [
  | inl long ↦ eqb-true _ _ long
  | inr other ↦ let no : digest_of line ≡ None = rw other refl in absurd cc
]

-- the end of a text's first line, where that is a digest
pub first_end : (text digest : List ℕ) → first_digest text ≡ Some digest
    → (position (λ b. b == 10) text ≡ Some 64) × (digest_of (take 64 text) ≡ Some digest) × (65 ≤ length text)
first_end text digest e = option_and_then_some (λ end. digest_of (take end text)) (position (λ b. b == 10) text) digest e (λ end at good.
    let within = (end_is text end at).1 in
    let is : end ≡ 64 = sym (length-take-le end text (omega (arith, within))) ∙ digits_long (take end text) digest good in
    (at ∙ ap (λ (k : ℕ). Some k) is, subst (λ (k : ℕ). digest_of (take k text) ≡ Some digest) is good, omega (arith, is, within)))

-- the first line is no digest, and something is there
pub first_bad : (n : ℕ) (rest : List ℕ) → 0 < length rest → first_digest rest ≡ None → from_line n rest ≡ Err n
first_bad n rest some none = go (position (λ b. b == 10) rest) refl none
  where
    go : (o : Option ℕ) → position (λ b. b == 10) rest ≡ o → option_and_then (λ end. digest_of (take end rest)) o ≡ None → from_line n rest ≡ Err n
    go None at h = no_end n rest at some
    go (Some end) at h = bad_line n rest end at h

-- the first line is a digest, and was put behind those that were read
pub first_added : (old new : List (List ℕ)) (n : ℕ) (rest : List ℕ) → IsSomeAnd (first_digest rest) (λ digest. new ≡ old ++ digest ∷ [])
    → (behind old (from_line n rest) ≡ behind new (from_line (n + 1) (drop 65 rest))) × (65 ≤ length rest)
first_added old new n rest added = go (first_digest rest) refl added
  where
    go : (o : Option (List ℕ)) → first_digest rest ≡ o → IsSomeAnd o (λ digest. new ≡ old ++ digest ∷ [])
        → (behind old (from_line n rest) ≡ behind new (from_line (n + 1) (drop 65 rest))) × (65 ≤ length rest)
    go None e h = absurd h
    go (Some digest) e h =
        let first = first_end rest digest e in (
          next_line old n rest 64 digest first.0 first.1 ∙ ap (λ (l : List (List ℕ)). behind l (from_line (n + 1) (drop 65 rest))) (sym h),
          first.2,
        )

-- ---- the front of a text

position_some : (xs : List ℕ) → position_or_len (λ b. b == 10) xs < length xs → position (λ b. b == 10) xs ≡ Some (position_or_len (λ b. b == 10) xs)
position_some xs within = rw (lt-ltb _ _ within) refl

position_none : (xs : List ℕ) → length xs ≤ position_or_len (λ b. b == 10) xs → position (λ b. b == 10) xs ≡ None
position_none xs all = rw (le-ltb _ _ all) refl

position_in_front : (n : ℕ) (xs : List ℕ) → position_or_len (λ b. b == 10) (take n xs) ≡ min n (position_or_len (λ b. b == 10) xs)
position_in_front zero xs = omega arith
position_in_front (suc n) [] = omega arith
position_in_front (suc n) (x ∷ xs) = elim (cases_Bool (x == 10)) [
  | inl end ↦ rw end (omega arith)
  | inr other ↦ rw (other, position_in_front n xs) (omega arith)
]

-- a line of another length is no digest
other_length : (line : List ℕ) → (length line ≡ 64 → ⊥) → digest_of line ≡ None
other_length line other = let no : (length line == 64) ≡ false = ne_eqb _ _ other in rw no refl

-- the first line is seen in the first 65 bytes
pub first_in_front : (text : List ℕ) → first_digest (take 65 text) ≡ first_digest text
first_in_front text =
    let p = position_or_len (λ b. b == 10) text in
    let front = take 65 text in
    let is : position_or_len (λ b. b == 10) front ≡ min 65 p = position_in_front 65 text in
    let size : length front ≡ min 65 (length text) = length-take 65 text in
    elim (cases_lt p (length text)) [
      | inl within ↦ elim (cases_lt p 65) [
        | inl near ↦
            let same : position_or_len (λ b. b == 10) front ≡ p = omega (arith, is, near) in
            let here = position_some front (omega (arith, same, size, within, near)) ∙ ap (λ (k : ℕ). Some k) same in
            ap (option_and_then (λ end. digest_of (take end front))) here
            ∙ ap digest_of (take-take p 65 text (omega (arith, near)))
            ∙ sym (ap (option_and_then (λ end. digest_of (take end text))) (position_some text within))
        | inr far ↦
            let none = position_none front (omega (arith, is, size, far)) in
            ap (option_and_then (λ end. digest_of (take end front))) none
            ∙ sym (ap (option_and_then (λ end. digest_of (take end text))) (position_some text within)
            ∙ other_length (take p text) (λ e. omega (arith, e, length-take-le p text (omega (arith, within)), far)))
      ]
      | inr all ↦
          ap (option_and_then (λ end. digest_of (take end front))) (position_none front (omega (arith, is, size, all)))
          ∙ sym (ap (option_and_then (λ end. digest_of (take end text))) (position_none text all))
    ]
