-- A list that is read line by line.
use Rattle.std.proofs.Common.{◌≡◌, ◌≤◌, ◌<◌, ◌+◌, ◌-◌, ◌++◌, ◌∷◌, [], ℕ, List, Option, Some, None, Result, Ok, Err, IfSome, IsSomeAnd, option_map, length, take, drop, min, refl, sym, ap, subst, ◌∙◌, arith, append_assoc, append-nil, length-append, inl, inr}
use Rattle.std.proofs.lemmas.Bool.{cases_lt}
use Rattle.std.proofs.lemmas.List.{length-drop, take_all, take-append-drop}
use Rattle.std.proofs.lemmas.Option.{same_Some}
use Rattle.std.proofs.Math.Seq.{take-add}
use Rattle.base_core.proofs.Lists.{drop-front, take-front}
use Rattle.fwu_formats.specs.Digests.{digests_of}
use Rattle.host_io.specs.{Reads.ReadsFile, declared.files.Files.Ghosts}
use Rattle.host_io.specs.Contents.{Directory, Holds, TellsRange, TellsSize}
use Rattle.verify_core.specs.Shown.{first_digest}
use Rattle.verify_core.proofs.Lines.{behind, first_added, first_bad, first_in_front, from_line}
use Rattle.allow_list.specs.Lists.{AddsLine, IsAnswerOf, LacksLine}

-- the told contents have these bytes under the name
abbrev pub Tells : Option Directory → List ℕ → List ℕ → Type 0
Tells None name bytes = ⊥
Tells (Some files) name bytes = files name ≡ Some bytes

-- so many bytes of the file are good lines with these digests, whatever follows them
pub record IsReadTo (told : Option Directory) (name : List ℕ) (at number : ℕ) (digests : List (List ℕ)) : Type 0 where
  pub front : List ℕ
  pub size : length front ≡ at
  pub told_front : (whole : List ℕ) → Tells told name whole → front ≡ take at whole
  pub lines : (rest : List ℕ) → digests_of (front ++ rest) ≡ behind digests (from_line number rest)

behind_none : (r : Result (List (List ℕ)) ℕ) → behind [] r ≡ r
behind_none (Ok digests) = refl
behind_none (Err line) = refl

-- before the first line
pub at_first : (told : Option Directory) (name : List ℕ) → IsReadTo told name 0 1 []
unfolding digests_of
at_first told name = record {
  front = [];
  size = refl;
  told_front = λ whole tells. refl;
  lines = λ rest. sym (behind_none (from_line 1 rest));
}

-- the first line of a front is that of the whole
first_of_front : (piece rest : List ℕ) → length piece ≡ 65 → first_digest (piece ++ rest) ≡ first_digest piece
first_of_front piece rest long = sym (first_in_front (piece ++ rest)) ∙ ap first_digest (take-front 65 piece rest long)

range_is : (told : Option Directory) (name : List ℕ) (at : ℕ) (out bytes : List ℕ) → Tells told name bytes → TellsRange told name at out → out ≡ take (length out) (drop at bytes)
range_is None name at out bytes tells range = absurd tells
range_is (Some files) name at out bytes tells range =
    subst (λ (o : Option (List ℕ)). IfSome o (λ b. out ≡ take (length out) (drop at b))) tells range

-- a line that was added is a whole one
pub whole_line : (told : Option Directory) (name : List ℕ) (size at : ℕ) (old new : List (List ℕ)) (line : AddsLine told name size at old new) → (length line.piece ≡ 65) × (65 ≤ size - at)
whole_line told name size at old new line =
    let long : 65 ≤ length line.piece = (first_added old new 1 line.piece line.added).1 in
    (omega (arith, long, line.here.count), omega (arith, long, line.here.count))

-- one more line
pub at_next : (told : Option Directory) (name : List ℕ) (size at number : ℕ) (old new : List (List ℕ)) → IsReadTo told name at number old → AddsLine told name size at old new
    → IsReadTo told name (at + 65) (number + 1) new
at_next told name size at number old new h line =
    let piece = line.piece in
    let long : length piece ≡ 65 = (whole_line told name size at old new line).0 in
    record {
      front = h.front ++ piece;
      size = length-append h.front piece ∙ omega (arith, h.size, long);
      told_front = λ whole tells.
          subst (λ (n : ℕ). h.front ++ piece ≡ take (at + n) whole) long
          (ap (λ (xs : List ℕ). xs ++ piece) (h.told_front whole tells)
          ∙ ap (λ (xs : List ℕ). take at whole ++ xs) (range_is told name at piece whole tells line.here.range)
          ∙ sym (take-add at (length piece) whole));
      lines = λ rest.
          let added = subst (λ (o : Option (List ℕ)). IsSomeAnd o (λ digest. new ≡ old ++ digest ∷ [])) (sym (first_of_front piece rest long)) line.added in
          ap digests_of (append_assoc h.front piece rest)
          ∙ h.lines (piece ++ rest)
          ∙ (first_added old new number (piece ++ rest) added).0
          ∙ ap (λ (xs : List ℕ). behind new (from_line (number + 1) xs)) (drop-front 65 piece rest long);
    }

-- the bytes of a file whose size is told
record HasBytes (files : Directory) (name : List ℕ) (size : ℕ) : Type 0 where
  bytes : List ℕ
  stands : files name ≡ Some bytes
  long : size ≡ length bytes

has_bytes : (files : Directory) (name : List ℕ) (size : ℕ) → Some size ≡ option_map length (files name) → HasBytes files name size
has_bytes files name size known = go (files name) refl known
  where
    go : (o : Option (List ℕ)) → files name ≡ o → Some size ≡ option_map length o → HasBytes files name size
    go None is e = absurd cc
    go (Some bytes) is e = record { bytes = bytes; stands = is; long = same_Some size (length bytes) e }

-- a front of a list, or all of it
take_least : (n : ℕ) (xs : List ℕ) → take (min n (length xs)) xs ≡ take n xs
take_least n xs = elim (cases_lt n (length xs)) [
  | inl less ↦ let is : min n (length xs) ≡ n = omega (arith, less) in ap (λ (k : ℕ). take k xs) is
  | inr all ↦ let is : min n (length xs) ≡ length xs = omega (arith, all) in
      ap (λ (k : ℕ). take k xs) is ∙ take_all (length xs) xs (omega arith) ∙ sym (take_all n xs all)
]

-- no line stands at the place
pub at_bad : (told : Option Directory) (name : List ℕ) (size at number : ℕ) (digests : List (List ℕ)) → TellsSize told name (Some size) → at < size
    → IsReadTo told name at number digests → LacksLine told name size at → IsAnswerOf told name (Err number)
at_bad None name size at number digests known inside h bad = record {
  bytes = h.front ++ bad.piece;
  stands = tt;
  is = h.lines bad.piece ∙ ap (behind digests) (first_bad number bad.piece (omega (arith, bad.here.count, inside)) bad.none);
}
at_bad (Some files) name size at number digests known inside h bad =
    let file = has_bytes files name size known in
    let rest = drop at file.bytes in
    let left : length rest ≡ size - at = length-drop at file.bytes ∙ ap (λ (n : ℕ). n - at) (sym file.long) in
    let count : length bad.piece ≡ min 65 (length rest) = bad.here.count ∙ ap (λ (n : ℕ). min 65 n) (sym left) in
    let front : bad.piece ≡ take 65 rest =
    range_is (Some files) name at bad.piece file.bytes file.stands bad.here.range ∙ ap (λ (n : ℕ). take n rest) count ∙ take_least 65 rest in
    let none = sym (first_in_front rest) ∙ ap first_digest (sym front) ∙ bad.none in
    let whole : h.front ++ rest ≡ file.bytes = ap (λ (xs : List ℕ). xs ++ rest) (h.told_front file.bytes file.stands) ∙ take-append-drop at file.bytes in
    record {
      bytes = file.bytes;
      stands = file.stands;
      is = ap digests_of (sym whole) ∙ h.lines rest ∙ ap (behind digests) (first_bad number rest (omega (arith, left, inside)) none);
    }

front_stands : (told : Option Directory) (name : List ℕ) (size at : ℕ) → TellsSize told name (Some size) → size ≤ at
    → (front : List ℕ) → ((whole : List ℕ) → Tells told name whole → front ≡ take at whole) → Holds told name front
front_stands None name size at known all front is = tt
front_stands (Some files) name size at known all front is =
    let file = has_bytes files name size known in
    let same = is file.bytes file.stands ∙ take_all at file.bytes (omega (arith, all, file.long)) in
    file.stands ∙ ap (λ (xs : List ℕ). Some xs) (sym same)

-- all was read
pub at_end : (told : Option Directory) (name : List ℕ) (size at number : ℕ) (digests : List (List ℕ)) → TellsSize told name (Some size) → size ≤ at
    → IsReadTo told name at number digests → IsAnswerOf told name (Ok digests)
at_end told name size at number digests known all h = record {
  bytes = h.front;
  stands = front_stands told name size at known all h.front h.told_front;
  is = ap digests_of (sym (append-nil h.front)) ∙ h.lines [] ∙ ap Ok (append-nil digests);
}

-- what the loop over a file's lines keeps
pub record IsReading {H : Type 0} (g : Ghosts H) (name : List ℕ) (old now : H) (size at number : ℕ) (digests : List (List ℕ)) : Type 0 where
  pub reads : ReadsFile g name old now
  pub quiet : g.faults now ≡ g.faults old
  pub inside : at ≤ size
  pub few : number ≤ at + 1
  pub so_far : IsReadTo (g.contents old) name at number digests
