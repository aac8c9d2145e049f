-- The two directions between a GUID and its text.
use Rattle.std.proofs.Common.{◌≡◌, ℕ, zero, suc, ◌+◌, ◌*◌, ◌/◌, ◌%◌, ◌<◌, List, [], ◌∷◌, Option, Some, None, Bool, true, false, ◌&&◌, ◌==◌, length, get_or, slice_index, if◌then◌else◌, arith, refl, sym, ap, ◌∙◌, true≢false}
use Rattle.std.specs.List.{list_all}
use Rattle.std.specs.Char.{to_ascii_lowercase}
use Rattle.std.proofs.lemmas.Bool.Decides.{nat_tests}
use Rattle.std.proofs.lemmas.Bool.{eqb-true}
use Rattle.std.proofs.lemmas.Option.{cond_some}
use Rattle.std.proofs.lemmas.List.{get_or-map, length-map}
use Rattle.std.proofs.lemmas.Grind.{same_number_lists}
use Rattle.uuid.specs.Text.{by_index, parsed, parsed_simple, digits_of, has_hyphens, is_hex_digit, value_of, byte_of_digits, hex_digit, nibble, digit_place, hyphen_place, is_hyphen_place, lower}
use Rattle.uuid.proofs.TextLemmas.{by_index_length, by_index_at}
use Rattle.base_core.specs.Guid.{guid_of, guid_text, in_lower_case}

-- among all texts that the parser takes, those of 36 characters are the hyphenated ones
pub parsed_at_36 : (s : List ℕ) → length s ≡ 36 → parsed s ≡ guid_of s
parsed_at_36 s len = rw len refl

pub none_from_refusal : (o : Option (List ℕ)) → ((u : List ℕ) → o ≡ Some u → ⊥) → None ≡ o
none_from_refusal None refused = refl
none_from_refusal (Some u) refused = absurd (refused u refl)

both : (a b : Bool) → (a && b) ≡ true → (a ≡ true) × (b ≡ true)
both true true e = (refl, refl)
both true false e = absurd (true≢false (sym e))
both false b e = absurd (true≢false (sym e))

all_at : (p : ℕ → Bool) (xs : List ℕ) (k : ℕ) → list_all p xs ≡ true → k < length xs → p (get_or xs k 0) ≡ true
all_at p [] k e h = absurd (omega arith)
all_at p (x ∷ xs) zero e h = (both (p x) (list_all p xs) e).0
all_at p (x ∷ xs) (suc k) e h = all_at p xs k (both (p x) (list_all p xs) e).1 (omega arith)

-- a digit is the lower-case digit of its value
digit_lower : (c : ℕ) → is_hex_digit c ≡ true → (hex_digit lower (value_of c) ≡ to_ascii_lowercase c) × (value_of c < 16)
digit_lower c e = (grind (arith, nat_tests), grind (arith, nat_tests))

-- what a text that spells a GUID looks like
record Spells (text bytes : List ℕ) : Type 0 where
  long : length text ≡ 36
  hyphens : has_hyphens text ≡ true
  digits : (k : ℕ) → k < 32 → is_hex_digit (get_or (digits_of text) k 0) ≡ true
  value : by_index 16 (byte_of_digits (digits_of text)) ≡ bytes

spells : (text bytes : List ℕ) → guid_of text ≡ Some bytes → Spells text bytes
spells text bytes e =
    let outer = cond_test ((length text == 36) && has_hyphens text) (parsed_simple (digits_of text)) bytes e in
    let shape = both (length text == 36) (has_hyphens text) outer.0 in
    let inner = cond_some ((length (digits_of text) == 32) && list_all is_hex_digit (digits_of text)) (by_index 16 (byte_of_digits (digits_of text))) bytes outer.1 in
    let all = both (length (digits_of text) == 32) (list_all is_hex_digit (digits_of text)) inner.0 in
    record {
      long = eqb-true _ _ shape.0;
      hyphens = shape.1;
      digits = λ k h. all_at is_hex_digit (digits_of text) k all.1 (rw by_index_length h);
      value = inner.1;
    }
  where
    cond_test : (b : Bool) (o : Option (List ℕ)) (v : List ℕ) → (if b then o else None) ≡ Some v → (b ≡ true) × (o ≡ Some v)
    cond_test true o v e = (refl, e)
    cond_test false o v e = cc

-- the half byte at a place is the value of the digit there
nibble_is : (hex bytes : List ℕ) (j : ℕ) → by_index 16 (byte_of_digits hex) ≡ bytes
    → ((k : ℕ) → k < 32 → is_hex_digit (get_or hex k 0) ≡ true) → j < 32 → nibble bytes j ≡ value_of (get_or hex j 0)
nibble_is hex bytes j value digits within = go (j % 2 == 0) refl
  where
    here : get_or bytes (j / 2) 0 ≡ byte_of_digits hex (j / 2)
    here = rw (← value) (by_index_at 16 (byte_of_digits hex) (j / 2) 0 (omega arith))

    high : value_of (get_or hex (2 * (j / 2)) 0) < 16
    high = (digit_lower (get_or hex (2 * (j / 2)) 0) (digits (2 * (j / 2)) (omega arith))).1

    low : value_of (get_or hex (2 * (j / 2) + 1) 0) < 16
    low = (digit_lower (get_or hex (2 * (j / 2) + 1) 0) (digits (2 * (j / 2) + 1) (omega arith))).1

    go : (t : Bool) → (j % 2 == 0) ≡ t → nibble bytes j ≡ value_of (get_or hex j 0)
    go true t =
        let even : 2 * (j / 2) ≡ j = (let z : j % 2 ≡ 0 = eqb-true _ _ t in omega arith) in
        let h = high in
        let l = low in
        let at : value_of (get_or hex (2 * (j / 2)) 0) ≡ value_of (get_or hex j 0) = ap (λ (i : ℕ). value_of (get_or hex i 0)) even in
        let half : (value_of (get_or hex (2 * (j / 2)) 0) * 16 + value_of (get_or hex (2 * (j / 2) + 1) 0)) / 16 % 16 ≡ value_of (get_or hex (2 * (j / 2)) 0) = omega arith in
        rw (t, here) (half ∙ at)
    go false t =
        let odd : 2 * (j / 2) + 1 ≡ j = (let z : (j % 2 ≡ 0 → ⊥) = (λ (q : j % 2 ≡ 0). let yes : (j % 2 == 0) ≡ true = rw q refl in true≢false (sym yes ∙ t)) in omega arith) in
        let h = high in
        let l = low in
        let at : value_of (get_or hex (2 * (j / 2) + 1) 0) ≡ value_of (get_or hex j 0) = ap (λ (i : ℕ). value_of (get_or hex i 0)) odd in
        let half : (value_of (get_or hex (2 * (j / 2)) 0) * 16 + value_of (get_or hex (2 * (j / 2) + 1) 0)) % 16 ≡ value_of (get_or hex (2 * (j / 2) + 1) 0) = omega arith in
        rw (t, here) (half ∙ at)

hyphen_is : (text : List ℕ) (k : ℕ) → has_hyphens text ≡ true → is_hyphen_place k ≡ true → get_or text k 0 ≡ 45
hyphen_is text k h t = grind (arith, nat_tests)

place : (text bytes : List ℕ) (k : ℕ) → Spells text bytes → k < 36
    → get_or (guid_text bytes) k 0 ≡ to_ascii_lowercase (get_or text k 0)
place text bytes k s within = by_index_at 36 _ k 0 within ∙ go (is_hyphen_place k) refl
  where
    go : (t : Bool) → is_hyphen_place k ≡ t
        → (if is_hyphen_place k then 45 else hex_digit lower (nibble bytes (digit_place k))) ≡ to_ascii_lowercase (get_or text k 0)
    go true t = rw (t, hyphen_is text k s.hyphens t) refl
    go false t =
        let j = digit_place k in
        let small : j < 32 = grind (arith, nat_tests) in
        let back : hyphen_place j ≡ k = grind (arith, nat_tests) in
        let digit : get_or (digits_of text) j 0 ≡ get_or text k 0 = by_index_at 32 (λ (i : ℕ). slice_index text (hyphen_place i)) j 0 small ∙ ap (λ (i : ℕ). get_or text i 0) back in
        let half = nibble_is (digits_of text) bytes j s.value s.digits small in
        let lowered = (digit_lower (get_or (digits_of text) j 0) (s.digits j small)).0 in
        rw t (ap (hex_digit lower) half ∙ lowered ∙ ap to_ascii_lowercase digit)

pub writes : (text bytes : List ℕ) → guid_of text ≡ Some bytes → guid_text bytes ≡ in_lower_case text
writes text bytes e =
    let s = spells text bytes e in
    same_number_lists (guid_text bytes) (in_lower_case text) (by_index_length 36 _ ∙ sym (length-map text to_ascii_lowercase ∙ s.long))
    (λ k h. let within : k < 36 = (let n = by_index_length 36 (λ (i : ℕ). if is_hyphen_place i then 45 else hex_digit lower (nibble bytes (digit_place i))) in omega arith) in
    place text bytes k s within ∙ sym (get_or-map to_ascii_lowercase text k 0 0 (let n = s.long in omega arith)))
