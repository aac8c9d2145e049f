-- A text that spells a UUID is ASCII.
use Rattle.std.proofs.Common.{◌≡◌, ℕ, ◌%◌, ◌<◌, List, Option, Some, None, Bool, true, false, ◌==◌, nat_lt, length, get_or, if◌then◌else◌, arith, refl, sym, ap, ◌∙◌}
use Rattle.std.specs.Char.{to_ascii_lowercase}
use Rattle.std.specs.Str.{IsAscii, IsUtf8}
use Rattle.std.proofs.lemmas.Bool.Decides.{nat_tests}
use Rattle.std.proofs.lemmas.Bool.{ltb-true, ltb-false}
use Rattle.std.proofs.lemmas.List.{get_or-map, length-map, get_or_past}
use Rattle.std.proofs.lemmas.Str.{IsUtf8-from_ascii}
use Rattle.uuid.specs.Text.{hex_digit, nibble, digit_place, is_hyphen_place, lower}
use Rattle.uuid.proofs.TextLemmas.{by_index_length, by_index_at}
use Rattle.base_core.specs.Guid.{guid_of, guid_text, in_lower_case}
use Rattle.base_core.proofs.Texts.{writes}

nibble-small : (xs : List ℕ) (k : ℕ) → nibble xs k < 16
nibble-small xs k = go (k % 2 == 0) refl
  where
    go : (t : Bool) → (k % 2 == 0) ≡ t → nibble xs k < 16
    go true t = rw t (omega arith)
    go false t = rw t (omega arith)

digit-small : (d : ℕ) → d < 16 → hex_digit lower d < 128
digit-small d small = grind (arith, nat_tests)

text-small : (bytes : List ℕ) (k : ℕ) → k < 36 → get_or (guid_text bytes) k 0 < 128
text-small bytes k within = rw (by_index_at {X = ℕ} 36 glyph k 0 within) (go (is_hyphen_place k) refl)
  where
    glyph : ℕ → ℕ
    glyph j = if is_hyphen_place j then 45 else hex_digit lower (nibble bytes (digit_place j))

    go : (t : Bool) → is_hyphen_place k ≡ t → (if is_hyphen_place k then 45 else hex_digit lower (nibble bytes (digit_place k))) < 128
    go true t = rw t (omega arith)
    go false t = rw t (digit-small (nibble bytes (digit_place k)) (nibble-small bytes (digit_place k)))

letter-small : (c : ℕ) → to_ascii_lowercase c < 128 → c < 128
letter-small c h = grind (arith, nat_tests)

pub spelled-ascii : (text bytes : List ℕ) → guid_of text ≡ Some bytes → IsAscii text
spelled-ascii text bytes e i = go (nat_lt i 36) refl
  where
    spelled : guid_text bytes ≡ in_lower_case text
    spelled = writes text bytes e

    long : length text ≡ 36
    long = sym (length-map text to_ascii_lowercase) ∙ ap length (sym spelled) ∙ by_index_length 36 _

    go : (t : Bool) → nat_lt i 36 ≡ t → get_or text i 0 < 128
    go true t =
        let within : i < 36 = ltb-true _ _ t in
        let at : get_or (in_lower_case text) i 0 ≡ to_ascii_lowercase (get_or text i 0) = get_or-map to_ascii_lowercase text i 0 0 (omega (arith, long)) in
        letter-small (get_or text i 0) (rw (← at, ← spelled) (text-small bytes i within))
    go false t = rw (get_or_past text i 0 (omega (arith, long, ltb-false _ _ t))) (omega arith)

pub none-where_not_text : (text : List ℕ) → (IsUtf8 text → ⊥) → None ≡ guid_of text
none-where_not_text text other = go (guid_of text) refl
  where
    go : (o : Option (List ℕ)) → guid_of text ≡ o → None ≡ o
    go None e = refl
    go (Some bytes) e = absurd (other (IsUtf8-from_ascii text (spelled-ascii text bytes e)))
