-- The values of hexadecimal digits by arithmetic, and pairs of them.
use Rattle.std.proofs.Common.{◌≡◌, ℕ, zero, suc, ◌+◌, ◌*◌, ◌/◌, ◌%◌, ◌<◌, ◌==◌, Bool, true, false, if◌then◌else◌, List, [], ◌∷◌, length, map, slice_index, None, Some, Result, Ok, Err, refl, sym, ap, ◌∙◌, arith}
use Rattle.std.specs.Prelude.{codes}
use Rattle.std.specs.List.{list_all}
use Rattle.std.specs.Simd.{first_chunks}
use Rattle.std.proofs.lemmas.Bool.{and_parts, true≢false}
use Rattle.std.proofs.lemmas.List.Sums.{list_all-from_AllPass}
use Rattle.hex.specs.Hex.{decode_of, decode_pairs, hex_digit_value, is_hex_digit, pair_value}
use Rattle.hex.specs.declared.error.FromHexError.{FromHexError}
use Rattle.hex.proofs.{HexLemmas.decode_of-ok, HexLemmas.decode_of-odd, Pairs.cons_byte, Pairs.decode_pairs-ok_pair}
use Rattle.fwu_formats.specs.Words.{bytes_of, is_word, ok_bytes}

abbrev value : ℕ → ℕ
value c = c % 16 + 9 * (c / 64)

-- the byte of two digits, as it is made
abbrev pub byte_of : ℕ → ℕ → ℕ
byte_of high low = (value high * 16 % 256 + value low) % 256

abbrev pub byte_of_pair : List ℕ → ℕ
byte_of_pair pair = byte_of (slice_index pair 0) (slice_index pair 1)

value-is : (c : ℕ) → is_hex_digit c ≡ true → hex_digit_value c ≡ Some (value c)
value-is c is = grind (arith, is)

value-small : (c : ℕ) → is_hex_digit c ≡ true → value c < 16
value-small c is = grind (arith, is)

pair-is : (a b i : ℕ) → is_hex_digit a ≡ true → is_hex_digit b ≡ true → pair_value a b i ≡ Ok (byte_of a b)
pair-is a b i ha hb =
    let whole : value a * 16 + value b ≡ byte_of a b = omega (arith, value-small a ha, value-small b hb) in
    rw (value-is a ha, value-is b hb) (ap Ok whole)

-- digits decode to the bytes of their pairs
pub decode_by_pairs : (i k : ℕ) (s : List ℕ) → length s ≡ 2 * k → list_all is_hex_digit s ≡ true
    → decode_pairs i s ≡ Ok (map byte_of_pair (first_chunks 2 k s))
unfolding decode_pairs
decode_by_pairs i zero [] long digits = refl
decode_by_pairs i zero (a ∷ rest) long digits = absurd (omega arith)
decode_by_pairs i (suc k) [] long digits = absurd (omega arith)
decode_by_pairs i (suc k) (a ∷ []) long digits = absurd (omega arith)
decode_by_pairs i (suc k) (a ∷ b ∷ rest) long digits =
    let outer = and_parts (is_hex_digit a) (list_all is_hex_digit (b ∷ rest)) digits in
    let inner = and_parts (is_hex_digit b) (list_all is_hex_digit rest) outer.1 in
    decode_pairs-ok_pair i a b (byte_of a b) rest (pair-is a b i outer.0 inner.0)
    ∙ ap (cons_byte (byte_of a b)) (decode_by_pairs (i + 2) k rest (omega arith) inner.1)

-- what isn't two digits for each byte spells no bytes
pub none-where_odd : (w : List ℕ) → length w % 2 ≡ 1 → ok_bytes (decode_of w) ≡ None
none-where_odd w odd = ap ok_bytes (decode_of-odd w odd)

pub none-where_other : (w : List ℕ) → list_all is_hex_digit w ≡ false → ok_bytes (decode_of w) ≡ None
none-where_other w other = go (decode_of w) refl
  where
    go : (r : Result (List ℕ) FromHexError) → decode_of w ≡ r → ok_bytes r ≡ None
    go (Err e) is = refl
    go (Ok bytes) is = absurd (true≢false (sym (list_all-from_AllPass is_hex_digit w (decode_of-ok w bytes is).1) ∙ other))

pub no_bytes : (w : List ℕ) → is_word w (codes "-") ≡ false → ok_bytes (decode_of w) ≡ None → None ≡ bytes_of w
no_bytes w other none = rw other (go (length w == 0))
  where
    go : (b : Bool) → None ≡ (if b then None else ok_bytes (decode_of w))
    go true = refl
    go false = sym none
