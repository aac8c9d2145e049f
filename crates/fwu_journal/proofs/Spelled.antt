-- The digits of bytes, one more byte at a time.
use Rattle.std.proofs.Common.{◌≡◌, ◌≤◌, ℕ, ◌+◌, ◌*◌, ◌<◌, List, [], ◌∷◌, ◌++◌, length, take, get_or, refl, sym, ap, ◌∙◌}
use Rattle.std.proofs.lemmas.List.{take_more, length-take-le}
use Rattle.hex.specs.Hex.{encode_with, encode_lower, lower_digits}
use Rattle.hex.proofs.HexLemmas.{length-encode_with}

encode-append : (t front behind : List ℕ) → encode_with t (front ++ behind) ≡ encode_with t front ++ encode_with t behind
unfolding encode_with
encode-append t [] behind = refl
encode-append t (b ∷ front) behind = rw (encode-append t front behind) refl

pub digits-more : (bytes : List ℕ) (n b : ℕ) → n < length bytes → b ≡ get_or bytes n 0
    → encode_lower (take (n + 1) bytes) ≡ encode_lower (take n bytes) ++ encode_lower (b ∷ [])
digits-more bytes n b within is =
    ap encode_lower (take_more bytes n 0 within) ∙ ap (λ (x : ℕ). encode_lower (take n bytes ++ x ∷ [])) (sym is)
    ∙ encode-append lower_digits (take n bytes) (b ∷ [])

pub length-digits : (bytes : List ℕ) (n : ℕ) → n ≤ length bytes → length (encode_lower (take n bytes)) ≡ 2 * n
length-digits bytes n within = length-encode_with lower_digits (take n bytes) ∙ ap (λ (k : ℕ). 2 * k) (length-take-le n bytes within)
