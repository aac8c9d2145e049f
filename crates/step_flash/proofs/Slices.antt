-- Parts of lists, element by element.
use Rattle.std.proofs.Common.{◌≡◌, ◌⊎◌, inl, inr, ℕ, ◌+◌, ◌-◌, ◌<◌, ◌≤◌, List, ◌++◌, length, get_or, drop, slice_range, sym, ◌∙◌, ap, arith, refl}
use Rattle.std.proofs.lemmas.List.{length-take-le, length-drop, length-append, get_or-take, get_or-drop, get_or_default, get_or_append_left, get_or-append_right, same_lists}
use Rattle.std.proofs.lemmas.Bool.{cases_lt, and_from, and_left, and_right, lt-leb, le-leb, lt-ltb, le-ltb}
use Rattle.std.specs.Prelude.{nat_le, nat_lt, ◌&&◌, if◌then◌else◌}
use Rattle.flash_core.specs.Told.{overwritten, is_within}
use Rattle.flash_core.proofs.Images.{length-overwritten, overwritten_below, overwritten_inside, overwritten_above}

-- the byte at a place of what was read from `at` on, once the first places have the bytes that stand at `place`
abbrev pub laid_byte : ℕ → ℕ → ℕ → List ℕ → List ℕ → ℕ → ℕ
laid_byte i at place bytes out k =
    if nat_lt k i && is_within place (length bytes) (at + k) then get_or bytes (at + k - place) 0 else get_or out k 0

part_size : (a n : ℕ) → a + n - a ≡ n
part_size a n = omega arith

pub length-part : (xs : List ℕ) (a n : ℕ) → a + n ≤ length xs → length (slice_range xs a (a + n)) ≡ n
length-part xs a n fits = length-take-le (a + n - a) (drop a xs) (omega (arith, length-drop a xs)) ∙ part_size a n

pub get_or-part : (xs : List ℕ) (a n k d : ℕ) → k < n → get_or (slice_range xs a (a + n)) k d ≡ get_or xs (a + k) d
get_or-part xs a n k d h = get_or-take (a + n - a) (drop a xs) k d (omega (arith, part_size a n)) ∙ get_or-drop a xs k d

-- a part of the front of a list that grew
pub part_of_front : (xs more : List ℕ) (a n : ℕ) → a + n ≤ length xs → slice_range (xs ++ more) a (a + n) ≡ slice_range xs a (a + n)
part_of_front xs more a n fits =
    let long : a + n ≤ length (xs ++ more) = omega (arith, length-append xs more) in
    same_lists (slice_range (xs ++ more) a (a + n)) (slice_range xs a (a + n))
    (length-part (xs ++ more) a n long ∙ sym (length-part xs a n fits))
    (λ k d h.
    let below : k < n = omega (arith, length-part (xs ++ more) a n long) in
    get_or-part (xs ++ more) a n k d below ∙ get_or_append_left xs more d (a + k) (omega arith) ∙ sym (get_or-part xs a n k d below))

-- what a list grew by
pub part_behind : (xs more : List ℕ) → slice_range (xs ++ more) (length xs) (length xs + length more) ≡ more
part_behind xs more =
    let long : length xs + length more ≤ length (xs ++ more) = omega (arith, length-append xs more) in
    same_lists (slice_range (xs ++ more) (length xs) (length xs + length more)) more
    (length-part (xs ++ more) (length xs) (length more) long)
    (λ k d h.
    let below : k < length more = omega (arith, length-part (xs ++ more) (length xs) (length more) long) in
    get_or-part (xs ++ more) (length xs) (length more) k d below ∙ get_or-append_right xs more (length xs) (length xs + k) d refl (omega arith)
    ∙ ap (λ n. get_or more n d) (omega arith))

-- bytes laid over a part are the part of the image with the bytes laid over it
pub laid : (left out bytes image : List ℕ) (at place i : ℕ) → length left ≡ length out → ((k : ℕ) → get_or left k 0 ≡ laid_byte i at place bytes out k)
    → length out ≤ i → at + length out ≤ length image → place + length bytes ≤ length image → out ≡ slice_range image at (at + length out)
    → left ≡ slice_range (overwritten place bytes image) at (at + length out)
laid left out bytes image at place i size is done fits inside was =
    let long : at + length out ≤ length (overwritten place bytes image) = omega (arith, length-overwritten place bytes image inside) in
    same_lists left (slice_range (overwritten place bytes image) at (at + length out))
    (size ∙ sym (length-part (overwritten place bytes image) at (length out) long))
    (λ k d h.
    let below : k < length out = omega (arith, size) in
    get_or_default left k d 0 h ∙ is k ∙ byte k below (cases_lt (at + k) place) (cases_lt (at + k) (place + length bytes))
    ∙ sym (get_or-part (overwritten place bytes image) at (length out) k 0 below)
    ∙ get_or_default _ k 0 d (omega (arith, length-part (overwritten place bytes image) at (length out) long, below)))
  where
    kept : (k : ℕ) → k < length out → get_or out k 0 ≡ get_or image (at + k) 0
    kept k below = ap (λ (l : List ℕ). get_or l k 0) was ∙ get_or-part image at (length out) k 0 below

    byte : (k : ℕ) → k < length out → (at + k < place) ⊎ (place ≤ at + k) → (at + k < place + length bytes) ⊎ (place + length bytes ≤ at + k)
        → laid_byte i at place bytes out k ≡ get_or (overwritten place bytes image) (at + k) 0
    byte k below (inl before) other =
        ap (λ b. if b then get_or bytes (at + k - place) 0 else get_or out k 0)
        (and_right (nat_lt k i) (is_within place (length bytes) (at + k)) (and_left (nat_le place (at + k)) (nat_lt (at + k) (place + length bytes)) (lt-leb place (at + k) before)))
        ∙ kept k below ∙ sym (overwritten_below place bytes image inside (at + k) 0 before)
    byte k below (inr from) (inl high) =
        ap (λ b. if b then get_or bytes (at + k - place) 0 else get_or out k 0)
        (and_from (nat_lt k i) (is_within place (length bytes) (at + k)) (lt-ltb k i (omega (arith, below, done)))
        (and_from (nat_le place (at + k)) (nat_lt (at + k) (place + length bytes)) (le-leb place (at + k) from) (lt-ltb (at + k) (place + length bytes) high)))
        ∙ sym (overwritten_inside place bytes image inside (at + k) 0 from high)
    byte k below (inr from) (inr behind) =
        ap (λ b. if b then get_or bytes (at + k - place) 0 else get_or out k 0)
        (and_right (nat_lt k i) (is_within place (length bytes) (at + k)) (and_right (nat_le place (at + k)) (nat_lt (at + k) (place + length bytes)) (le-ltb (at + k) (place + length bytes) behind)))
        ∙ kept k below ∙ sym (overwritten_above place bytes image inside (at + k) 0 behind)
