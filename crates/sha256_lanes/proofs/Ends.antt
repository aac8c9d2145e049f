-- The end of a message: its last blocks, and its digest.
use Rattle.std.proofs.Common.{◌≡◌, ℕ, ◌+◌, ◌-◌, ◌*◌, ◌/◌, ◌%◌, ◌^◌, ◌<◌, ◌≤◌, List, [], ◌∷◌, ◌++◌, length, take, drop, replicate, refl, sym, ap, ap₂, ◌∙◌, arith, length-append, length-drop}
use Rattle.std.proofs.lemmas.List.{append_assoc, drop-drop, drop-replicate, drop_at, length-replicate, replicate-append-replicate, take-append-drop, take_at, take_rest}
use Rattle.std.specs.Int.{w64, to_be_bytes}
use Rattle.sha2.specs.Sha256.{digest_bytes, hash_after, initial_hash_256, padded_message, padding, sha256}
use Rattle.sha256_lanes.specs.Holding.{IsOfBlocks}

-- the padding reads a length modulo 2 ^ 64
pub padding_same : (n total : ℕ) → total ≡ n % 2 ^ 64 → padding total ≡ padding n
padding_same n total counted =
    let zeros : (119 - total % 64) % 64 ≡ (119 - n % 64) % 64 = omega arith in
    let bits : total * 8 % 2 ^ 64 ≡ n * 8 % 2 ^ 64 = omega arith in
    ap₂ (λ (z b : ℕ). 0x80 ∷ replicate z 0 ++ to_be_bytes w64 b) zeros bits

-- a message that is cut at a whole block, with a padding behind it
rejoined : (m rest p : List ℕ) (whole : ℕ) → (m ++ take whole rest) ++ (drop whole rest ++ p) ≡ (m ++ rest) ++ p
rejoined m rest p whole =
    let t = take whole rest in
    let d = drop whole rest in
    append_assoc m t (d ++ p) ∙ ap (λ (l : List ℕ). m ++ l) (sym (append_assoc t d p) ∙ ap (λ (l : List ℕ). l ++ p) (take-append-drop whole rest))
    ∙ sym (append_assoc m rest p)

-- the hash value that has taken in a message and its last blocks has its digest
pub digest_of_padded : (h m rest blocks left last : List ℕ) (total whole : ℕ) → total ≡ length (m ++ rest) % 2 ^ 64 → length m % 64 ≡ 0
    → whole ≡ length rest - length rest % 64 → blocks ≡ take whole rest → left ≡ drop whole rest
    → (total % 64 ≡ length left → last ≡ left ++ padding total)
    → IsOfBlocks h ((m ++ blocks) ++ last) → digest_bytes h 8 ≡ sha256 (m ++ rest)
unfolding IsOfBlocks sha256
digest_of_padded h m rest blocks left last total whole counted of_blocks cut front behind ends held =
    let short : total % 64 ≡ length left = omega (arith, length-append m rest, ap length behind, length-drop whole rest) in
    let all = length (m ++ rest) in
    let end : last ≡ drop whole rest ++ padding all = ends short ∙ ap₂ (λ (l p : List ℕ). l ++ p) behind (padding_same all total counted) in
    let e : (m ++ blocks) ++ last ≡ padded_message (m ++ rest) = ap₂ (λ (b l : List ℕ). (m ++ b) ++ l) front end ∙ rejoined m rest (padding all) whole in
    ap (λ (x : List ℕ). digest_bytes x 8) (held.1.0 ∙ ap (λ (p : List ℕ). hash_after initial_hash_256 p (length p / 64)) e)

-- a message that is cut anywhere
pub cut_message : (m : List ℕ) (n : ℕ) → take n m ++ take (length m - n) (drop n m) ≡ m
cut_message m n = ap (λ (l : List ℕ). take n m ++ l) (take_rest m n) ∙ take-append-drop n m

pub cut_length : (m : List ℕ) (n : ℕ) → length m < 2 ^ 64 → length m ≡ length (take n m ++ take (length m - n) (drop n m)) % 2 ^ 64
cut_length m n fits = omega (arith, ap length (cut_message m n))

-- ---- how the last blocks are written

-- the byte 0x80 behind what is left of the message
one_bit_behind : (left first : List ℕ) → first ≡ left ++ drop (0 + length left) (replicate 128 0)
    → take (length left) first ++ (0x80 ∷ []) ++ drop (length left + 1) first ≡ (left ++ (0x80 ∷ [])) ++ replicate (128 - (0 + length left) - 1) 0
one_bit_behind left first written =
    let n = length left in
    let zeros = replicate {A = ℕ} (128 - (0 + n)) 0 in
    let e : first ≡ left ++ zeros = written ∙ ap (λ (l : List ℕ). left ++ l) (drop-replicate (0 + n) 128 0) in
    let front : take n first ≡ left = ap (take n) e ∙ take_at left zeros n refl in
    let back : drop (n + 1) first ≡ replicate (128 - (0 + n) - 1) 0 =
    ap (drop (n + 1)) e ∙ sym (drop-drop 1 n (left ++ zeros)) ∙ ap (drop 1) (drop_at left zeros n refl) ∙ drop-replicate 1 (128 - (0 + n)) 0 in
    ap₂ (λ (a b : List ℕ). a ++ (0x80 ∷ []) ++ b) front back

-- so many of some zeros behind a list
some_zeros : (front : List ℕ) (z k n : ℕ) → z ≤ k → n ≡ length front + z → take n (front ++ replicate k 0) ≡ front ++ replicate z 0
some_zeros front z k n few long =
    let all : z + (k - z) ≡ k = omega arith in
    let more = replicate {A = ℕ} (k - z) 0 in
    let split = ap (λ (x : ℕ). replicate x 0) (sym all) ∙ sym (replicate-append-replicate {A = ℕ} z (k - z) 0) in
    ap (λ (l : List ℕ). take n (front ++ l)) split ∙ ap (take n) (sym (append_assoc front (replicate z 0) more))
    ∙ take_at (front ++ replicate z 0) more n (omega (arith, long, length-append front (replicate z 0), length-replicate {A = ℕ} z 0))

-- what is left of the message at the front of zeros, the byte 0x80 behind it, and the length at the end
pub last_blocks_are : (left bits first second third : List ℕ) (z size : ℕ) → length left + z ≤ 119 → size ≡ length left + 1 + z + 8 → length bits ≡ 8
    → first ≡ left ++ drop (0 + length left) (replicate 128 0)
    → second ≡ take (length left) first ++ (0x80 ∷ []) ++ drop (length left + 1) first
    → third ≡ take (size - 8) second ++ bits ++ drop (size - 8 + length bits) second
    → take size third ≡ left ++ (0x80 ∷ replicate z 0 ++ bits)
last_blocks_are left bits first second third z size few long eight is_first is_second is_third =
    let front = left ++ (0x80 ∷ []) in
    let zeros = replicate {A = ℕ} z 0 in
    let rest = drop (size - 8 + length bits) second in
    let k = 128 - (0 + length left) - 1 in
    let front_long = length-append left (0x80 ∷ []) in
    let begins : take (size - 8) second ≡ front ++ zeros =
    ap (take (size - 8)) (is_second ∙ one_bit_behind left first is_first) ∙ some_zeros front z k (size - 8) (omega arith) (omega (arith, front_long)) in
    let whole : third ≡ (front ++ zeros ++ bits) ++ rest = is_third ∙ ap (λ (l : List ℕ). l ++ bits ++ rest) begins in
    let size_is : length (front ++ zeros ++ bits) ≡ size =
    omega (arith, length-append (front ++ zeros) bits, length-append front zeros, front_long, length-replicate {A = ℕ} z 0) in
    ap (take size) whole ∙ take_at (front ++ zeros ++ bits) rest size size_is ∙ append_assoc front zeros bits ∙ append_assoc left (0x80 ∷ []) (zeros ++ bits)
