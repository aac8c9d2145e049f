-- Lists of bytes, compared and cut.
use Rattle.std.proofs.Common.{suc, length-take, get_or, drop, arith, ltb, le-leb, ◌≡◌, ℕ, ◌+◌, ◌<◌, true, ◌&&◌, IsTrue, eqb, List, [], ◌∷◌, length, take, refl, ap}
use Rattle.std.proofs.lemmas.List.{get_or-take, get_or-drop}
use Rattle.base_core.specs.Bytes.{same_bytes, are_bytes}
use lib.Pointwise.{pointwise}

pub same-pointwise : (xs ys : List ℕ) → pointwise eqb xs ys ≡ same_bytes xs ys
same-pointwise [] [] = refl
same-pointwise [] (y ∷ ys) = refl
same-pointwise (x ∷ xs) [] = refl
same-pointwise (x ∷ xs) (y ∷ ys) = ap (λ b. eqb x y && b) (same-pointwise xs ys)

pub bytes-fit : (bytes : List ℕ) → ((k : ℕ) → k < length bytes → get_or bytes k 0 < 256) → IsTrue (are_bytes bytes)
bytes-fit [] h = refl
bytes-fit (b ∷ bytes) h =
    let first : ltb b 256 ≡ true = le-leb (suc b) 256 (h 0 (omega arith)) in
    rw first (bytes-fit bytes (λ k lt. h (suc k) (omega arith)))

pub part-fits : (block : List ℕ) (at n k : ℕ) → k < length (take n (drop at block)) → ((j : ℕ) → get_or block j 0 < 256) → get_or (take n (drop at block)) k 0 < 256
part-fits block at n k lt h =
    let below : k < n = omega (arith, length-take n (drop at block)) in
    rw (get_or-take n (drop at block) k 0 below, get_or-drop at block k 0) (h (at + k))
