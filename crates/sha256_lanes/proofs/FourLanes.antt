-- What holds of each of four lanes.
use Rattle.std.proofs.Common.{◌≡◌, ℕ, zero, suc, ◌<◌, List, [], ◌∷◌, length, map, slice_index, refl, ap, ap₂, ◌∙◌, arith}
use Rattle.std.proofs.lemmas.List.{get_or-map}
use Rattle.std.proofs.lemmas.Simd.{get_or-zip2, length-zip2}
use Rattle.std.specs.Simd.Lanes.{zip2}

-- a fact of each lane
pub below_four : (P : ℕ → Type 0) → P 0 → P 1 → P 2 → P 3 → (j : ℕ) → j < 4 → P j
below_four P p0 p1 p2 p3 zero lt = p0
below_four P p0 p1 p2 p3 (suc zero) lt = p1
below_four P p0 p1 p2 p3 (suc (suc zero)) lt = p2
below_four P p0 p1 p2 p3 (suc (suc (suc zero))) lt = p3
below_four P p0 p1 p2 p3 (suc (suc (suc (suc j)))) lt = absurd (omega arith)

-- a lane of an operator on two vectors
pub lane_of_zip : (f : ℕ → ℕ → ℕ) (x y : List ℕ) → length x ≡ 4 → length y ≡ 4 → (j : ℕ) → j < 4
    → slice_index (zip2 f x y) j ≡ f (slice_index x j) (slice_index y j)
lane_of_zip f x y ex ey j lt = get_or-zip2 f x y j 0 0 0 (omega arith) (omega arith)

pub length_of_zip : (f : ℕ → ℕ → ℕ) (x y : List ℕ) → length x ≡ 4 → length y ≡ 4 → length (zip2 f x y) ≡ 4
length_of_zip f x y ex ey = length-zip2 f x y (omega arith) ∙ ex

-- a lane of an operator on two operators' results
pub lane_of_zips : (f g h : ℕ → ℕ → ℕ) (x y u v : List ℕ) → length x ≡ 4 → length y ≡ 4 → length u ≡ 4 → length v ≡ 4
    → (j : ℕ) → j < 4
    → slice_index (zip2 f (zip2 g x y) (zip2 h u v)) j ≡ f (g (slice_index x j) (slice_index y j)) (h (slice_index u j) (slice_index v j))
lane_of_zips f g h x y u v ex ey eu ev j lt =
    lane_of_zip f _ _ (length_of_zip g x y ex ey) (length_of_zip h u v eu ev) j lt
    ∙ ap₂ f (lane_of_zip g x y ex ey j lt) (lane_of_zip h u v eu ev j lt)

-- a lane of an operator on an operator's result and a vector
pub lane_of_zip_left : (f g : ℕ → ℕ → ℕ) (x y z : List ℕ) → length x ≡ 4 → length y ≡ 4 → length z ≡ 4 → (j : ℕ) → j < 4
    → slice_index (zip2 f (zip2 g x y) z) j ≡ f (g (slice_index x j) (slice_index y j)) (slice_index z j)
lane_of_zip_left f g x y z ex ey ez j lt =
    lane_of_zip f _ z (length_of_zip g x y ex ey) ez j lt ∙ ap (λ (a : ℕ). f a (slice_index z j)) (lane_of_zip g x y ex ey j lt)

-- a lane of four times one number
pub lane_of_splat : (n j : ℕ) → j < 4 → slice_index (n ∷ n ∷ n ∷ n ∷ []) j ≡ n
lane_of_splat n = below_four (λ j. slice_index (n ∷ n ∷ n ∷ n ∷ []) j ≡ n) refl refl refl refl

-- a lane of an operator on one vector
pub lane_of_map : (f : ℕ → ℕ) (x : List ℕ) → length x ≡ 4 → (j : ℕ) → j < 4 → slice_index (map f x) j ≡ f (slice_index x j)
lane_of_map f x ex j lt = get_or-map f x j 0 0 (omega arith)
