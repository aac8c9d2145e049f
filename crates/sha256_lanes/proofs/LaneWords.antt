-- The words of a message against the vectors that they are lanes of.
use Rattle.std.proofs.Common.{◌≡◌, ◌≢◌, ℕ, zero, suc, ◌+◌, ◌-◌, ◌<◌, ◌≤◌, List, [], ◌∷◌, length, slice_index, slice_index_or, slice_set, refl, ap, ap₂, ◌∙◌, arith, below_more}
use Rattle.std.proofs.lemmas.List.{get_or-set_other, get_or-set_same, length-map}
use Rattle.sha2.specs.Sha256.{add32, ch, maj, next_word, small_sigma0, small_sigma1}
use Rattle.sha256_lanes.specs.Lanes.{lane}

-- word k of message j is lane j of vector k
pub word_of_lane : (j : ℕ) (words : List (List ℕ)) (k : ℕ) → slice_index (lane j words) k ≡ slice_index (slice_index_or words k []) j
word_of_lane j [] k = refl
word_of_lane j (v ∷ words) zero = refl
word_of_lane j (v ∷ words) (suc k) = word_of_lane j words k

-- a vector that is written is a word that is written in each message
pub lane-slice_set : (j : ℕ) (words : List (List ℕ)) (k : ℕ) (v : List ℕ) → lane j (slice_set words k v) ≡ slice_set (lane j words) k (slice_index v j)
lane-slice_set j [] k v = refl
lane-slice_set j (u ∷ words) zero v = refl
lane-slice_set j (u ∷ words) (suc k) v = ap (λ (l : List ℕ). slice_index u j ∷ l) (lane-slice_set j words k v)

pub length-lane : (j : ℕ) (words : List (List ℕ)) → length (lane j words) ≡ length words
length-lane j words = length-map words (λ (v : List ℕ). slice_index v j)

-- one word more is what it has to be
pub word_more : (F : ℕ → ℕ) (words : List ℕ) (t x : ℕ) → t < length words → ((k : ℕ) → k < t → slice_index words k ≡ F k) → x ≡ F t
    → (k : ℕ) → k < t + 1 → slice_index (slice_set words t x) k ≡ F k
word_more F words t x lt before here =
    below_more (λ k. slice_index (slice_set words t x) k ≡ F k) t
    (λ k below.
    let ne : k ≢ t = λ e. absurd (omega arith) in
    get_or-set_other words t k x 0 ne ∙ before k below)
    (get_or-set_same words t x 0 lt ∙ here)

-- and of each message
pub words_more : (F : ℕ → ℕ) (j : ℕ) (words : List (List ℕ)) (t : ℕ) (v : List ℕ) → t < length words
    → ((k : ℕ) → k < t → slice_index (lane j words) k ≡ F k) → slice_index v j ≡ F t
    → (k : ℕ) → k < t + 1 → slice_index (lane j (slice_set words t v)) k ≡ F k
words_more F j words t v lt before here =
    rw (lane-slice_set j words t v) (word_more F (lane j words) t (slice_index v j) (omega (arith, length-lane j words)) before here)

-- W t reads only the words before it
pub next_word_same : (w x : List ℕ) (t : ℕ) → 16 ≤ t → ((k : ℕ) → k < t → slice_index w k ≡ slice_index x k) → next_word w t ≡ next_word x t
next_word_same w x t after same =
    ap₂ add32
    (ap₂ add32 (ap₂ add32 (ap small_sigma1 (same (t - 2) (omega arith))) (same (t - 7) (omega arith))) (ap small_sigma0 (same (t - 15) (omega arith))))
    (same (t - 16) (omega arith))

-- ---- the same words give the same results

pub ch_same : {x y z x' y' z' : ℕ} → x ≡ x' → y ≡ y' → z ≡ z' → ch x y z ≡ ch x' y' z'
ch_same p q r = cc

pub eight_same : {a b c d e f g h a' b' c' d' e' f' g' h' : ℕ}
    → a ≡ a' → b ≡ b' → c ≡ c' → d ≡ d' → e ≡ e' → f ≡ f' → g ≡ g' → h ≡ h'
    → a ∷ b ∷ c ∷ d ∷ e ∷ f ∷ g ∷ h ∷ [] ≡ a' ∷ b' ∷ c' ∷ d' ∷ e' ∷ f' ∷ g' ∷ h' ∷ []
eight_same p0 p1 p2 p3 p4 p5 p6 p7 = cc
