-- The hash values of four messages as eight vectors.
use Rattle.std.proofs.Common.{◌≡◌, ℕ, List, [], ◌∷◌, length, slice_index_or, refl, arith}

-- a list of eight vectors by its items
pub eight_items : (s : List (List ℕ)) → length s ≡ 8
    → slice_index_or s 0 [] ∷ slice_index_or s 1 [] ∷ slice_index_or s 2 [] ∷ slice_index_or s 3 []
    ∷ slice_index_or s 4 [] ∷ slice_index_or s 5 [] ∷ slice_index_or s 6 [] ∷ slice_index_or s 7 [] ∷ [] ≡ s
eight_items (a ∷ b ∷ c ∷ d ∷ e ∷ f ∷ g ∷ h ∷ []) long = refl
eight_items _ long = absurd (omega arith)
