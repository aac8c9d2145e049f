-- Words that begin with two of them, and those that name no list.
use Rattle.std.proofs.Common.{◌≡◌, ◌∙◌, ◌-◌, ◌≤◌, Bool, true, Option, Some, None, refl, ℕ, List, [], ◌∷◌, map, length, take, drop, get_or, ap, ap₂, sym, arith}
use Rattle.std.proofs.lemmas.List.{take_all}
use Rattle.std.proofs.lemmas.Bool.{false≢true}
use Rattle.fwu_model.specs.Allow.{Admits, Anyone, Listed, asks_list, list_name}

pub front_two : {X : Type 0} (f : X → List ℕ) (xs : List X) (a b : X) (p q : List ℕ) → 2 ≤ length xs → a ≡ get_or xs 0 a → b ≡ get_or xs 1 b
    → f a ≡ p → f b ≡ q → map f xs ≡ p ∷ q ∷ map f (take (length xs - 2) (drop 2 xs))
front_two f [] a b p q long first second is_p is_q = absurd (omega arith)
front_two f (x ∷ []) a b p q long first second is_p is_q = absurd (omega arith)
front_two f (x ∷ y ∷ xs) a b p q long first second is_p is_q =
    ap₂ (λ (w : List ℕ) (ws : List (List ℕ)). w ∷ ws) (ap f (sym first) ∙ is_p)
    (ap₂ (λ (w : List ℕ) (ws : List (List ℕ)). w ∷ ws) (ap f (sym second) ∙ is_q) (ap (map f) (sym (take_all _ xs (omega arith)))))

-- where no name stands behind `--allow`, nothing says whose manifests pass
pub none_admits : (words rest : List (List ℕ)) (files : List ℕ → Option (List ℕ)) (passes : List ℕ → Bool)
    → asks_list words ≡ true → list_name words ≡ None → Admits words files passes rest → ⊥
none_admits words rest files passes asks none (Anyone e) = false≢true (sym e ∙ asks)
none_admits words rest files passes asks none (Listed {name = name} file told listed) =
    let named : list_name words ≡ Some name = rw file refl in cc
