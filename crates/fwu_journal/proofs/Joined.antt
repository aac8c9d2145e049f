-- Pieces with commas between them, one more at a time.
use Rattle.std.proofs.Common.{◌≡◌, ◌≤◌, ◌<◌, ◌+◌, ℕ, List, [], ◌∷◌, ◌++◌, length, map, take, get_or, refl, ap, sym, subst, ◌∙◌, append_assoc, length-append, arith}
use Rattle.std.specs.Prelude.{Vec}
use Rattle.std.specs.List.{join_with_byte}
use Rattle.std.specs.Global.{Global}
use Rattle.std.proofs.lemmas.List.{take_more, length-take-le, map-append, length-map}
use Rattle.fwu_model.specs.Text.{comma}
use Rattle.fwu_journal.specs.{Joined.comma_before, Room.Grows}
use Rattle.fwu_journal.proofs.Grown.{grows-then}

-- a piece more is behind a comma, unless it is the first
join-push : (pieces : List (List ℕ)) (next : List ℕ) → join_with_byte comma (pieces ++ next ∷ []) ≡ join_with_byte comma pieces ++ comma_before (length pieces) ++ next
join-push [] next = refl
join-push (p ∷ []) next = sym (append_assoc p (comma ∷ []) next)
join-push (p ∷ q ∷ pieces) next = simp (join-push (q ∷ pieces) next, append_assoc)

module _ {X : Type 0} (piece : X → List ℕ) (xs : List X) (n : ℕ) (default x : X) where
  -- the first pieces
  abbrev joined : ℕ → List ℕ
  joined k = join_with_byte comma (map piece (take k xs))

  join-more : n < length xs → x ≡ get_or xs n default → joined (n + 1) ≡ joined n ++ comma_before n ++ piece x
  join-more within is =
      let few : n ≤ length xs = omega arith in
      let count : length (map piece (take n xs)) ≡ n = length-map (take n xs) piece ∙ length-take-le n xs few in
      ap (λ l. join_with_byte comma (map piece l)) (take_more xs n default within)
      ∙ ap (λ y. join_with_byte comma (map piece (take n xs ++ y ∷ []))) (sym is)
      ∙ ap (join_with_byte comma) (map-append piece (take n xs) (x ∷ []))
      ∙ join-push (map piece (take n xs)) (piece x)
      ∙ ap (λ k. joined n ++ comma_before k ++ piece x) count

  pub pieces-more : {a b c e : Vec ℕ Global} → n < length xs → x ≡ get_or xs n default
      → Grows a b (joined n) → Grows b c (comma_before n) → Grows c e (piece x) → Grows a e (joined (n + 1))
  pieces-more {a = a} {e = e} within is front comma last = subst (Grows a e) (sym (join-more within is)) (grows-then (grows-then front comma) last)

  pub length-more : n < length xs → x ≡ get_or xs n default → length (joined (n + 1)) ≡ length (joined n) + length (comma_before n) + length (piece x)
  length-more within is =
      ap length (join-more within is)
      ∙ length-append (joined n ++ comma_before n) (piece x)
      ∙ ap (λ k. k + length (piece x)) (length-append (joined n) (comma_before n))
