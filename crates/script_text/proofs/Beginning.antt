-- The types of a partial begin, word by word.
use Rattle.std.proofs.Common.{◌≡◌, ℕ, ◌+◌, ◌<◌, ◌≤◌, Bool, cond, true, false, List, [], ◌∷◌, ◌++◌, length, Option, Some, None, refl, sym, ap, ◌∙◌, arith, ltb}
use Rattle.std.specs.Prelude.{is_some, option_map}
use Rattle.std.specs.List.{cons_option}
use Rattle.fwu_formats.specs.Words.{named}
use Rattle.std.proofs.lemmas.Bool.{lt-ltb, le-ltb}
use Rattle.std.proofs.lemmas.List.{length-append}
use Rattle.fwu_model.specs.{Call.Call, Script.names_limit, Script.onto_types, Script.types_of, Script.begin_call}
use Rattle.fwu_model.specs.Call as call

-- no call where a word is no type, or there are too many
no-types : (all : List (List ℕ)) → types_of all ≡ None → None ≡ begin_call all
no-types all is = by-test (ltb names_limit (length all)) ∙ ap (λ (o : Option (List (List ℕ))). cond (ltb names_limit (length all)) None (option_map call.BeginPartial o)) (sym is)
  where
    by-test : (b : Bool) → ◌≡◌ {A = Option Call} None (cond b None None)
    by-test true = refl
    by-test false = refl

pub too-many : (all rest : List (List ℕ)) (i : ℕ) → length all ≡ i + length rest → 16 ≤ i → 0 < length rest → None ≡ begin_call all
too-many all rest i count past some =
    sym (ap (λ (b : Bool). cond b None (option_map call.BeginPartial (types_of all))) (lt-ltb names_limit (length all) (omega (arith, count, past, some))))

-- one type more is one at least
pub some-pushed : (done new : List (List ℕ)) (o : Option (List ℕ)) → is_some o ≡ true → new ≡ done ++ cons_option o [] → 0 < length new
some-pushed done new None is new-is = absurd cc
some-pushed done new (Some guid) is new-is =
    let len = ap (λ (l : List (List ℕ)). length l) new-is in let more = length-append done (guid ∷ []) in omega (arith, len, more)

joined : (done : List (List ℕ)) (guid : List ℕ) (o : Option (List (List ℕ)))
    → option_map (λ more. done ++ more) (onto_types (Some guid) o) ≡ option_map (λ more. (done ++ guid ∷ []) ++ more) o
joined done guid None = refl
joined done guid (Some types) = ap (λ (l : List (List ℕ)). Some l) (sym (append-step done))
  where
    append-step : (l : List (List ℕ)) → (l ++ guid ∷ []) ++ types ≡ l ++ guid ∷ types
    append-step [] = refl
    append-step (x ∷ xs) = ap (λ (l : List (List ℕ)). x ∷ l) (append-step xs)

nothing-behind : (l : List (List ℕ)) → l ++ [] ≡ l
nothing-behind [] = refl
nothing-behind (x ∷ xs) = ap (λ (l : List (List ℕ)). x ∷ l) (nothing-behind xs)

module _ (all done : List (List ℕ)) (name : List ℕ) (more rest : List (List ℕ)) (parts : rest ≡ name ∷ more)
    (types : types_of all ≡ option_map (λ l. done ++ l) (types_of rest)) where
  behind : types_of all ≡ option_map (λ l. done ++ l) (onto_types (named name) (types_of more))
  behind = types ∙ ap (λ (l : List (List ℕ)). option_map (λ m. done ++ m) (types_of l)) parts

  pub not-named : is_some (named name) ≡ false → None ≡ begin_call all
  not-named is = by-name (named name) refl is
    where
      by-name : (o : Option (List ℕ)) → named name ≡ o → is_some o ≡ false → None ≡ begin_call all
      by-name None e is = no-types all (behind ∙ ap (λ (p : Option (List ℕ)). option_map (λ m. done ++ m) (onto_types p (types_of more))) e)
      by-name (Some guid) e is = absurd cc

  pub one-named : (new : List (List ℕ)) → is_some (named name) ≡ true → new ≡ done ++ cons_option (named name) []
      → types_of all ≡ option_map (λ l. new ++ l) (types_of more)
  one-named new is new-is = by-name (named name) refl is
    where
      by-name : (o : Option (List ℕ)) → named name ≡ o → is_some o ≡ true → types_of all ≡ option_map (λ l. new ++ l) (types_of more)
      by-name None e is = absurd cc
      by-name (Some guid) e is =
          let here : new ≡ done ++ guid ∷ [] = new-is ∙ ap (λ (p : Option (List ℕ)). done ++ cons_option p []) e in
          behind ∙ ap (λ (p : Option (List ℕ)). option_map (λ m. done ++ m) (onto_types p (types_of more))) e ∙ joined done guid (types_of more)
          ∙ ap (λ (n : List (List ℕ)). option_map (λ l. n ++ l) (types_of more)) (sym here)

  pub last-named : (new : List (List ℕ)) (i : ℕ) → more ≡ [] → length all ≡ i + length rest → i < 16 → is_some (named name) ≡ true
      → new ≡ done ++ cons_option (named name) [] → Some (call.BeginPartial new) ≡ begin_call all
  last-named new i last count few is new-is =
      let found : types_of all ≡ Some new = one-named new is new-is ∙ ap (λ (l : List (List ℕ)). option_map (λ m. new ++ m) (types_of l)) last
      ∙ ap (λ (l : List (List ℕ)). Some l) (nothing-behind new) in
      let one : length rest ≡ 1 = ap (λ (l : List (List ℕ)). length l) (parts ∙ ap (λ (l : List (List ℕ)). name ∷ l) last) in
      sym (ap (λ (b : Bool). cond b None (option_map call.BeginPartial (types_of all))) (le-ltb names_limit (length all) (omega (arith, count, one, few)))
      ∙ ap (λ (o : Option (List (List ℕ))). option_map call.BeginPartial o) found)
