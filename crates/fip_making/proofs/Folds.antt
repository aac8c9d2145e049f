-- What is said of several that may be missing, from what is said of each.
use Rattle.std.proofs.Common.{◌≡◌, ◌<◌, ◌+◌, ℕ, suc, List, [], ◌∷◌, ◌++◌, Option, Some, None, Result, Ok, Err, get_or, length, map, take, drop, drop-cons, option_map, refl, sym, ap, ◌∙◌}
use Rattle.std.specs.Prelude.{IfSome, option_and_then}
use Rattle.std.proofs.lemmas.List.{map-append, take-append-drop, take_more}
use Rattle.fip_words.specs.Values.{each}
use Rattle.fip_making.specs.{Values.and_then, Values.there, declared.stops.Stop.Stop}
use Rattle.fip_making.specs.declared.stops.Stop.TheVariants as stop

-- one more, where there is one
abbrev pub with_one : {Y : Type 0} → Option (List Y) → Option Y → Option (List Y)
with_one ys more = option_and_then (λ zs. option_map (λ y. zs ++ (y ∷ [])) more) ys

-- one before
abbrev pub before : {Y : Type 0} → Option Y → Option (List Y) → Option (List Y)
before first ys = option_and_then (λ y. option_map (λ zs. y ∷ zs) ys) first

before-one : {Y : Type 0} (a : Option Y) → before a (Some []) ≡ with_one (Some []) a
before-one None = refl
before-one (Some y) = refl

before-with_one : {Y : Type 0} (a : Option Y) (b : Option (List Y)) (c : Option Y)
    → before a (with_one b c) ≡ with_one (before a b) c
before-with_one None b c = refl
before-with_one (Some y) None c = refl
before-with_one (Some y) (Some ys) None = refl
before-with_one (Some y) (Some ys) (Some z) = refl

pub before-none : {Y : Type 0} (a : Option Y) → before a None ≡ None
before-none None = refl
before-none (Some y) = refl

pub each-more : {X Y : Type 0} (f : X → Option Y) (xs : List X) (x : X) → each f (xs ++ (x ∷ [])) ≡ with_one (each f xs) (f x)
each-more f [] x = before-one (f x)
each-more f (z ∷ xs) x = ap (before (f z)) (each-more f xs x) ∙ before-with_one (f z) (each f xs) (f x)

pub each-stops : {X Y : Type 0} (f : X → Option Y) (xs : List X) (x : X) (ys : List X) → f x ≡ None → each f (xs ++ (x ∷ ys)) ≡ None
each-stops f [] x ys e = ap (λ a. before a (each f ys)) e
each-stops f (z ∷ xs) x ys e = ap (before (f z)) (each-stops f xs x ys e) ∙ before-none (f z)

before-long : {Y : Type 0} (a : Option Y) (b : Option (List Y)) (n : ℕ) → IfSome b (λ ys. length ys ≡ n)
    → IfSome (before a b) (λ ys. length ys ≡ suc n)
before-long None b n h = tt
before-long (Some y) None n h = tt
before-long (Some y) (Some ys) n h = ap suc h

pub each-long : {X Y : Type 0} (f : X → Option Y) (xs : List X) → IfSome (each f xs) (λ ys. length ys ≡ length xs)
each-long f [] = refl
each-long f (x ∷ xs) = before-long (f x) (each f xs) (length xs) (each-long f xs)

-- ---- a value of what may be missing

-- it is a fault of a file where that is missing
pub record IsValue {Y Z : Type 0} (value : Option Y → Result Z Stop) (some : Y → Z) : Type 0 where
  pub none : value None ≡ Err stop.FileFault
  pub one : (y : Y) → value (Some y) ≡ Ok (some y)

pub plain : {Y : Type 0} → IsValue {Y = Y} there (λ y. y)
plain = record { none = refl; one = λ y. refl }

pub made-by : {Y Z : Type 0} (some : Y → Z) → IsValue (λ o. and_then (there o) (λ y. Ok (some y))) some
made-by some = record { none = refl; one = λ y. refl }

missing : {Y Z : Type 0} {value : Option Y → Result Z Stop} {some : Y → Z} → IsValue value some → (o : Option Y) (s : Stop)
    → value o ≡ Err s → (o ≡ None) × (stop.FileFault ≡ s)
missing v None s e = (refl, (let none = v.none in cc))
missing v (Some y) s e = absurd (let one = v.one y in cc)

-- then another is that fault too
pub stopped-by : {Y Z W : Type 0} {value : Option Y → Result Z Stop} {some : Y → Z} → IsValue value some
    → (other : Option Y → Result W Stop) → other None ≡ Err stop.FileFault
    → (o : Option Y) (s : Stop) → value o ≡ Err s → other o ≡ Err s
stopped-by v other none o s e = let m = missing v o s e in ap other m.0 ∙ none ∙ ap (λ (t : Stop). Err t) m.1

-- what was made was made of a value
pub after-ok : {X Y : Type 0} (r : Result X Stop) (k : X → Result Y Stop) (y : Y) → and_then r k ≡ Ok y
    → (x : X) × (r ≡ Ok x) × (k x ≡ Ok y)
after-ok (Ok x) k y e = (x, refl, e)
after-ok (Err s) k y e = absurd cc

pub is-there : {X : Type 0} (o : Option X) (x : X) → there o ≡ Ok x → o ≡ Some x
is-there None x e = cc
is-there (Some y) x e = cc

-- what ends with the number of them, where the value of all is known
pub ends-as : {X Y W V : Type 0} (f : X → Option Y) (xs : List X) (whole : List Y → W) (w : W) (end : ℕ → W → Result V Stop)
    → and_then (there (each f xs)) (λ ys. Ok (whole ys)) ≡ Ok w
    → and_then (there (each f xs)) (λ ys. end (length ys) (whole ys)) ≡ end (length xs) w
ends-as {Y = Y} {W = W} {V = V} f xs whole w end e = go (each f xs) (each-long f xs) e
  where
    go : (o : Option (List Y)) → IfSome o (λ ys. length ys ≡ length xs) → and_then (there o) (λ ys. Ok (whole ys)) ≡ Ok w
        → and_then (there o) (λ ys. end (length ys) (whole ys)) ≡ end (length xs) w
    go None long h = cc
    go (Some ys) long h = let were : whole ys ≡ w = cc in cc

-- ---- over words, as the order has them

module _ {A X : Type 0} (view : A → X) (all : List A) (i : ℕ) (x : A) (within : i < length all) (is : x ≡ get_or all i x) where
  split-at : map view all ≡ map view (take i all) ++ (view x ∷ map view (drop (suc i) all))
  split-at =
      let from : drop i all ≡ x ∷ drop (suc i) all = drop-cons all i x within ∙ ap (λ (y : A). y ∷ drop (suc i) all) (sym is) in
      ap (map view) (sym (take-append-drop i all) ∙ ap (λ (l : List A). take i all ++ l) from)
      ∙ map-append view (take i all) (x ∷ drop (suc i) all)

  next-at : map view (take (i + 1) all) ≡ map view (take i all) ++ (view x ∷ [])
  next-at =
      ap (map view) (take_more all i x within ∙ ap (λ (y : A). take i all ++ (y ∷ [])) (sym is))
      ∙ map-append view (take i all) (x ∷ [])

  module _ {Y Z : Type 0} (f : X → Option Y) {one : Option Y → Result Z Stop} {some : Y → Z} (o : IsValue one some) where
    -- one that is missing
    pub stops-at : {V : Type 0} (end : Option (List Y) → Result V Stop) → end None ≡ Err stop.FileFault → (s : Stop)
        → one (f (view x)) ≡ Err s → end (each f (map view all)) ≡ Err s
    stops-at end none s e =
        let m = missing o (f (view x)) s e in
        ap (λ (l : List X). end (each f l)) split-at
        ∙ ap end (each-stops f (map view (take i all)) (view x) (map view (drop (suc i) all)) m.0) ∙ none
        ∙ ap (λ (t : Stop). Err t) m.1

    -- one more
    pub more-at : {W : Type 0} {value : Option (List Y) → Result W Stop} {whole : List Y → W} → IsValue value whole
        → (join : W → Z → W)
        → ((ys : List Y) (y : Y) → whole (ys ++ (y ∷ [])) ≡ join (whole ys) (some y)) → (w : W) (z : Z)
        → value (each f (map view (take i all))) ≡ Ok w → one (f (view x)) ≡ Ok z
        → value (each f (map view (take (i + 1) all))) ≡ Ok (join w z)
    more-at {W = W} {value = value} {whole = whole} v join joins w z e h =
        ap (λ (l : List X). value (each f l)) next-at ∙ ap value (each-more f (map view (take i all)) (view x))
        ∙ go (each f (map view (take i all))) (f (view x)) e h
      where
        go : (p : Option (List Y)) (q : Option Y) → value p ≡ Ok w → one q ≡ Ok z → value (with_one p q) ≡ Ok (join w z)
        go None q a b = let none = v.none in cc
        go (Some ys) None a b = let none = o.none in cc
        go (Some ys) (Some y) a b =
            let were = v.one ys in
            let is = o.one y in
            let now = v.one (ys ++ (y ∷ [])) in
            let joined = joins ys y in
            cc
