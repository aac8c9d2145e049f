-- Values that are compared part by part.
use Rattle.std.proofs.Common.{◌≡◌, ℕ, ◌-◌, Bool, true, false, ◌&&◌, ◌==◌, IsTrue, eqb, eqb-true, eq-eqb, List, [], ◌∷◌, ◌++◌, length, take, replicate, refl, sym, ap, ◌∙◌}
use Rattle.std.specs.Prelude.{◌↔◌}
use Rattle.std.proofs.Math.Bool.{beq}
use Rattle.std.proofs.Math.Seq.{take-append_seam}
use Rattle.std.proofs.lemmas.Bool.{and_parts, and_from, false≢true}
use lib.Pointwise.{pointwise}

-- the test tells whether two are one
pub record Tells {X : Type 0} (test : X → X → Bool) : Type 0 where
  pub one : (x y : X) → IsTrue (test x y) → x ≡ y
  pub itself : (x : X) → IsTrue (test x x)

module _ {X : Type 0} (test : X → X → Bool) (tells : Tells test) where
  all-one : (xs ys : List X) → IsTrue (pointwise test xs ys) → xs ≡ ys
  all-one [] [] h = refl
  all-one [] (y ∷ ys) h = absurd (false≢true h)
  all-one (x ∷ xs) [] h = absurd (false≢true h)
  all-one (x ∷ xs) (y ∷ ys) h =
      let both = and_parts (test x y) (pointwise test xs ys) h in
      let head = tells.one x y both.0 in
      let tail = all-one xs ys both.1 in
      cc

  all-itself : (xs : List X) → IsTrue (pointwise test xs xs)
  all-itself [] = refl
  all-itself (x ∷ xs) = and_from _ _ (tells.itself x) (all-itself xs)

  module _ (room : ℕ) (filler : X) where
    abbrev padded : List X → List X
    padded xs = xs ++ replicate (room - length xs) filler

    abbrev pub padded_test : List X → List X → Bool
    padded_test xs ys = (length xs == length ys) && pointwise test (padded xs) (padded ys)

    pub padded-tells : Tells padded_test
    padded-tells = record {
      one = λ xs ys h.
          let both = and_parts (eqb (length xs) (length ys)) (pointwise test (padded xs) (padded ys)) h in
          let n : length xs ≡ length ys = eqb-true _ _ both.0 in
          let all : padded xs ≡ padded ys = all-one (padded xs) (padded ys) both.1 in
          sym (take-append_seam xs (replicate (room - length xs) filler)) ∙ ap (λ (k : ℕ). take k (padded xs)) n ∙ ap (λ (l : List X). take (length ys) l) all ∙ take-append_seam ys (replicate (room - length ys) filler);
      itself = λ xs. and_from _ _ (eq-eqb (length xs) (length xs) refl) (all-itself (padded xs));
    }

pub told : {X : Type 0} (test : X → X → Bool) → Tells test → (x y : X) (b : Bool) → b ≡ test x y → IsTrue b ↔ (x ≡ y)
told test tells x y b is = (λ h. tells.one x y (sym is ∙ h), λ e. is ∙ ap (test x) (sym e) ∙ tells.itself x)

pub bits-tell : Tells beq
bits-tell = record { one = one; itself = itself }
  where
    one : (x y : Bool) → IsTrue (beq x y) → x ≡ y
    one true true h = refl
    one true false h = absurd (false≢true h)
    one false true h = absurd (false≢true h)
    one false false h = refl

    itself : (x : Bool) → IsTrue (beq x x)
    itself true = refl
    itself false = refl
