-- Results that are one, and conditionals of which the test is known.
use Rattle.std.proofs.Common.{◌≡◌, Bool, true, false, Result, Ok, Err, IsTrue, refl, ap, cond, ◌∙◌}
use Rattle.std.proofs.lemmas.Bool.{cond-false, cond-true, false≢true}
use Rattle.std.specs.Prelude.{IsErrAnd, is_ok}

pub same-Ok : {X F : Type 0} (x y : X) → ◌≡◌ {A = Result X F} (Ok x) (Ok y) → x ≡ y
same-Ok x y e = cc

pub same-Err : {X F : Type 0} (x y : F) → ◌≡◌ {A = Result X F} (Err x) (Err y) → x ≡ y
same-Err x y e = cc

pub ok-is : {X F : Type 0} (r : Result X F) → IsTrue (is_ok r) → (x : X) × (r ≡ Ok x)
ok-is (Ok x) h = (x, refl)
ok-is (Err e) h = absurd (false≢true h)

-- a stop that `?` hands on
pub handed-on : {T S : Type 0} (r : Result T S) (s : S) → IsErrAnd r (λ x. x ≡ s) → r ≡ Err s
handed-on (Ok t) s is = absurd is
handed-on (Err e) s is = ap Err is

pub takes : {X : Type 0} (b : Bool) (x y z : X) → b ≡ true → x ≡ z → cond b x y ≡ z
takes b x y z is same = cond-true b x y is ∙ same

pub skips : {X : Type 0} (b : Bool) (x y z : X) → b ≡ false → y ≡ z → cond b x y ≡ z
skips b x y z is same = cond-false b x y is ∙ same
