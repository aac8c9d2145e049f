use Rattle.std.proofs.Common.{IsTrue, ◌≡◌, refl}
use Rattle.std.proofs.lemmas.Bool.{false≢true}
use Rattle.fwu_formats.specs.{contracts.kinds.BankStatePartialEq.TheImpl.eq-value, declared.kinds.BankState.BankState}
use Rattle.fwu_formats.specs.declared.kinds.BankState.TheVariants.{Invalid, Valid, Accepted}
use Rattle.meta_layout.proofs.Same.{Tells, padded_test, padded-tells, told}
use Rattle.meta_layout.proofs.lists.States.is.Goals as goal

states-tell : Tells eq-value.it
states-tell = record { one = one; itself = itself }
  where
    one : (x y : BankState) → IsTrue (eq-value.it x y) → x ≡ y
    one Invalid Invalid h = refl
    one Invalid Valid h = absurd (false≢true h)
    one Invalid Accepted h = absurd (false≢true h)
    one Valid Invalid h = absurd (false≢true h)
    one Valid Valid h = refl
    one Valid Accepted h = absurd (false≢true h)
    one Accepted Invalid h = absurd (false≢true h)
    one Accepted Valid h = absurd (false≢true h)
    one Accepted Accepted h = refl

    itself : (x : BankState) → IsTrue (eq-value.it x x)
    itself Invalid = refl
    itself Valid = refl
    itself Accepted = refl

pub returns : goal.returns
returns c = told (padded_test eq-value.it states-tell 4 Invalid) (padded-tells eq-value.it states-tell 4 Invalid) c.args.self.now c.args.other.now c.eq.result c.eq.ensures
