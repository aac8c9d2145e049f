-- A stop that is handed on, and one call after another where no loss is armed.
use Rattle.std.proofs.Common.{◌≡◌, ◌∙◌, ap, Result, Err, Option}
use Rattle.std.specs.Prelude.{IsErrAnd, Result, Ok}
use Rattle.std.proofs.lemmas.Result.{err_from_is_err_and}
use Rattle.flash_core.specs.{declared.flash.Arming.Arming, declared.flash.Counts.Counts, Counts.StaysUnarmed}
use Rattle.flash_core.specs.declared.flash.FlashStop.{FlashStop}

pub handed-on : {T S : Type 0} (r : Result T S) (s : S) → IsErrAnd r (λ x. x ≡ s) → r ≡ Err s
handed-on r s is = let p = err_from_is_err_and r is in p.1 ∙ ap Err p.2

-- after calls that were done, one more that was done
pub unarmed_then : {T : Type 0} (result : Result T FlashStop) (a b c : Option Arming) (x y z : Counts) → StaysUnarmed {T = Unit {0}} (Ok tt) a b x y → StaysUnarmed result b c y z → StaysUnarmed {T = Unit {0}} (Ok tt) a c x z
unarmed_then result a b c x y z first second = record {
  spent = λ e. absurd cc;
  free = λ none.
      let one = first.free none in
      let two = second.free one.0 in
      (two.0, record { same = two.1.same ∙ one.1.same; lost = λ is. absurd cc });
}
