-- What a read spends, and calls that the flash stopped.
use Rattle.std.proofs.Common.{◌≡◌, Bool, not, Result, Ok, Err, is_ok, refl, subst, ◌∙◌}
use Rattle.std.specs.Prelude.{is_err}
use Rattle.flash_core.specs.{declared.flash.Flash.Ghosts, declared.flash.FlashStop.FlashStop, Calls.Reads}
use Rattle.agent_machine.specs.{declared.stop.Stop.Stop, Meets.flash_result, CallGoes.Spent}
use Rattle.agent_machine.specs.declared.stop.Stop.TheVariants as stop
use Rattle.flash_core.proofs.Unarmed.{unarmed_kept}

-- a read
pub read-spent : {D : Type 0} {g : Ghosts D} (result : Result (Unit {0}) FlashStop) (gone : Bool) (a b : D) → gone ≡ is_err result
    → Reads g result a b → Spent g result gone a b
read-spent {g = g} result gone a b is reads = record {
  gone_is = is ∙ unless result;
  power = reads.power;
  size = reads.size;
  costs = reads.costs;
  unarmed = unarmed_kept result (g.arming a) (g.arming b) (g.counts a) (g.counts b) reads.arming reads.reached;
}
  where
    unless : (r : Result (Unit {0}) FlashStop) → is_err r ≡ not (is_ok r)
    unless (Ok u) = refl
    unless (Err e) = refl

same-stop : (T U : Type 0) (q : Stop) → flash_result {T = T} (Err q) ≡ flash_result {T = U} (Err q)
same-stop T U (stop.Status st) = refl
same-stop T U q = refl

-- a stop, whatever the value would have been
pub err-spent : {D : Type 0} {g : Ghosts D} (T U : Type 0) (q : Stop) (gone : Bool) (a b : D) → Spent g (flash_result {T = T} (Err q)) gone a b
    → Spent g (flash_result {T = U} (Err q)) gone a b
err-spent {g = g} T U q gone a b spent = subst (λ (f : Result (Unit {0}) FlashStop). Spent g f gone a b) (same-stop T U q) spent
