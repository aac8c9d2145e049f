-- What the calls of a sending spend, with its own stops.
use Rattle.std.proofs.Common.{◌≡◌, Bool, true, false, Result, Ok, Err, refl, ap, subst, IsFalse, IsTrue}
use Rattle.flash_core.specs.{declared.flash.Flash.Ghosts, declared.flash.FlashStop.FlashStop, Calls.Goes}
use Rattle.agent_machine.specs.{declared.stop.Stop.Stop, Meets.GoesBy, Meets.IsStopped, Meets.flash_result, CallGoes.Spent}
use Rattle.agent_machine.specs.declared.stop.Stop.TheVariants as stop
use Rattle.update_client.specs.Halts.{flash_of, stopped_as}

same-flash : (T U : Type 0) (q : Stop) → flash_result {T = T} (Err q) ≡ flash_of {T = U} (Err (stopped_as q))
same-flash T U stop.Lost = refl
same-flash T U q = refl

-- a stop of the agent, as that of a sending
pub stop-spent : {D : Type 0} {g : Ghosts D} (T U : Type 0) (q : Stop) (gone : Bool) (a b : D) → Spent g (flash_result {T = T} (Err q)) gone a b
    → Spent g (flash_of {T = U} (Err (stopped_as q))) gone a b
stop-spent {g = g} T U q gone a b spent = subst (λ (f : Result (Unit {0}) FlashStop). Spent g f gone a b) (same-flash T U q) spent

-- a call that the flash did not stop
pub unstopped : {T : Type 0} (result : Result T Stop) → (IsStopped result → ⊥) → flash_result result ≡ Ok tt
unstopped (Err stop.Lost) never = absurd (never tt)
unstopped (Err stop.Fault) never = absurd (never tt)
unstopped result never = refl

-- what a sending says of its device
pub goes-of : {D : Type 0} {g : Ghosts D} (result : Result (Unit {0}) FlashStop) (gone : Bool) (a b : D) → Spent g result gone a b → Goes g result a b
goes-of result gone a b spent = record { power = spent.power; size = spent.size; costs = spent.costs; unarmed = spent.unarmed }

-- what was begun is done by an agent that isn't gone
pub here-before : (was now : Bool) → GoesBy {T = Unit {0}} (Ok tt) was now → IsFalse was
here-before false now goes = refl
here-before true now goes = absurd (no-gone (goes.gone.1 refl))
  where
    no-gone : ◌≡◌ {A = Result (Unit {0}) Stop} (Ok tt) (Err stop.Gone) → ⊥
    no-gone e = absurd cc

-- an agent that is there is never answered to be gone
pub not-gone : {T : Type 0} (q : Stop) (was : Bool) → IsFalse was → (◌≡◌ {A = Result T Stop} (Err q) (Err stop.Gone) → IsTrue was) → q ≡ stop.Gone → ⊥
not-gone q was here gone e = let there : was ≡ true = gone (ap (λ (k : Stop). Err k) e) in absurd cc
