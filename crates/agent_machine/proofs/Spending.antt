-- What calls in a row spend, one after another, and what each promises whatever it is asked for.
use Rattle.std.proofs.Common.{◌≡◌, ◌⊎◌, inl, inr, Bool, true, false, not, Result, Ok, Err, is_ok, refl, sym, ◌∙◌, IsTrue, IsFalse}
use Rattle.std.proofs.lemmas.Bool.{false≢true}
use Rattle.std.specs.Prelude.{IsErrOf}
use Rattle.flash_core.specs.{declared.flash.Flash.Ghosts, declared.flash.FlashStop.FlashStop}
use Rattle.flash_core.proofs.{Costs.spends_none, Costs.spends_then, Unarmed.unarmed_none, Unarmed.unarmed_then}
use Rattle.agent_machine.specs.{declared.stop.Stop.Stop, CallGoes.AgentAt, CallGoes.CallGoes, CallGoes.Spent}
use Rattle.agent_machine.specs.Meets.{GoesBy, IsDone, IsRefused, flash_result}
use Rattle.agent_machine.specs.declared.stop.Stop.TheVariants as stop

-- ---- whether an agent is gone

not-both : (was : Bool) → IsFalse was → IsTrue was → ⊥
not-both was here gone = false≢true (sym here ∙ gone)

neither : (was : Bool) → IsFalse was → IsTrue was ⊎ ⊥ → ⊥
neither was here (inl gone) = not-both was here gone
neither was here (inr never) = never

-- an agent that isn't gone is gone after a call exactly where the flash stopped it
gone-by : {T : Type 0} (result : Result T Stop) (was now : Bool) → IsFalse was → GoesBy result was now → now ≡ not (is_ok (flash_result result))
gone-by (Ok x) was false here goes = refl
gone-by (Ok x) was true here goes = absurd (neither was here (goes.later.0 refl))
gone-by (Err (stop.Status st)) was false here goes = refl
gone-by (Err (stop.Status st)) was true here goes = absurd (neither was here (goes.later.0 refl))
gone-by (Err stop.Lost) was now here goes = goes.later.1 (inr tt)
gone-by (Err stop.Fault) was now here goes = goes.later.1 (inr tt)
gone-by (Err stop.Gone) was now here goes = absurd (not-both was here (goes.gone.0 refl))

-- ---- calls in a row

-- where nothing was called
pub none-spent : {D : Type 0} (g : Ghosts D) (gone : Bool) (a : D) → IsFalse gone → IsTrue (g.on a) → Spent g (Ok tt) gone a a
none-spent g gone a here power = record {
  gone_is = here;
  power = power;
  size = refl;
  costs = spends_none tt (g.counts a);
  unarmed = unarmed_none tt (g.arming a) (g.counts a);
}

-- a call of an agent that isn't gone
pub call-spent : {A D T : Type 0} {g : Ghosts D} {result : Result T Stop} {old new : AgentAt A D} → IsFalse old.gone → CallGoes g result old new
    → Spent g (flash_result result) new.gone old.device new.device
call-spent {g = g} {result = result} {old = old} {new = new} here goes =
    let gone_is : new.gone ≡ not (is_ok (flash_result result)) = gone-by result old.gone new.gone here goes.gone in
    let power : g.on new.device ≡ is_ok (flash_result result) = goes.power here in
    assumption

-- calls that were done, and one more
pub spent-then : {D : Type 0} {g : Ghosts D} {result : Result (Unit {0}) FlashStop} {amid gone : Bool} {a b c : D}
    → Spent g (Ok tt) amid a b → Spent g result gone b c → Spent g result gone a c
spent-then {g = g} {result = result} {a = a} {b = b} {c = c} first second = record {
  gone_is = second.gone_is;
  power = second.power;
  size = second.size ∙ first.size;
  costs = spends_then tt result (g.counts a) (g.counts b) (g.counts c) first.costs second.costs;
  unarmed = unarmed_then tt result (g.arming a) (g.arming b) (g.arming c) (g.counts a) (g.counts b) (g.counts c) first.costs.cuts first.unarmed second.unarmed;
}

-- ---- the record of both

-- what isn't refused and isn't Gone goes as what was spent
pub spent-goes : {A D T : Type 0} {g : Ghosts D} (result : Result T Stop) (old new : AgentAt A D) → IsDone result → IsFalse old.gone
    → Spent g (flash_result result) new.gone old.device new.device → CallGoes g result old new
spent-goes result old new done here spent = record {
  gone = goes-by result done old.gone new.gone here spent.gone_is;
  untouched = λ gone. absurd (not-gone result done gone);
  refused = λ refused. absurd (unrefused result done refused);
  power = λ still. spent.power;
  size = spent.size;
  costs = spent.costs;
  unarmed = spent.unarmed;
}
  where
    not-gone : {T : Type 0} (r : Result T Stop) → IsDone r → IsErrOf r stop.Gone → ⊥
    not-gone (Err stop.Gone) done e = done
    not-gone other done e = absurd cc

    unrefused : {T : Type 0} (r : Result T Stop) → IsDone r → IsRefused r → ⊥
    unrefused (Err (stop.Status st)) done e = done
    unrefused other done e = e

    goes-by : {T : Type 0} (r : Result T Stop) → IsDone r → (was now : Bool) → IsFalse was → now ≡ not (is_ok (flash_result r)) → GoesBy r was now
    goes-by (Ok x) done was now here is = record {
      gone = (λ e. absurd cc, λ is. absurd (not-both was here is));
      later = (λ now-gone. absurd (not-both now is now-gone), λ one. absurd (neither was here one));
    }
    goes-by (Err (stop.Status st)) done was now here is = absurd done
    goes-by (Err stop.Gone) done was now here is = absurd done
    goes-by (Err cause) done was now here is =
        record { gone = (λ e. absurd cc, λ is. absurd (not-both was here is)); later = (λ now-gone. inr tt, λ one. is) }
