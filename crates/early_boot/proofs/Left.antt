-- What a boot leaves of its device on any device: its reading, and then its writes.
use Rattle.std.proofs.Common.{Ok, Err, refl, ◌∙◌}
use Rattle.std.specs.Prelude.{Result, IsErrOf}
use Rattle.flash_core.specs.{declared.flash.Flash.Ghosts, declared.flash.FlashStop.FlashStop, Calls.Goes, Calls.Reads}
use Rattle.flash_core.specs.declared.flash.FlashStop.TheVariants.{Lost, Failed}
use Rattle.flash_core.proofs.Costs.{spends_then}
use Rattle.flash_core.proofs.Unarmed.{unarmed_done, unarmed_kept, unarmed_stopped, unarmed_then}

-- a read alone
pub read-all : {D X : Type 0} (g : Ghosts D) (r : Result X FlashStop) (a b : D) → Reads g r a b → Goes g r a b
read-all g r a b reads = record {
  power = reads.power;
  size = reads.size;
  costs = reads.costs;
  unarmed = unarmed_kept r (g.arming a) (g.arming b) (g.counts a) (g.counts b) reads.arming reads.reached;
}

-- as the flash's own calls tell a result, whatever its value is
pub goes-done : {D T : Type 0} (g : Ghosts D) (x : T) (a b : D) → Goes {X = T} g (Ok x) a b → Goes {X = Unit {0}} g (Ok tt) a b
goes-done g x a b goes = record {
  power = goes.power;
  size = goes.size;
  costs = record {
    faults = goes.costs.faults;
    cuts = goes.costs.cuts;
    reached = goes.costs.reached;
    chances = goes.costs.chances;
    made = goes.costs.made;
    lost = λ is. absurd cc;
    failed = λ is. absurd cc;
    once = goes.costs.once;
  };
  unarmed = unarmed_done (Ok x) tt goes.unarmed;
}

-- a stop has the same cause, whatever the value would have been
same-stop : {T : Type 0} (stop why : FlashStop) → IsErrOf {T = Unit {0}} (Err stop) why → IsErrOf {T = T} (Err stop) why
same-stop Lost Lost is = refl
same-stop Lost Failed is = absurd cc
same-stop Failed Lost is = absurd cc
same-stop Failed Failed is = refl

pub goes-stopped : {D T : Type 0} (g : Ghosts D) (stop : FlashStop) (a b : D) → Goes {X = T} g (Err stop) a b → Goes {X = Unit {0}} g (Err stop) a b
goes-stopped {D} {T} g stop a b goes = record {
  power = goes.power;
  size = goes.size;
  costs = record {
    faults = goes.costs.faults;
    cuts = goes.costs.cuts;
    reached = goes.costs.reached;
    chances = goes.costs.chances;
    made = goes.costs.made;
    lost = λ is. goes.costs.lost (same-stop {T = T} stop Lost is);
    failed = λ is. goes.costs.failed (same-stop {T = T} stop Failed is);
    once = goes.costs.once;
  };
  unarmed = unarmed_stopped stop goes.unarmed;
}

-- a read, and then what writes
pub read-goes : {D T : Type 0} (g : Ghosts D) (x : T) (r : Result (Unit {0}) FlashStop) (a b c : D) → Reads {X = T} g (Ok x) a b → Goes g r b c → Goes g r a c
read-goes g x r a b c reads goes = record {
  power = goes.power;
  size = goes.size ∙ reads.size;
  costs = spends_then x r (g.counts a) (g.counts b) (g.counts c) reads.costs goes.costs;
  unarmed = unarmed_then x r (g.arming a) (g.arming b) (g.arming c) (g.counts a) (g.counts b) (g.counts c) reads.costs.cuts
      (read-all g (Ok x) a b reads).unarmed goes.unarmed;
}
