-- What the parts of a sending keep, one after the other.
use Rattle.std.proofs.Common.{◌≡◌, ◌∙◌, ℕ, Bool, List, length, Result, Ok, Err, refl, ap, subst, arith, IsTrue, IsFalse}
use Rattle.flash_core.specs.declared.flash.Flash as flash
use Rattle.host_io.specs.{Access.Access, declared.files.Files.Ghosts, Reads.ReadsFile}
use Rattle.host_io.proofs.Reading.{reads-none, reads-then}
use Rattle.agent_machine.specs.{declared.stop.Stop.Stop, Meets.GoesBy}
use Rattle.agent_machine.specs.declared.stop.Stop.TheVariants as stop
use Rattle.agent_machine.proofs.Spending.{call-spent, none-spent, spent-then}
use Rattle.agent_calls.specs.{declared.agent.Agent.Agent, Shown.AgentGoes, Shown.SpentBy, Shown.device, Shown.gone, Shown.moment}
use Rattle.update_client.specs.{declared.stops.SendStop.SendStop, Images.KeepsBeside, Images.ReadsPieceBy, Images.SparesOthers}
use Rattle.update_client.specs.declared.stops.SendStop.TheVariants.{MissingImage, End, ReadFailed, Lost, Fault}
use Rattle.update_client.specs.Halts.{StopsEnd, StopsWithin, flash_of, stopped_as}
use Rattle.update_client.proofs.{Sparing.spares-none, Sparing.spares-then, Spending.stop-spent}

-- ---- which stop it is

-- no agent that is there answers that it is gone
stops-stopped : (T U : Type 0) (q : Stop) (was now : Bool) → IsFalse was → GoesBy {T = T} (Err q) was now → StopsWithin {T = U} (Err (stopped_as q))
stops-stopped T U stop.Gone was now here goes = absurd (gone-here (goes.gone.0 refl))
  where
    gone-here : IsTrue was → ⊥
    gone-here is = cc
stops-stopped T U q was now here goes = tt

reads-done : {T : Type 0} (x : T) (n : ℕ) → ReadsPieceBy {T = T} n n (Ok x)
reads-done x n = record { later = omega arith; once = omega arith; failed = λ e. absurd cc }

-- no stop of the agent is a failed read
reads-stopped : (T : Type 0) (q : Stop) (n : ℕ) → ReadsPieceBy {T = T} n n (Err (stopped_as q))
reads-stopped T stop.Lost n = record { later = omega arith; once = omega arith; failed = λ e. absurd cc }
reads-stopped T q n = record { later = omega arith; once = omega arith; failed = λ e. absurd cc }

-- the end reads no file
stops-ended : (T : Type 0) (r : Result T SendStop) → StopsEnd r → StopsWithin r
stops-ended T (Err ReadFailed) stops = tt
stops-ended T r stops = stops

reads-ended : (T : Type 0) (r : Result T SendStop) (n : ℕ) → StopsEnd r → ReadsPieceBy n n r
reads-ended T (Ok x) n stops = reads-done x n
reads-ended T (Err (End q)) n stops = record { later = omega arith; once = omega arith; failed = λ e. absurd cc }
reads-ended T (Err Lost) n stops = record { later = omega arith; once = omega arith; failed = λ e. absurd cc }
reads-ended T (Err Fault) n stops = record { later = omega arith; once = omega arith; failed = λ e. absurd cc }
reads-ended T (Err s) n stops = absurd stops

-- ---- one after the other

module _ {D H : Type 0} {F : flash.Ghosts D} (g : Ghosts H) (at_rest : (f : H) (access : Access) → g.spares f f access)
    (joins : (e f h : H) (access : Access) → g.spares e f access → g.spares f h access → g.spares e h access) (name : List ℕ) where
  -- nothing yet
  pub keeps-none : (a : Agent D F) (f : H) (buf : List ℕ) → IsFalse (gone a) → IsTrue (F.on (device a))
      → KeepsBeside {T = Unit {0}} g name (Ok tt) a a f f buf buf
  keeps-none a f buf here power = record {
    stops = tt;
    spent = none-spent F (gone a) (device a) here power;
    spares = spares-none (moment a);
    buffer = refl;
    files = reads-none g _ at_rest f;
    reads = reads-done tt (g.faults f);
  }

  -- a read that was done
  pub keeps-read : (a : Agent D F) (e f : H) (buf filled : List ℕ) → IsFalse (gone a) → IsTrue (F.on (device a)) → length filled ≡ length buf
      → ReadsFile g name e f → g.faults f ≡ g.faults e → KeepsBeside {T = Unit {0}} g name (Ok tt) a a e f buf filled
  keeps-read a e f buf filled here power long reads same = record {
    stops = tt;
    spent = none-spent F (gone a) (device a) here power;
    spares = spares-none (moment a);
    buffer = long;
    files = reads;
    reads = subst (λ (n : ℕ). ReadsPieceBy {T = Unit {0}} n (g.faults f) (Ok tt)) same (reads-done tt (g.faults f));
  }

  -- a call of the agent
  pub keeps-called : {T U : Type 0} (x : T) (y : U) (a b : Agent D F) (f : H) (buf : List ℕ) → IsFalse (gone a) → AgentGoes {T = T} (Ok x) a b
      → SparesOthers (moment a) (moment b) → KeepsBeside {T = U} g name (Ok y) a b f f buf buf
  keeps-called x y a b f buf here goes spares = record {
    stops = tt;
    spent = call-spent here goes;
    spares = spares;
    buffer = refl;
    files = reads-none g _ at_rest f;
    reads = reads-done y (g.faults f);
  }

  -- and one that ends it
  pub keeps-stopped : {T : Type 0} (U : Type 0) (q : Stop) (a b : Agent D F) (f : H) (buf : List ℕ) → IsFalse (gone a) → AgentGoes {T = T} (Err q) a b
      → SparesOthers (moment a) (moment b) → KeepsBeside {T = U} g name (Err (stopped_as q)) a b f f buf buf
  keeps-stopped {T} U q a b f buf here goes spares = record {
    stops = stops-stopped T U q (gone a) (gone b) here goes.gone;
    spent = stop-spent T U q (gone b) (device a) (device b) (call-spent here goes);
    spares = spares;
    buffer = refl;
    files = reads-none g _ at_rest f;
    reads = reads-stopped U q (g.faults f);
  }

  -- the end of a staging
  pub keeps-ended : {T : Type 0} (r : Result T SendStop) (a b : Agent D F) (f : H) (buf : List ℕ) → StopsEnd r → SpentBy (flash_of r) a b
      → SparesOthers (moment a) (moment b) → KeepsBeside g name r a b f f buf buf
  keeps-ended {T} r a b f buf stops spent spares = record {
    stops = stops-ended T r stops;
    spent = spent;
    spares = spares;
    buffer = refl;
    files = reads-none g _ at_rest f;
    reads = reads-ended T r (g.faults f) stops;
  }

  -- what was done, and one more
  pub keeps-then : {T U : Type 0} {x : T} {result : Result U SendStop} {a b c : Agent D F} {e f h : H} {k l m : List ℕ}
      → KeepsBeside {T = T} g name (Ok x) a b e f k l → KeepsBeside g name result b c f h l m → KeepsBeside g name result a c e h k m
  keeps-then {U = U} {result = result} {e = e} {f = f} {h = h} first next =
      let same : g.faults f ≡ g.faults e = omega (arith, first.reads.later, first.reads.once) in
      record {
        stops = next.stops;
        spent = spent-then first.spent next.spent;
        spares = spares-then first.spares next.spares;
        buffer = next.buffer ∙ first.buffer;
        files = reads-then g _ joins e f h first.files next.files;
        reads = subst (λ (n : ℕ). ReadsPieceBy n (g.faults h) result) same next.reads;
      }

  -- what was done, whatever it gave
  pub keeps-ok : {T : Type 0} {x : T} {a b : Agent D F} {e f : H} {k l : List ℕ} → KeepsBeside {T = T} g name (Ok x) a b e f k l
      → KeepsBeside {T = Unit {0}} g name (Ok tt) a b e f k l
  keeps-ok {f = f} kept = record {
    stops = tt;
    spent = kept.spent;
    spares = kept.spares;
    buffer = kept.buffer;
    files = kept.files;
    reads = record { later = kept.reads.later; once = kept.reads.once; failed = λ e. absurd cc };
  }

  -- a stop that is handed on
  pub keeps-on : {T : Type 0} (U : Type 0) (st : SendStop) {a b : Agent D F} {e f : H} {k l : List ℕ} → KeepsBeside {T = T} g name (Err st) a b e f k l
      → KeepsBeside {T = U} g name (Err st) a b e f k l
  keeps-on {T} U st kept = record {
    stops = stops-on st kept.stops;
    spent = kept.spent;
    spares = kept.spares;
    buffer = kept.buffer;
    files = kept.files;
    reads = record { later = kept.reads.later; once = kept.reads.once; failed = λ is. kept.reads.failed (read-on st is) };
  }
    where
      read-on : (q : SendStop) → ◌≡◌ {A = Result U SendStop} (Err q) (Err ReadFailed) → ◌≡◌ {A = Result T SendStop} (Err q) (Err ReadFailed)
      read-on q is = let same : q ≡ ReadFailed = cc in ap (λ (h : SendStop). Err h) same

      stops-on : (q : SendStop) → StopsWithin {T = T} (Err q) → StopsWithin {T = U} (Err q)
      stops-on (MissingImage guid) stops = stops
      stops-on s stops = stops
