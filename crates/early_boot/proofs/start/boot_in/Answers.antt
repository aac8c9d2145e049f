use Rattle.std.proofs.Common.{◌≡◌, ℕ, Bool, List, Option, Some, None, Ok, Err, sym, ap, subst, ◌∙◌, arith, IsTrue}
use Rattle.std.specs.Prelude.{Result}
use Rattle.flash_core.specs.{declared.flash.Arming.Arming, declared.flash.Flash.Ghosts, declared.flash.FlashStop.FlashStop}
use Rattle.flash_core.specs.{Calls.Goes, Calls.Reads, Told.Told, Touches.TouchesOnly}
use Rattle.flash_core.specs.declared.flash.FlashStop.TheVariants as flash_stop
use Rattle.flash_core.proofs.Touches.{touches_none}
use Rattle.early_boot.proofs.{Choices.starts_by_numbers, Choices.shown-numbers, Numbered.numbers-are, Known.started-knows}
use Rattle.early_boot.proofs.Touching.{boot-within, none-touches, stopped-start, none-spent, none-takes, start-spent, start-takes, start-touches}
use Rattle.early_boot.proofs.Ended.{unshown-ends, started-ends, none-ends, stopped-ends}
use Rattle.early_boot.proofs.Left.{goes-done, goes-stopped, read-all, read-goes}
use Rattle.early_boot.specs.{declared.choosing.Chosen.Chosen, declared.showing.Shown.Shown, declared.showing.Unshown.Unshown}
use Rattle.early_boot.specs.{Choosing.MayStart, Choosing.chosen_by, Started.started_as, Knows.KnowsStarted}
use Rattle.early_boot.specs.Showing.{HasShown, ShowsNothing, state_shown, stop_in}
use Rattle.early_boot.specs.EndsBy.{StartedBy, StartsPermitted, BootEnds, IdleEnd, IsBoot, TakesBoot, TakesByBytes, TouchesBoot, stopped_with, unshown_end}
use Rattle.early_boot.specs.Starting.{mended, Boots, IsCountedStart, TakesMendingAndStart, TakesRepairAndStart, TouchesRepairAndStart}
use Rattle.early_boot.specs.Numbers.{AreNumbers, numbers, numbers_shown}
use Rattle.early_boot.specs.Ends.{Ended, booted, device_of, failed, lost, no_bank, stop_of}
use Rattle.early_boot.specs.declared.showing.Unshown.TheVariants as unshown
use Rattle.fwu_formats.specs.Layout.{Layout}
use Rattle.fwu_model.specs.State.{Numbers, numbers_of}
use Rattle.early_boot.proofs.start.boot_in.Goals as goal

-- ---- what a boot promises, on any device

module _ {D : Type 0} (g : Ghosts D) (passes : List ℕ → Bool) (flash left : D) where
  boot-as : (e : Ended) → Goes {X = Unit {0}} g (stop_of e) flash left
      → IdleEnd e (g.arming flash) (g.arming left) (g.counts flash) (g.counts left)
      → TouchesOnly 4096 28672 (g.writes flash) (g.writes left) → TouchesBoot e (g.writes flash) (g.writes left) → StartedBy e
      → StartsPermitted passes e
      → TakesBoot e (g.arming flash) (g.arming left) → TakesByBytes (g.told flash).now e (g.arming flash) (g.arming left)
      → (IsTrue g.tells → BootEnds passes (g.told flash) e (g.told left)) → IsBoot g passes flash e left
  boot-as e goes idle touches fewer started permitted spent once ends = record {
    power = goes.power;
    size = goes.size;
    costs = goes.costs;
    idle = idle;
    touches = touches;
    touches_fewer = fewer;
    started = started;
    permitted = permitted;
    spent = spent;
    once = λ tells. once;
    unarmed = goes.unarmed;
    ends = ends;
  }

  -- nothing was shown, so that nothing was written
  unshown-told : (why : Unshown) → (IsTrue g.tells → g.told left ≡ g.told flash)
      → (IsTrue g.tells → ShowsNothing (g.told flash).now why) → IsTrue g.tells
      → BootEnds passes (g.told flash) (unshown_end why) (g.told left)
  unshown-told why same nothing tells =
      subst (λ (t : Told). BootEnds passes (g.told flash) (unshown_end why) t) (sym (same tells))
      (unshown-ends passes (g.told flash) why (nothing tells))

  unshown-boot : (why : Unshown) → Reads g (stop_in {T = Shown} (Err why)) flash left
      → (IsTrue g.tells → ShowsNothing (g.told flash).now why) → IsBoot g passes flash (unshown_end why) left
  unshown-boot (unshown.Flash flash_stop.Lost) reads nothing =
      boot-as (lost None) (read-all g _ flash left reads) (record { arming_is = reads.arming; reached = reads.reached })
      (touches_none 4096 28672 reads.writes) reads.writes
      tt tt tt tt (unshown-told (unshown.Flash flash_stop.Lost) reads.content nothing)
  unshown-boot (unshown.Flash flash_stop.Failed) reads nothing =
      boot-as (failed None) (read-all g _ flash left reads) (record { arming_is = reads.arming; reached = reads.reached })
      (touches_none 4096 28672 reads.writes) reads.writes
      tt tt tt tt (unshown-told (unshown.Flash flash_stop.Failed) reads.content nothing)
  unshown-boot why reads nothing =
      boot-as (unshown_end why) (read-all g _ flash left reads) (record { arming_is = reads.arming; reached = reads.reached })
      (touches_none 4096 28672 reads.writes) reads.writes
      tt tt reads.arming reads.arming (unshown-told why reads.content nothing)

-- the flash was read, and then the replicas were repaired and a start counted
module _ {D : Type 0} (g : Ghosts D) (passes : List ℕ → Bool) (flash mid left : D) (shown : Shown) (n : Numbers)
    (read : n ≡ numbers_shown shown) (has : HasShown g flash shown) (reads : Reads {X = Unit {0}} g (Ok tt) flash mid) where
  are : AreNumbers (numbers_shown shown)
  are = numbers-are shown has.layout has.fits has.few has.form has.none

  read-told : IsTrue g.tells → n ≡ numbers_of (state_shown (g.told flash).now shown)
  read-told tells = read ∙ shown-numbers (g.told flash).now shown (has.shows tells) has.fits

  -- by what was there at entry
  touched-from : (result : Result (Option (Shown × Chosen)) FlashStop)
      → TouchesRepairAndStart result shown (g.writes mid) (g.writes left)
      → TouchesRepairAndStart result shown (g.writes flash) (g.writes left)
  touched-from result = subst (λ (w : ℕ → ℕ). TouchesRepairAndStart result shown w (g.writes left)) reads.writes

  boots-from : (result : Result (Option (Shown × Chosen)) FlashStop)
      → (IsTrue g.tells → Boots result passes shown (g.told mid) (g.told left)) → IsTrue g.tells
      → Boots result passes shown (g.told flash) (g.told left)
  boots-from result boots tells =
      subst (λ (u : Told). Boots result passes shown u (g.told left)) (reads.content tells) (boots tells)

  spent-from : (o : Option (Shown × Chosen)) → TakesRepairAndStart shown o (g.arming mid) (g.arming left)
      → TakesRepairAndStart shown o (g.arming flash) (g.arming left)
  spent-from o = subst (λ (a : Option Arming). TakesRepairAndStart shown o a (g.arming left)) reads.arming

  once-from : (o : Option (Shown × Chosen))
      → (IsTrue g.tells → TakesMendingAndStart shown (g.told mid).now o (g.arming mid) (g.arming left)) → IsTrue g.tells
      → TakesMendingAndStart shown (g.told flash).now o (g.arming flash) (g.arming left)
  once-from o once tells =
      subst (λ (a : Option Arming). TakesMendingAndStart shown (g.told flash).now o a (g.arming left)) reads.arming
      (subst (λ (u : Told). TakesMendingAndStart shown u.now o (g.arming mid) (g.arming left)) (reads.content tells) (once tells))

  chosen-from : (o : Option Chosen) → (IsTrue g.tells → o ≡ chosen_by passes (g.told mid).now shown) → IsTrue g.tells
      → chosen_by passes (g.told flash).now shown ≡ o
  chosen-from o found tells = sym (found tells ∙ ap (λ (u : Told). chosen_by passes u.now shown) (reads.content tells))

  -- the flash stopped it
  stopped-boot : (stop : FlashStop) → Goes {X = Option (Shown × Chosen)} g (Err stop) mid left
      → TouchesRepairAndStart (Err stop) shown (g.writes mid) (g.writes left)
      → (IsTrue g.tells → Boots {T = Option (Shown × Chosen)} (Err stop) passes shown (g.told mid) (g.told left))
      → IsBoot g passes flash (stopped_with stop n) left
  stopped-boot stop went touched boots =
      by stop (read-goes g tt (Err stop) flash mid left reads (goes-stopped {T = Option (Shown × Chosen)} g stop mid left went))
      ends
    where
      all : TouchesRepairAndStart (Err stop) shown (g.writes flash) (g.writes left)
      all = touched-from (Err stop) touched

      ends : IsTrue g.tells → BootEnds passes (g.told flash) (stopped_with stop n) (g.told left)
      ends tells =
          stopped-ends passes shown (g.told flash) (g.told left) (has.shows tells) has.fits {T = Option (Shown × Chosen)} n
          (read-told tells) stop (boots-from (Err stop) boots tells)

      by : (why : FlashStop) → Goes {X = Unit {0}} g (Err why) flash left
          → (IsTrue g.tells → BootEnds passes (g.told flash) (stopped_with why n) (g.told left))
          → IsBoot g passes flash (stopped_with why n) left
      by flash_stop.Lost goes told =
          boot-as g passes flash left (lost (Some n)) goes tt (boot-within (Err stop) shown _ _ all)
          (stopped-start shown n read has.form _ _ stop all) (subst AreNumbers (sym read) are) tt tt tt told
      by flash_stop.Failed goes told =
          boot-as g passes flash left (failed (Some n)) goes tt (boot-within (Err stop) shown _ _ all)
          (stopped-start shown n read has.form _ _ stop all) (subst AreNumbers (sym read) are) tt tt tt told

  -- a bank was started
  module _ (later : Shown) (chosen : Chosen) (counted : IsCountedStart g left passes (mended shown) (later, chosen))
      (found : IsTrue g.tells → Some chosen ≡ chosen_by passes (g.told mid).now shown)
      (boots : IsTrue g.tells → Boots {T = Option (Shown × Chosen)} (Ok (Some (later, chosen))) passes shown (g.told mid)
      (g.told left)) where
    started-told : IsTrue g.tells → BootEnds passes (g.told flash) (booted (started_as later chosen) n) (g.told left)
    started-told tells =
        let start : Option (Shown × Chosen) = Some (later, chosen) in
        started-ends passes shown (g.told flash) (g.told left) (has.shows tells) has.fits chosen
        (chosen-from (Some chosen) found tells) start later counted.later (counted.shows tells)
        (boots-from (Ok start) boots tells) n (read-told tells)

    knows-told : IsTrue g.tells → KnowsStarted (started_as later chosen) (g.told left)
    knows-told tells = started-knows passes (g.told flash) (started_as later chosen) n (g.told left) (started-told tells).by_bytes

    started-boot : Goes {X = Option (Shown × Chosen)} g (Ok (Some (later, chosen))) mid left
        → TouchesRepairAndStart (Ok (Some (later, chosen))) shown (g.writes mid) (g.writes left)
        → TakesRepairAndStart shown (Some (later, chosen)) (g.arming mid) (g.arming left)
        → (IsTrue g.tells → TakesMendingAndStart shown (g.told mid).now (Some (later, chosen)) (g.arming mid) (g.arming left))
        → IsBoot g passes flash (booted (started_as later chosen) n) left
    started-boot went touched spent once =
        let start : Option (Shown × Chosen) = Some (later, chosen) in
        let goes = read-goes g tt (Ok tt) flash mid left reads (goes-done g start mid left went) in
        let all = touched-from (Ok start) touched in
        record {
          power = goes.power;
          size = goes.size;
          costs = goes.costs;
          idle = tt;
          touches = boot-within (Ok start) shown _ _ all;
          touches_fewer = start-touches shown later chosen n read counted.later _ _ has.form all;
          started = starts_by_numbers shown later chosen n read counted.later counted.counted are counted.found.is;
          permitted =
              subst (λ (L : Layout). MayStart passes L.rows n.counter chosen.version chosen.lengths) (sym counted.later.layout)
              (subst (λ (m : Numbers). MayStart passes shown.layout.rows m.counter chosen.version chosen.lengths) (sym read)
              counted.found.permitted);
          spent = start-spent shown later chosen n read counted.later _ _ has.form (spent-from start spent);
          once = λ tells. start-takes shown later chosen n read counted.later _ _ _ (has.shows tells) (once-from start once tells);
          unarmed = goes.unarmed;
          ends = started-told;
        }

  -- none was
  none-boot : Goes {X = Option (Shown × Chosen)} g (Ok None) mid left
      → (IsTrue g.tells → None ≡ chosen_by passes (g.told mid).now shown)
      → (IsTrue g.tells → Boots {T = Option (Shown × Chosen)} (Ok None) passes shown (g.told mid) (g.told left))
      → TouchesRepairAndStart (Ok None) shown (g.writes mid) (g.writes left)
      → TakesRepairAndStart shown None (g.arming mid) (g.arming left)
      → (IsTrue g.tells → TakesMendingAndStart shown (g.told mid).now None (g.arming mid) (g.arming left))
      → IsBoot g passes flash (no_bank shown.meta.meta.active shown.meta.meta.previous) left
  none-boot went found boots touched spent once =
      let none : Option (Shown × Chosen) = None in
      let goes = read-goes g tt (Ok tt) flash mid left reads (goes-done g none mid left went) in
      let all = touched-from (Ok None) touched in
      record {
        power = goes.power;
        size = goes.size;
        costs = goes.costs;
        idle = tt;
        touches = boot-within (Ok None) shown _ _ all;
        touches_fewer = none-touches shown n read has.form _ _ shown.meta.meta.active shown.meta.meta.previous all;
        started = (omega (arith, are.active, are.most), omega (arith, are.previous, are.most));
        permitted = tt;
        spent = none-spent shown shown.meta.meta.active shown.meta.meta.previous _ _ (spent-from None spent);
        once = λ tells. none-takes shown _ _ _ (has.shows tells) (once-from None once tells);
        unarmed = goes.unarmed;
        ends = λ tells.
            none-ends passes shown (g.told flash) (g.told left) (has.shows tells) has.fits none (boots-from (Ok None) boots tells)
            (chosen-from None found tells);
      }

-- ---- at each end

pub invariant_of-booted-clause-knows : goal.invariant_of-booted-clause-knows
invariant_of-booted-clause-knows g c tells =
    let start = rw c.in-Ok-Some.field-0-is at c.in-Ok-Some.ensures in
    knows-told g.D.Flash (g.V.Verifier.passes c.args.verifier.now) c.args.flash c.read_shown.new.flash c.mend_and_start.new.flash
    c.in-Ok.shown (numbers c.of-numbers.result)
    c.of-numbers.ensures c.in-Ok.ensures.shown c.in-Ok.ensures.reads c.in-Ok-Some.after c.in-Ok-Some.chosen start.counted
    start.chosen start.boots tells

pub returns-in-Err : goal.returns-in-Err
returns-in-Err g c =
    let passes = g.V.Verifier.passes c.args.verifier.now in
    record {
      boots =
          subst (λ (e : Ended). IsBoot g.D.Flash passes c.args.flash e (device_of c.unshown.result)) (sym c.unshown.ensures.ended)
          (subst (λ d. IsBoot g.D.Flash passes c.args.flash (unshown_end c.in-Err.why) d) (sym c.unshown.ensures.device)
          (unshown-boot g.D.Flash passes c.args.flash c.read_shown.new.flash c.in-Err.why c.in-Err.ensures.reads
          c.in-Err.ensures.nothing));
    }

pub returns-in-Err-mend_and_start : goal.returns-in-Err-mend_and_start
returns-in-Err-mend_and_start g c =
    let passes = g.V.Verifier.passes c.args.verifier.now in
    let stop = c.in-Err-mend_and_start.stop in
    let n = numbers c.of-numbers.result in
    record {
      boots =
          subst (λ (e : Ended). IsBoot g.D.Flash passes c.args.flash e (device_of c.stopped_with.result))
          (sym c.stopped_with.ensures.ended)
          (subst (λ d. IsBoot g.D.Flash passes c.args.flash (stopped_with stop n) d) (sym c.stopped_with.ensures.device)
          (stopped-boot g.D.Flash passes c.args.flash c.read_shown.new.flash c.mend_and_start.new.flash c.in-Ok.shown n
          c.of-numbers.ensures c.in-Ok.ensures.shown c.in-Ok.ensures.reads stop c.in-Err-mend_and_start.ensures.goes
          c.in-Err-mend_and_start.ensures.touches c.in-Err-mend_and_start.ensures.boots));
    }

pub returns-in-Ok-Some : goal.returns-in-Ok-Some
returns-in-Ok-Some g c =
    let start = rw c.in-Ok-Some.field-0-is at c.in-Ok-Some.ensures in
    record {
      boots =
          started-boot g.D.Flash (g.V.Verifier.passes c.args.verifier.now) c.args.flash c.read_shown.new.flash
          c.mend_and_start.new.flash c.in-Ok.shown (numbers c.of-numbers.result)
          c.of-numbers.ensures c.in-Ok.ensures.shown c.in-Ok.ensures.reads c.in-Ok-Some.after c.in-Ok-Some.chosen start.counted
          start.chosen start.boots start.goes start.touches start.spent start.once;
    }

pub returns-in-Ok-None : goal.returns-in-Ok-None
returns-in-Ok-None g c =
    let passes = g.V.Verifier.passes c.args.verifier.now in
    let none = rw c.in-Ok-None.field-0-is at c.in-Ok-None.ensures in
    record {
      boots =
          subst (λ (a : ℕ). IsBoot g.D.Flash passes c.args.flash (no_bank a c.previous.result) c.mend_and_start.new.flash)
          (sym c.active.ensures)
          (subst (λ (p : ℕ). IsBoot g.D.Flash passes c.args.flash (no_bank c.in-Ok.shown.meta.meta.active p)
          c.mend_and_start.new.flash) (sym c.previous.ensures)
          (none-boot g.D.Flash passes c.args.flash c.read_shown.new.flash c.mend_and_start.new.flash c.in-Ok.shown
          (numbers c.of-numbers.result)
          c.of-numbers.ensures c.in-Ok.ensures.shown c.in-Ok.ensures.reads none.goes none.chosen none.boots none.touches none.spent
          none.once));
    }
