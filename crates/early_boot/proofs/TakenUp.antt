-- What taking up a bank promises of its device, on any device: the reading, the check, and then the repair.
use Rattle.std.proofs.Common.{◌≡◌, ℕ, ◌+◌, ◌==◌, ◌&&◌, ◌||◌, not, Bool, false, cond, List, [], ◌∷◌, Option, Some, None, Ok, Err, refl, sym, ap, subst, ◌∙◌, arith, eq-eqb, IsTrue, leb, le-leb, ltb, lt-ltb}
use Rattle.std.proofs.lemmas.Bool.{and_from, and_parts, cond_both, not-true}
use Rattle.std.proofs.lemmas.Option.{same_Some}
use Rattle.std.specs.Prelude.{Result}
use Rattle.flash_core.specs.{declared.flash.Flash.Ghosts, declared.flash.Arming.Arming, declared.flash.FlashStop.FlashStop}
use Rattle.flash_core.specs.{Calls.Goes, Calls.Reads, Told.Told, Touches.TouchesOnly}
use Rattle.flash_core.proofs.Touches.{touches_none}
use Rattle.early_boot.proofs.{Touching.repair-within, Touching.touches-behind, Boots.past-migration, Lookups.some-of}
use Rattle.early_boot.proofs.{Left.goes-done, Left.goes-stopped, Left.read-all, Left.read-goes, Numbered.numbers-are}
use Rattle.early_boot.proofs.TakingUp.{none-ends, refused-ends, stopped-ends, taken-ends, taken-knows}
use Rattle.fwu_formats.specs.{Manifest.version, Places.trial_limit, declared.kinds.BankState.BankState}
use Rattle.fwu_formats.specs.declared.kinds.BankState.TheVariants.{Invalid, Valid, Accepted}
use Rattle.fwu_model.specs.State.{State, Move, RaiseTo, bank, is_accepted, is_valid, after}
use Rattle.fwu_model.specs.Sound.{Setting, can_fall_back, can_start, choice, holds_permitted}
use Rattle.fwu_model.specs.Answer.{booted_package, chosen_moves, held_package, migrate_moves, start_moves}
use Rattle.moves.proofs.Composed.{after-append}
use Rattle.replicas.specs.Stores.{TakesRepair, TouchesRepair}
use Rattle.early_boot.specs.{declared.choosing.Chosen.Chosen, declared.showing.Shown.Shown, declared.showing.Unshown.Unshown}
use Rattle.early_boot.specs.{Choosing.IsFound, Knows.KnowsStarted, Starting.TakesMending, Starting.mended, Tells.started_as}
use Rattle.early_boot.specs.Showing.{HasShown, ShowsNothing, stop_in}
use Rattle.early_boot.specs.TakenUp.{BootedRuns, IsTakeUp, TakeUpEnds, TakenUp, MendsFound, OnceFound, RefusalIsIdle, SpendsFound, TakenByNumbers, TakesOnce, TakesTakeUp, not_started, running_bank, running_in, runs_from, stop_in_end, stopped, taken, unshown_as, was_started}
use Rattle.early_boot.specs.declared.showing.Unshown.TheVariants as unshown

-- ---- nothing was shown, so that nothing was written

module _ {D : Type 0} (g : Ghosts D) (passes : List ℕ → Bool) (b : ℕ) (flash left : D) where
  none-as : (e : TakenUp) → Reads {X = Unit {0}} g (stop_in_end e) flash left
      → TakesTakeUp e (g.arming flash) (g.arming left) (g.counts flash) (g.counts left)
      → TakesOnce (g.told flash).now e (g.arming flash) (g.arming left) → RefusalIsIdle e (g.writes flash) (g.writes left)
      → TakenByNumbers passes b e
      → (IsTrue g.tells → TakeUpEnds passes b (g.told flash) e (g.told flash)) → IsTakeUp g passes b flash e left
  none-as e reads spent once refused numbers ends = record {
    power = reads.power;
    size = reads.size;
    costs = reads.costs;
    unarmed = (read-all g (stop_in_end e) flash left reads).unarmed;
    spent = spent;
    once = λ tells. once;
    touches = touches_none 4096 12288 reads.writes;
    refused = refused;
    numbers = numbers;
    ends = λ tells. subst (λ (t : Told). TakeUpEnds passes b (g.told flash) e t) (sym (reads.content tells)) (ends tells);
  }

  pub none-take-up : (why : Unshown) → Reads g (stop_in {T = Shown} (Err why)) flash left → (IsTrue g.tells → ShowsNothing (g.told flash).now why) → IsTakeUp g passes b flash (unshown_as why) left
  none-take-up (unshown.Flash stop) reads nothing =
      none-as (stopped stop) reads tt tt tt tt (λ tells. none-ends passes b (g.told flash) (unshown.Flash stop) (nothing tells))
  none-take-up why reads nothing =
      none-as (unshown_as why) reads (record { arming_is = reads.arming; reached = reads.reached }) tt reads.writes tt
      (λ tells. none-ends passes b (g.told flash) why (nothing tells))

-- ---- the flash was read, and then the bank was checked

module _ {D : Type 0} (g : Ghosts D) (passes : List ℕ → Bool) (b : ℕ) (flash mid left : D) (shown : Shown)
    (reads : Reads {X = Unit {0}} g (Ok tt) flash mid) (has : HasShown g flash shown) (mended_only : TouchesRepair shown.which (g.writes mid) (g.writes left)) where
  both-touch : TouchesOnly 4096 12288 (g.writes flash) (g.writes left)
  both-touch = touches-behind 4096 12288 reads.writes (repair-within shown.which _ _ mended_only)

  -- by what was there at entry
  found-from : (o : Option Chosen) → (IsTrue g.tells → o ≡ running_in passes (g.told mid).now shown b) → IsTrue g.tells
      → running_in passes (g.told flash).now shown b ≡ o
  found-from o found tells = sym (subst (λ (t : Told). o ≡ running_in passes t.now shown b) (reads.content tells) (found tells))

  mends-from : (result : Result (Option Chosen) FlashStop) → (IsTrue g.tells → MendsFound result shown (g.told mid) (g.told left))
      → IsTrue g.tells → MendsFound result shown (g.told flash) (g.told left)
  mends-from result mends tells = subst (λ (t : Told). MendsFound result shown t (g.told left)) (reads.content tells) (mends tells)

  pub refused-take-up : Goes {X = Option Chosen} g (Ok None) mid left
      → SpendsFound shown None (g.arming mid) (g.arming left) (g.counts mid) (g.counts left)
      → (IsTrue g.tells → None ≡ running_in passes (g.told mid).now shown b) → (IsTrue g.tells → MendsFound (Ok None) shown (g.told mid) (g.told left))
      → g.writes left ≡ g.writes mid → IsTakeUp g passes b flash not_started left
  refused-take-up went spent found mends untouched =
      let goes = read-goes g tt (Ok tt) flash mid left reads (goes-done {T = Option Chosen} g None mid left went) in
      record {
        power = goes.power;
        size = goes.size;
        costs = goes.costs;
        unarmed = goes.unarmed;
        spent = record {
          arming_is = spent.arming_is ∙ reads.arming;
          reached = record { same = spent.reached.same ∙ reads.reached.same; lost = λ is. absurd cc };
        };
        once = λ tells. tt;
        touches = both-touch;
        refused = untouched ∙ reads.writes;
        numbers = tt;
        ends = λ tells.
            refused-ends passes shown b (g.told flash) (g.told left) (has.shows tells) has.fits (found-from None found tells)
            (mends-from (Ok None) mends tells);
      }

  pub stopped-take-up : (stop : FlashStop) → Goes {X = Option Chosen} g (Err stop) mid left → (IsTrue g.tells → MendsFound (Err stop) shown (g.told mid) (g.told left))
      → IsTakeUp g passes b flash (stopped stop) left
  stopped-take-up stop went mends =
      let goes = read-goes g tt (Err stop) flash mid left reads (goes-stopped {T = Option Chosen} g stop mid left went) in
      record {
        power = goes.power;
        size = goes.size;
        costs = goes.costs;
        unarmed = goes.unarmed;
        spent = tt;
        once = λ tells. tt;
        touches = both-touch;
        refused = tt;
        numbers = tt;
        ends = λ tells.
            stopped-ends passes shown b (g.told flash) (g.told left) (has.shows tells) has.fits stop
            (mends-from (Err stop) mends tells);
      }

  module _ (c : Chosen) (found : IsTrue g.tells → Some c ≡ running_in passes (g.told mid).now shown b) (mends : IsTrue g.tells → MendsFound (Ok (Some c)) shown (g.told mid) (g.told left)) where
    pub knows-taken : IsTrue g.tells → KnowsStarted (started_as (mended shown) c) (g.told left)
    knows-taken tells =
        taken-knows passes shown b (g.told flash) (g.told left) (has.shows tells) has.fits c (found-from (Some c) found tells)
        (mends-from (Ok (Some c)) mends tells)

    pub taken-take-up : Goes {X = Option Chosen} g (Ok (Some c)) mid left
        → SpendsFound shown (Some c) (g.arming mid) (g.arming left) (g.counts mid) (g.counts left)
        → (IsTrue g.tells → OnceFound shown (g.told mid).now (Some c) (g.arming mid) (g.arming left)) → IsFound passes shown (λ x. running_bank shown b ≡ Some x) c
        → IsTakeUp g passes b flash (taken (started_as (mended shown) c)) left
    taken-take-up went spent once is_found =
        let run = some-of _ b c.bank is_found.is in
        let goes = read-goes g tt (Ok tt) flash mid left reads (goes-done {T = Option Chosen} g (Some c) mid left went) in
        record {
          power = goes.power;
          size = goes.size;
          costs = goes.costs;
          unarmed = goes.unarmed;
          spent = (shown.which, subst (λ (a : Option Arming). TakesRepair shown.which a (g.arming left)) reads.arming spent);
          once = λ tells. record {
            layout = shown.layout;
            layout_is = (has.shows tells).layout_is;
            which = shown.which;
            meta = shown.meta;
            loads = (has.shows tells).loads;
            takes =
                subst (λ (a : Option Arming). TakesMending shown.layout shown.which shown.meta (g.told flash).now a (g.arming left)) reads.arming
                (subst (λ (t : Told). TakesMending shown.layout shown.which shown.meta t.now (g.arming mid) (g.arming left)) (reads.content tells) (once tells));
          };
          touches = both-touch;
          refused = tt;
          numbers = record {
            numbers = numbers-are (mended shown) has.layout has.fits has.few refl has.none;
            bank_is = sym run.1;
            runs = run.0;
            fallback_is = ap (λ (x : ℕ). not (x == shown.meta.meta.active)) (sym run.1);
            form_two = refl;
            permitted = is_found.permitted;
          };
          ends = λ tells.
              taken-ends passes shown b (g.told flash) (g.told left) (has.shows tells) has.fits c (found-from (Some c) found tells)
              (mends-from (Ok (Some c)) mends tells);
        }

-- ---- what a boot started may be taken up

-- the package is permitted too where the counter is its version
still-permitted : (E : Setting) (counter : ℕ) (held : Option (List (List ℕ))) → IsTrue (holds_permitted E counter held) → IsTrue (holds_permitted E (version (held_package held)) held)
still-permitted E counter None h = absurd cc
still-permitted E counter (Some p) h = and_from (leb (version p) (version p)) _ (le-leb (version p) (version p) (omega arith)) (and_parts (leb counter (version p)) _ h).1

runs-active : (E : Setting) (s : State) → IsTrue (was_started (bank s s.active).state s.trials) → IsTrue (holds_permitted E s.counter (bank s s.active).held) → IsTrue (runs_from E s s.active)
runs-active E s started permitted =
    and_from _ _
    (subst (λ (x : Bool). IsTrue (cond x (was_started (bank s s.active).state s.trials) (s.active == s.previous && is_accepted (bank s s.active).state))) (sym (eq-eqb s.active s.active refl)) started)
    permitted

start-runs : (E : Setting) (s : State) (f : ℕ) (k : BankState) → (bank s s.active).state ≡ k → IsTrue (is_accepted k || (is_valid k && ltb s.trials trial_limit)) → IsTrue (holds_permitted E s.counter (bank s s.active).held)
    → IsTrue (runs_from E (after (record s { form = f }) (start_moves k s.counter (version (booted_package s s.active)))) s.active)
start-runs E s f Invalid e h permitted = absurd cc
start-runs E s f Valid e h permitted =
    runs-active E (record s { form = f; trials = s.trials + 1 })
    (subst (λ (k : BankState). IsTrue (was_started k (s.trials + 1))) (sym e) (lt-ltb 0 (s.trials + 1) (omega arith))) permitted
start-runs E s f Accepted e h permitted =
    let v = version (booted_package s s.active) in
    let accepted : (n : ℕ) → IsTrue (was_started (bank s s.active).state n) = λ n. subst (λ (k : BankState). IsTrue (was_started k n)) (sym e) refl in
    cond_both (ltb s.counter v) (RaiseTo v ∷ []) [] (λ (ms : List Move). IsTrue (runs_from E (after (record s { form = f }) ms) s.active))
    (λ below. runs-active E (record s { form = f; counter = v }) (accepted s.trials) (still-permitted E s.counter (bank s s.active).held permitted))
    (λ above. runs-active E (record s { form = f }) (accepted s.trials) permitted)

booted-active : (E : Setting) (s : State) (f : ℕ) → IsTrue (can_start E s) → IsTrue (runs_from E (after (record s { form = f }) (chosen_moves s s.active)) s.active)
booted-active E s f h =
    let parts = and_parts _ _ h in
    cond_both (s.active == s.active) (start_moves (bank s s.active).state s.counter (version (booted_package s s.active))) [] (λ (ms : List Move). IsTrue (runs_from E (after (record s { form = f }) ms) s.active))
    (λ here. start-runs E s f (bank s s.active).state refl parts.0 parts.1)
    (λ other. let same = eq-eqb s.active s.active refl in let no_way = sym same ∙ other in absurd cc)

booted-previous : (E : Setting) (s : State) (f : ℕ) → IsTrue (can_fall_back E s) → IsTrue (runs_from E (after (record s { form = f }) (chosen_moves s s.previous)) s.previous)
booted-previous E s f h =
    let parts = and_parts _ _ h in
    let two = and_parts (not (s.previous == s.active)) _ parts.0 in
    let away : (s.previous == s.active) ≡ false = not-true (s.previous == s.active) two.0 in
    subst (λ (x : Bool). IsTrue (runs_from E (after (record s { form = f }) (cond x (start_moves (bank s s.previous).state s.counter (version (booted_package s s.previous))) [])) s.previous)) (sym away)
    (and_from _ _
    (subst (λ (x : Bool). IsTrue (cond x (was_started (bank s s.previous).state s.trials) (s.previous == s.previous && is_accepted (bank s s.previous).state))) (sym away)
    (and_from _ _ (eq-eqb s.previous s.previous refl) two.1))
    parts.1)

booted-at : (E : Setting) (s : State) (b f : ℕ) → choice E s ≡ Some b → IsTrue (runs_from E (after (record s { form = f }) (chosen_moves s b)) b)
unfolding choice
booted-at E s b f =
    cond_both (can_start E s) (Some s.active) (cond (can_fall_back E s) (Some s.previous) None) (λ (o : Option ℕ). o ≡ Some b → IsTrue (runs_from E (after (record s { form = f }) (chosen_moves s b)) b))
    (λ h e. subst (λ (x : ℕ). IsTrue (runs_from E (after (record s { form = f }) (chosen_moves s x)) x)) (same_Some s.active b e) (booted-active E s f h))
    (λ h. cond_both (can_fall_back E s) (Some s.previous) None (λ (o : Option ℕ). o ≡ Some b → IsTrue (runs_from E (after (record s { form = f }) (chosen_moves s b)) b))
    (λ g e. subst (λ (x : ℕ). IsTrue (runs_from E (after (record s { form = f }) (chosen_moves s x)) x)) (same_Some s.previous b e) (booted-previous E s f g))
    (λ g e. absurd cc))

pub booted-runs : BootedRuns
booted-runs E s b chosen =
    subst (λ (x : State). IsTrue (runs_from E x b)) (sym (after-append s (migrate_moves s) (chosen_moves s b)))
    (past-migration s (λ (x : State). IsTrue (runs_from E (after x (chosen_moves s b)) b)) (booted-at E s b 2 chosen) (booted-at E s b s.form chosen))
