-- How taking up a bank ends, from what was shown and what was found of the bank.
use Rattle.std.proofs.Common.{◌≡◌, inl, inr, ℕ, ◌<◌, ◌==◌, ◌&&◌, Bool, true, false, cond, eqb-true, List, length, map, Option, Some, None, Ok, Err, refl, sym, ap, subst, ◌∙◌, arith, IsTrue, IsFalse}
use Rattle.std.proofs.lemmas.Bool.{and_parts, cases_Bool, cond_both}
use Rattle.std.specs.Prelude.{is_some}
use Rattle.flash_core.specs.{declared.flash.FlashStop.FlashStop, Told.Told, May.Guards}
use Rattle.fwu_formats.specs.{Layout.Layout, Manifest.version, Image.package_in, declared.kinds.BankState.BankState}
use Rattle.fwu_formats.specs.Metadata.{Meta, MetaRead, fits_meta, state_at}
use Rattle.fwu_formats.specs.declared.kinds.BankState.TheVariants.{Invalid}
use Rattle.fwu_model.specs.{Sound.Setting, Sound.holds_permitted, Seen.state_of, Answer.booted_package, Answer.held_package}
use Rattle.fwu_model.specs.{Answer.migrate_moves, Calm.IsCalm, Calm.IsAtRest, Run.prefixes, Headline.LeavesOneOf}
use Rattle.fwu_model.specs.State.{State, Bank, bank, is_invalid, is_accepted, numbers_of, after}
use Rattle.moves.proofs.{Agree.shown-as, Agree.package-same, Composed.does-idle}
use Rattle.meta_layout.proofs.Fits.{meta-fits}
use Rattle.early_boot.specs.{declared.choosing.Chosen.Chosen, declared.showing.Shown.Shown, declared.showing.Unshown.Unshown}
use Rattle.early_boot.specs.{Starting.MendsReplicas, Starting.mended, Knows.KnowsStarted, Tells.started_as}
use Rattle.early_boot.specs.Showing.{ShowsImage, ShowsNothing, state_shown}
use Rattle.early_boot.specs.Choosing.{boot_setting, candidate_in, chosen_as}
use Rattle.early_boot.specs.TakenUp.{MendsFound, TakeUpEnds, TakesBank, TakesReady, may_run, not_started, running_in, runs_from, stopped, taken, unshown_as, was_started}
use Rattle.early_boot.specs.declared.showing.Unshown.TheVariants as unshown
use Rattle.early_boot.proofs.{Choices.sees, Choices.shown-numbers, Choices.state-seen, Ended.seen-metadata}
use Rattle.early_boot.proofs.Lookups.{bank-is, found-by-test, some-of}

-- ---- a bank that may run

-- it is in use
run-used : (k : BankState) (b active previous trials : ℕ) → IsTrue (may_run b active previous k trials) → IsFalse (is_invalid k)
run-used Invalid b active previous trials h =
    absurd (cond_both (b == active) (was_started Invalid trials) (b == previous && false) (λ (x : Bool). IsTrue x → ⊥) (λ here is. cc) (λ other is. let no = (and_parts (b == previous) false is).1 in cc) h)
run-used other b active previous trials h = refl

-- and one of the layout
pub run-below : (L : Layout) (m : Meta) → IsTrue (fits_meta L m) → (b : ℕ) (k : BankState) (trials : ℕ) → IsTrue (may_run b m.active m.previous k trials) → b < L.banks
run-below L m are b k trials h =
    let f = meta-fits L m are in
    cond_both (b == m.active) (was_started k trials) (b == m.previous && is_accepted k) (λ (x : Bool). IsTrue x → b < L.banks)
    (λ here is. subst (λ (n : ℕ). n < L.banks) (sym (eqb-true b m.active here)) f.active)
    (λ other is. subst (λ (n : ℕ). n < L.banks) (sym (eqb-true b m.previous (and_parts (b == m.previous) (is_accepted k) is).0)) f.previous)
    h

module _ (L : Layout) (image : List ℕ) (r : MetaRead) (are : IsTrue (fits_meta L r.meta)) (b : ℕ) where
  abbrev held : Bank
  held = bank (state_of L image r) b

  same-at : (trials : ℕ) → b < L.banks → may_run b r.meta.active r.meta.previous (state_at r.meta b) trials ≡ may_run b r.meta.active r.meta.previous held.state trials
  same-at trials lt = ap (λ (k : Bank). may_run b r.meta.active r.meta.previous k.state trials) (sym (bank-is L image r b lt))

  -- by the metadata and by the state
  same-run : (trials : ℕ) → may_run b r.meta.active r.meta.previous (state_at r.meta b) trials ≡ may_run b r.meta.active r.meta.previous held.state trials
  same-run trials = elim (cases_Bool (may_run b r.meta.active r.meta.previous (state_at r.meta b) trials)) [
    | inl here ↦ same-at trials (run-below L r.meta are b (state_at r.meta b) trials here)
    | inr away ↦ elim (cases_Bool (may_run b r.meta.active r.meta.previous held.state trials)) [
      | inl here ↦ same-at trials (run-below L r.meta are b held.state trials here)
      | inr never ↦ away ∙ sym never
    ]
  ]

  used-by : (trials : ℕ) → IsTrue (may_run b r.meta.active r.meta.previous held.state trials) → IsFalse (is_invalid (state_at r.meta b))
  used-by trials h =
      ap (λ (k : Bank). is_invalid k.state) (sym (bank-is L image r b (run-below L r.meta are b held.state trials h)))
      ∙ run-used held.state b r.meta.active r.meta.previous trials h

  held-by : (trials : ℕ) → IsTrue (may_run b r.meta.active r.meta.previous held.state trials) → held.held ≡ package_in L image b
  held-by trials h =
      ap (λ (k : Bank). k.held) (bank-is L image r b (run-below L r.meta are b held.state trials h))
      ∙ ap (λ (x : Bool). cond x None (package_in L image b)) (used-by trials h)

-- a test, and then whether the package is permitted, in one step or in two
in-two : (E : Setting) (b : ℕ) (run : Bool) (counter : ℕ) (slots own : Option (List (List ℕ))) → (IsTrue run → own ≡ slots)
    → cond run (candidate_in E counter b slots) None ≡ cond (run && holds_permitted E counter own) (Some (chosen_as b (held_package own))) None
in-two E b true counter slots own same = ap (candidate_in E counter b) (sym (same refl))
in-two E b false counter slots own same = refl

none-of : (test : Bool) (x : Chosen) → cond test (Some x) None ≡ None → test ≡ false
none-of true x e = absurd cc
none-of false x e = refl

some-held : (E : Setting) (counter : ℕ) (own : Option (List (List ℕ))) → IsTrue (holds_permitted E counter own) → IsTrue (is_some own)
some-held E counter None h = absurd cc
some-held E counter (Some p) h = refl

-- only the manifests that pass matter
runs-setting : (E : Setting) (s : State) (b : ℕ) (L : Layout) (passes : List ℕ → Bool) → E.passes ≡ passes → runs_from E s b ≡ runs_from (boot_setting passes L) s b
runs-setting E s b L passes is = ap (λ (test : List ℕ → Bool). runs_from (record { layout = E.layout; files = E.files; passes = test }) s b) is

-- ---- how it ends

module _ (passes : List ℕ → Bool) (shown : Shown) (b : ℕ) (old new : Told) (shows : ShowsImage old.now shown) (are : IsTrue (fits_meta shown.layout shown.meta.meta)) where
  abbrev state : State
  state = state_shown old.now shown

  abbrev E0 : Setting
  E0 = boot_setting passes shown.layout

  found-by : running_in passes old.now shown b ≡ cond (runs_from E0 state b) (Some (chosen_as b (booted_package state b))) None
  found-by =
      let m = shown.meta.meta in
      let slots = package_in shown.layout old.now b in
      sym (found-by-test passes old.now shown b (may_run b m.active m.previous (state_at m b) shown.trials))
      ∙ ap (λ (x : ℕ × ℕ). cond (may_run b m.active m.previous (state_at m b) x.0) (candidate_in E0 x.1 b slots) None) (pair shows.trials_are shows.counter_is)
      ∙ ap (λ (run : Bool). cond run (candidate_in E0 state.counter b slots) None) (same-run shown.layout old.now shown.meta are b state.trials)
      ∙ in-two E0 b (may_run b m.active m.previous (bank state b).state state.trials) state.counter slots (bank state b).held (held-by shown.layout old.now shown.meta are b state.trials)
    where
      pair : {X Y : Type 0} {a c : X} {d e : Y} → a ≡ c → d ≡ e → ◌≡◌ {A = X × Y} (a, d) (c, e)
      pair {c = c} {d = d} p q = ap (λ x. (x, d)) p ∙ ap (λ y. (c, y)) q

  module _ (c : Chosen) (found : running_in passes old.now shown b ≡ Some c) where
    parts : IsTrue (runs_from E0 state b) × (chosen_as b (booted_package state b) ≡ c)
    parts = some-of (runs_from E0 state b) (chosen_as b (booted_package state b)) c (sym found-by ∙ found)

    may : IsTrue (may_run b state.active state.previous (bank state b).state state.trials)
    may = (and_parts _ _ parts.0).0

    held-old : (bank state b).held ≡ package_in shown.layout old.now b
    held-old = held-by shown.layout old.now shown.meta are b state.trials may

    has-some : IsTrue (is_some (bank state b).held)
    has-some = some-held E0 state.counter (bank state b).held (and_parts _ _ parts.0).1

    module _ (mends : MendsReplicas {T = Unit {0}} (Ok tt) shown old new) where
      held-now : (bank state b).held ≡ package_in shown.layout new.now b
      held-now = held-old ∙ sym (package-same shown.layout new.now old.now b mends.keeps.size (λ place above below. mends.keeps.now place (inr (omega (arith, above)))))

      knows-as : KnowsStarted (started_as (mended shown) (chosen_as b (booted_package state b))) new
      knows-as = record {
        layout_is = mends.shows.layout_is;
        both = mends.both;
        form_two = refl;
        trials_are = mends.shows.trials_are;
        counter_is = mends.shows.counter_is;
        used = used-by shown.layout old.now shown.meta are b state.trials may;
        held = ap is_some (sym held-now) ∙ has-some;
        version_is = ap (λ (o : Option (List (List ℕ))). version (held_package o)) held-now;
        lengths_are = ap (λ (o : Option (List (List ℕ))). map (λ (bytes : List ℕ). length bytes) (held_package o)) held-now;
      }

      pub taken-knows : KnowsStarted (started_as (mended shown) c) new
      taken-knows = subst (λ (x : Chosen). KnowsStarted (started_as (mended shown) x) new) parts.1 knows-as

      then-numbers : numbers_of (state_shown new.now (mended shown)) ≡ numbers_of (after state (migrate_moves state))
      then-numbers = ap numbers_of mends.moved

      bank-as : TakesBank passes b old (started_as (mended shown) (chosen_as b (booted_package state b))) new
      bank-as = record {
        state = state;
        has_layout = shows.layout_is;
        shows = sees old.now shown shows;
        runs = λ E test. runs-setting E state b shown.layout passes test ∙ parts.0;
        bank_is = refl;
        version_is = refl;
        lengths_are = refl;
        shown = shown-as shown.layout new.now (mended shown).meta (after state (migrate_moves state)) mends.shows.layout_is mends.shows.loads.decides mends.moved;
        numbers = shown-numbers new.now (mended shown) mends.shows are ∙ then-numbers;
        renewed = record { decided = shown.meta; decides = shows.loads.decides; meta_is = refl; both = mends.both };
        repairs = mends.repairs;
        others = mends.keeps;
      }

      ready-as : (E : Setting) → IsCalm E old state → Guards 1 7 old → TakesReady E state b (started_as (mended shown) (chosen_as b (booted_package state b))) new
      ready-as E calm guards = record {
        session = refl;
        does = mends.does E calm guards;
        numbers = shown-numbers new.now (mended shown) mends.shows are ∙ then-numbers;
      }

      ends-as : TakeUpEnds passes b old (taken (started_as (mended shown) (chosen_as b (booted_package state b)))) new
      ends-as = record {
        by_bytes = bank-as;
        by_machine = λ E s test calm guards.
            subst (λ (y : State). IsCalm E old y → TakesReady E y b
            (started_as (mended shown) (chosen_as b (booted_package state b))) new)
            (state-seen old.now shown s shows calm.shows) (λ here. ready-as E here guards) calm;
        guarded = mends.guarded;
      }

      pub taken-ends : TakeUpEnds passes b old (taken (started_as (mended shown) c)) new
      taken-ends = subst (λ (x : Chosen). TakeUpEnds passes b old (taken (started_as (mended shown) x)) new) parts.1 ends-as

  -- ---- the bank was refused

  pub refused-ends : running_in passes old.now shown b ≡ None → new ≡ old → TakeUpEnds passes b old not_started new
  refused-ends none same =
      let never = none-of (runs_from E0 state b) (chosen_as b (booted_package state b)) (sym found-by ∙ none) in
      record {
        by_bytes = (
          record {
            layout = shown.layout;
            state = state;
            has_layout = shows.layout_is;
            shows = sees old.now shown shows;
            runs_not = λ E test. runs-setting E state b shown.layout passes test ∙ never;
          },
          same,
        );
        by_machine = λ E s test calm guards. (
          subst (λ (y : State). runs_from E y b ≡ false) (state-seen old.now shown s shows calm.shows)
              (runs-setting E state b shown.layout passes test ∙ never),
          subst (λ (t : Told). IsCalm E t s) (sym same) calm,
        );
        guarded = λ rest. subst IsAtRest (sym same) rest;
      }

  -- ---- the flash stopped it

  pub stopped-ends : (stop : FlashStop) → MendsFound (Err stop) shown old new → TakeUpEnds passes b old (stopped stop) new
  stopped-ends stop (inl same) = record {
    by_bytes = inl same;
    by_machine = λ E s test calm guards.
        (does-idle {T = Unit {0}} (Err stop) E s (migrate_moves s) new refl
        (subst (λ (t : Told). IsCalm E t s) (sym same) calm)).each;
    guarded = λ rest. (subst IsAtRest (sym same) rest).guarded;
  }
  stopped-ends stop (inr mends) = record {
    by_bytes = inr (record {
      layout = shown.layout;
      has_layout = shows.layout_is;
      decided = shown.meta;
      decides = shows.loads.decides;
      repairs = mends.repairs;
      others = mends.keeps;
    });
    by_machine = λ E s test calm guards.
        subst (λ (y : State). IsCalm E old y → LeavesOneOf E (prefixes y (migrate_moves y)) new)
        (state-seen old.now shown s shows calm.shows) (λ here. (mends.does E here guards).each) calm;
    guarded = mends.guarded;
  }

-- ---- nothing was shown, and nothing was written

pub none-ends : (passes : List ℕ → Bool) (b : ℕ) (old : Told) (why : Unshown) → ShowsNothing old.now why
    → TakeUpEnds passes b old (unshown_as why) old
none-ends passes b old (unshown.Layout f) h =
    record {
      by_bytes = (h, refl);
      by_machine = λ E s test calm guards. let layout = calm.sound.layout in cc;
      guarded = λ rest. rest;
    }
none-ends passes b old unshown.Metadata h =
    record {
      by_bytes = (h.0, h.1, h.2, refl);
      by_machine = λ E s test calm guards. seen-metadata old.now s h calm.shows;
      guarded = λ rest. rest;
    }
none-ends passes b old (unshown.Flash stop) h = record {
  by_bytes = inl refl;
  by_machine = λ E s test calm guards. (does-idle {T = Unit {0}} (Err stop) E s (migrate_moves s) old refl calm).each;
  guarded = λ rest. rest.guarded;
}
