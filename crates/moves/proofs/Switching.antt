-- The switch to an update bank whose slots hold a package: the marks cleared, and the store.
use Rattle.std.proofs.Common.{◌≡◌, inr, ℕ, ◌+◌, ◌*◌, ◌<◌, ◌≤◌, Bool, List, [], ◌∷◌, length, get_or, take, Option, Some, Ok, refl, sym, ap, ◌∙◌, subst, arith, IsTrue}
use Rattle.std.proofs.lemmas.Option.{same_Some}
use Rattle.std.specs.List.{list_any}
use Rattle.std.specs.Prelude.{◌==◌, IsErr}
use Rattle.base_core.specs.Block.{block}
use Rattle.flash_core.specs.{Told.Told, Told.settle, May.Guards, May.Quiet}
use Rattle.flash_core.proofs.Calls.{now-settle, guard-settle, quiet_settle}
use Rattle.fwu_formats.specs.{Layout.Layout, Layout.start, Manifest.is_complete, Image.deciding, Image.package_in, Image.slot}
use Rattle.fwu_formats.specs.Metadata.{Meta, MetaRead, meta_read}
use Rattle.fwu_model.specs.{Sound.Setting, Sound.is_permitted, Seen.seen, Seen.SoundFlash, Calm.IsCalm, Calm.IsAtRest}
use Rattle.fwu_model.specs.{Replica.BothHold, Replica.in_version, MoveMetas.meta_after, MoveMetas.meta_in}
use Rattle.fwu_model.specs.State.{State, Switch, bank, update_bank, is_accepted}
use Rattle.marks_core.specs.Marks.{Clears}
use Rattle.replicas.specs.Stores.{Stores}
use Rattle.moves.specs.{Moved.IsReady, Moved.Does, Moved.IsShown, Moved.ShowsAfter, Moved.GuardedBy, Law.CallResult, Law.EndsBy}
use Rattle.moves.proofs.{Beside.both-beside, Composed.does-stopped, Repaired.rest-used, MetaMoves.two-decides}
use Rattle.moves.proofs.{Packages.package-held, Stored.switch-does, Stored.switch-shows, Stored.store-guarded, Stored.quiet-switch}
use Rattle.moves.proofs.Agree.{no_meta, Agrees, front-kept, decides-agrees, package-same}
use Rattle.moves.proofs.Trials.{clear-does, clear-shows, clear-guarded, blank-marks, blank-tidy}

-- a barrier leaves a ready flash ready
pub settled-ready : (E : Setting) (s : Told) (state : State) → IsReady E s state → IsReady E (settle s) state
settled-ready E s state ready = record {
  calm = record {
    sound = subst (SoundFlash E) (sym (now-settle s)) ready.calm.sound;
    shows = ap seen (now-settle s) ∙ ready.calm.shows;
    front = quiet_settle _ _ s;
    banks = λ b used. quiet_settle _ _ s;
  };
  guarded = λ b low high. subst (λ (g : List ℕ). IsTrue (list_any (λ k. k == b) g)) (sym (guard-settle s)) (ready.guarded b low high);
  one = λ r is. ap (λ (l : List ℕ). meta_read E.layout (block 2 l)) (now-settle s) ∙ ready.one r (sym (ap (deciding E.layout) (now-settle s)) ∙ is);
}

module _ (L : Layout) (state : State) (p : List (List ℕ)) (bits : List Bool) (s : Told) (shown : IsShown L s.now state) (two : state.form ≡ 2) (both : BothHold L (in_version 2 (meta_in state)) s.now)
    (accepted : IsTrue (is_accepted (bank state state.active).state)) (some : 1 ≤ length L.rows) (count : length bits ≡ length L.rows) (complete : IsTrue (is_complete L.rows p))
    (holds : (i : ℕ) → i < length p → take (length (get_or p i [])) (slot L s.now (update_bank state) i) ≡ get_or p i [])
    (sure : Quiet (4096 * start L (update_bank state) 0) (4096 * start L (update_bank state + 1) 0) s) where
  abbrev m : Meta
  m = meta_in state

  abbrev u : ℕ
  u = update_bank state

  decided : deciding L s.now ≡ Some (in_version 2 m)
  decided = two-decides L s.now state shown two

  ready-calm : (E : Setting) → E.layout ≡ L → IsCalm E s state → Guards 1 7 s → IsReady E s state
  ready-calm E same calm guards = record {
    calm = calm;
    guarded = guards;
    one = λ r is.
        let at : deciding L s.now ≡ Some r = ap (λ (l : Layout). deciding l s.now) (sym same) ∙ is in
        ap (λ (l : Layout). meta_read l (block 2 s.now)) same ∙ both.one ∙ ap (λ (x : MetaRead). Some x) (same_Some (in_version 2 m) r (sym decided ∙ at));
  }

  module _ (c : Told) (clears : Clears {T = Unit {0}} (Ok tt) 3 s c) where
    agree : Agrees L no_meta.meta 12288 16384 s.now c.now
    agree = front-kept L 12288 16384 s c clears.keeps

    decided-cleared : deciding L c.now ≡ Some (in_version 2 m)
    decided-cleared = decides-agrees L no_meta 12288 16384 s.now c.now agree (omega arith) ∙ decided

    package-cleared : package_in L c.now u ≡ Some p
    package-cleared = package-same L c.now s.now u clears.keeps.size (λ place above below. clears.keeps.now place (inr (omega (arith, above)))) ∙ package-held L s.now u p some complete holds

    quiet-cleared : Quiet (4096 * start L u 0) (4096 * start L (u + 1) 0) c
    quiet-cleared i low high = clears.keeps.sure i (inr (omega (arith, low))) (sure i low high)

    both-cleared : BothHold L (in_version 2 m) c.now
    both-cleared = both-beside L (in_version 2 m) 12288 16384 s c (omega arith) clears.keeps both

    shown-cleared : IsShown L c.now state
    shown-cleared = clear-shows {T = Unit {0}} (Ok tt) s c state accepted clears L shown

    module _ (result : CallResult) (t : Told) (stores : Stores result L (meta_after m (Switch u p bits)) c t) where
      switch-seen : ShowsAfter result L state (Switch u p bits ∷ []) t
      switch-seen = switch-shows result L c t state m shown-cleared decided-cleared p bits package-cleared (λ v. blank-marks c.now 3 clears.erased) stores

      switch-kept : IsAtRest s → GuardedBy result t
      switch-kept rest =
          let rest_cleared : IsAtRest c = clear-guarded {T = Unit {0}} (Ok tt) L s c shown.layout rest clears in
          store-guarded result L c t shown-cleared.layout rest_cleared (in_version 2 m) (meta_after m (Switch u p bits)) decided-cleared both-cleared.one stores
          (quiet-switch L m u p bits c quiet-cleared (rest-used L c shown-cleared.layout rest_cleared (in_version 2 m) decided-cleared))

      switch-here : (files : List ℕ → Option (List ℕ)) (passes : List ℕ → Bool) → IsTrue (is_permitted (record { layout = L; files = files; passes = passes }) state.counter p)
          → IsCalm (record { layout = L; files = files; passes = passes }) s state → Guards 1 7 s → Does result (record { layout = L; files = files; passes = passes }) state (Switch u p bits ∷ []) t
      switch-here files passes permitted calm guards =
          let E : Setting = record { layout = L; files = files; passes = passes } in
          let ready : IsReady E c state = (clear-does {T = Unit {0}} (Ok tt) s c state accepted clears E (ready-calm E refl calm guards)).all in
          switch-does result E c t state m ready decided-cleared p bits accepted quiet-cleared package-cleared count complete permitted (λ v. (blank-marks c.now 3 clears.erased, blank-tidy c.now 3 clears.erased)) stores

      switch-done : (E : Setting) → E.layout ≡ L → IsTrue (is_permitted E state.counter p) → IsCalm E s state → Guards 1 7 s → Does result E state (Switch u p bits ∷ []) t
      switch-done E same permitted calm guards =
          let path : ◌≡◌ {A = Setting} (record { layout = L; files = E.files; passes = E.passes }) E = ap (λ (l : Layout). record { layout = l; files = E.files; passes = E.passes }) (sym same) in
          subst (λ (e : Setting). Does result e state (Switch u p bits ∷ []) t) path (switch-here E.files E.passes permitted (subst (λ (e : Setting). IsCalm e s state) (sym path) calm) guards)

  unclear-done : (given result : CallResult) (E : Setting) (t : Told) → IsErr result → E.layout ≡ L → IsCalm E s state → Guards 1 7 s → Clears given 3 s t → Does result E state (Switch u p bits ∷ []) t
  unclear-done given result E t err same calm guards clears =
      does-stopped given result E state [] (Switch u p bits ∷ []) t err (clear-does given s t state accepted clears E (ready-calm E same calm guards))

  -- The marks are cleared, or that is stopped; then the metadata of the switch is stored.
  pub ends-by : EndsBy L state p bits s
  ends-by = record {
    unclear = unclear-done;
    does = λ result E c t same permitted calm guards clears stores. switch-done c clears result t stores E same permitted calm guards;
    shows = λ result c t clears stores. switch-seen c clears result t stores;
    guarded = λ result c t rest clears stores. switch-kept c clears result t stores rest;
  }
