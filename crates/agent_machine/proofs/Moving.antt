-- A store of the metadata of a move, by what the agent knows.
use Rattle.std.proofs.Common.{◌≡◌, ℕ, ◌+◌, ◌<◌, List, [], ◌∷◌, Bool, Option, Some, refl, sym, ap, ◌∙◌, subst, arith, IsTrue, IsFalse}
use Rattle.std.proofs.Math.Nat.{mod-lt}
use Rattle.flash_core.specs.{Told.Told, May.Guards}
use Rattle.fwu_formats.specs.{Layout.Layout, Metadata.Meta, Metadata.state_at, Image.deciding}
use Rattle.fwu_model.specs.{Replica.in_version, Calm.IsCalm, Calm.IsAtRest, MoveMetas.meta_after}
use Rattle.fwu_model.specs.State.{State, Move, Free, Accept, Back, bank, update_bank, is_accepted, is_invalid}
use Rattle.fwu_model.specs.Sound.{Setting, holds_permitted}
use Rattle.replicas.specs.Stores.{Stores}
use Rattle.moves.specs.{Moved.Does, Moved.IsShown, Moved.ShowsAfter, Moved.GuardedBy, Law.QuietBy, Law.CallResult}
use Rattle.moves.proofs.{Agree.state-is, Repaired.rest-used, MetaMoves.deciding-fits}
use Rattle.moves.proofs.Stored.{free-does, accept-does, back-does, free-shows, accept-shows, back-shows, store-guarded, quiet-free, quiet-accept, quiet-back}
use Rattle.agent_machine.specs.{Fields.Fields, Fields.target, Machine.state_in, Knows.Fitting, Knows.Knows}
use Rattle.agent_machine.proofs.Known.{both-decides, in-layout, known-shown, known-ready, update-is}

-- What a store of the metadata of a move is: on a calm flash under this premise, on any flash, and on any flash at rest.
pub record StoreMeets (result : CallResult) (f : Fields) (Premise : Setting → Type 0) (move : Move) (s t : Told) : Type 0 where
  pub does : (E : Setting) → E.layout ≡ f.layout → Premise E → IsCalm E s (state_in f s.now) → Guards 1 7 s → Does result E (state_in f s.now) (move ∷ []) t
  pub shows : ShowsAfter result f.layout (state_in f s.now) (move ∷ []) t
  pub guarded : IsAtRest s → GuardedBy result t

pub record StoresMeet (result : CallResult) (f : Fields) (s t : Told) : Type 0 where
  pub free : IsTrue (is_accepted (state_at f.meta.meta f.meta.meta.active)) → Stores result f.layout (meta_after f.meta.meta (Free (target f))) s t
      → StoreMeets result f (λ E. Unit {0}) (Free (target f)) s t
  pub accept : (image : ℕ) → IsFalse (is_invalid (state_at f.meta.meta f.meta.meta.active))
      → Stores result f.layout (meta_after f.meta.meta (Accept image)) s t → StoreMeets result f (λ E. Unit {0}) (Accept image) s t
  pub back : IsTrue (is_accepted (state_at f.meta.meta f.meta.meta.previous)) → Stores result f.layout (meta_after f.meta.meta Back) s t
      → StoreMeets result f (λ E. IsTrue (holds_permitted E (state_in f s.now).counter (bank (state_in f s.now) (state_in f s.now).previous).held)) Back s t

module _ (result : CallResult) (f : Fields) (s t : Told) (fitting : Fitting f) (knows : Knows f s) where
  abbrev L : Layout
  L = f.layout

  abbrev m : Meta
  m = f.meta.meta

  abbrev state : State
  state = state_in f s.now

  shown : IsShown L s.now state
  shown = known-shown f s knows

  decided : deciding L s.now ≡ Some (in_version 2 m)
  decided = both-decides L s.now f.meta knows.both ∙ ap (λ (n : ℕ). Some (in_version n m)) knows.version

  active-below : m.active < L.banks
  active-below = (deciding-fits L s.now (in_version 2 m) decided).active

  previous-below : m.previous < L.banks
  previous-below = (deciding-fits L s.now (in_version 2 m) decided).previous

  abbrev of-layout : (List ℕ → Option (List ℕ)) → (List ℕ → Bool) → Setting
  of-layout files passes = record { layout = L; files = files; passes = passes }

  -- what the move does in a setting with the premise
  abbrev DoesIn : (Setting → Type 0) → Move → Setting → Type 0
  DoesIn Premise move E = Premise E → IsCalm E s state → Guards 1 7 s → Does result E state (move ∷ []) t

  kept : (new : Meta) → Stores result L new s t → (IsAtRest s → QuietBy L new s) → IsAtRest s → GuardedBy result t
  kept new stores quiet rest =
      store-guarded result L s t knows.layout_is rest (in_version 2 m) new decided
      (knows.both.one ∙ ap (λ (n : ℕ). Some (in_version n m)) knows.version) stores (quiet rest)

  used-now : IsAtRest s → QuietBy L m s
  used-now rest = rest-used L s knows.layout_is rest (in_version 2 m) decided

  pub stores-meet : StoresMeet result f s t
  stores-meet = record {
    free = λ accepted stores.
        let at : Stores result L (meta_after m (Free (update_bank state))) s t = subst (λ (b : ℕ). Stores result L (meta_after m (Free b)) s t)
        (sym (update-is f s.now)) stores in
        let active : IsTrue (is_accepted (bank state state.active).state) = ap is_accepted (state-is L s.now f.meta state refl m.active active-below)
        ∙ accepted in
        record {
          does = in-layout (DoesIn (λ E. Unit {0}) (Free (target f))) L (λ files passes premise calm guards.
              let E = of-layout files passes in
              subst (λ (b : ℕ). Does result E state (Free b ∷ []) t) (update-is f s.now)
              (free-does result E s t state m (known-ready E f s refl knows calm guards) decided active at));
          shows = subst (λ (b : ℕ). ShowsAfter result L state (Free b ∷ []) t) (update-is f s.now)
              (free-shows result L s t state m shown decided at);
          guarded = kept (meta_after m (Free (target f))) stores (λ rest.
              quiet-free L m (target f) s (deciding-fits L s.now (in_version 2 m) decided) (mod-lt (m.active + 1) (omega (arith, active-below)))
              (used-now rest));
        };
    accept = λ image used stores. record {
      does = in-layout (DoesIn (λ E. Unit {0}) (Accept image)) L (λ files passes premise calm guards.
          let E = of-layout files passes in
          accept-does result E s t state m (known-ready E f s refl knows calm guards) decided image stores);
      shows = accept-shows result L s t state m shown decided image used stores;
      guarded = kept (meta_after m (Accept image)) stores (λ rest. quiet-accept L m image s active-below used (used-now rest));
    };
    back = λ accepted stores.
        let previous : IsTrue (is_accepted (bank state state.previous).state) = ap is_accepted
        (state-is L s.now f.meta state refl m.previous previous-below) ∙ accepted in
        record {
          does = in-layout (DoesIn (λ E. IsTrue (holds_permitted E state.counter (bank state state.previous).held)) Back) L
              (λ files passes premise calm guards.
              let E = of-layout files passes in
              back-does result E s t state m (known-ready E f s refl knows calm guards) decided previous premise stores);
          shows = back-shows result L s t state m shown decided accepted stores;
          guarded = kept (meta_after m Back) stores (λ rest. quiet-back L m s (used-now rest));
        };
  }
