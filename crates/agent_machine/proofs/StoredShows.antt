-- The machine that is shown after the plan of a begin, an accept or a previous, and what its store is to the machine.
use Rattle.std.proofs.Common.{◌≡◌, ◌≢◌, ℕ, Bool, true, false, cond, List, [], ◌∷◌, length, set, take, map, Option, Ok, Err, refl, sym, ap, ap₂, ◌∙◌, subst, IsTrue, get_or-set_other, length-set}
use Rattle.std.specs.Prelude.{OnOk, is_ok}
use Rattle.flash_core.specs.Told.{Told}
use Rattle.fwu_formats.specs.{Layout.Layout, Metadata.Meta, Metadata.MetaRead}
use Rattle.fwu_model.specs.{Sound.Setting, Session.Session, Session.Staged, Answer.held_package, Calm.IsAtRest, Seen.state_of}
use Rattle.fwu_model.specs.State.{State, Bank, Move, Free, Accept, Back, bank, no_bank, update_bank, freed, with_bit, all_set, after}
use Rattle.fwu_model.specs.MoveMetas.{meta_in, meta_after, bits_in}
use Rattle.fwu_model.specs.Session as machine
use Rattle.moves.specs.{Moved.IsReady, Moved.Does, Moved.GuardedBy, Moved.ShowsAfter, Law.CallResult}
use Rattle.moves.proofs.Composed.{does-nothing}
use Rattle.replicas.specs.Stores.{Stores}
use Rattle.agent_kept.specs.{declared.kinds.Plan.Plan, Plans.SpeaksWhole, Plans.planned, Plans.planned_in}
use Rattle.agent_kept.specs.Kept.{Kept, Restarts, session_meant, handles_meant}
use Rattle.agent_kept.specs.declared.kinds.Plan.TheVariants as plan
use Rattle.agent_kept.proofs.Sounds.{restarts-staging}
use Rattle.agent_state.specs.{Decides.next_bank, Settles.HasTotal, Settles.Settles, Settles.meta_planned, Settles.staged_after}
use Rattle.agent_state.proofs.{Machine.next-is, Machine.active-is, Machine.bits-is, Machine.is-idle, Moved.held-accepted}
use Rattle.agent_machine.specs.{Deciding.KeepsOldOrNew, Fields.Fields, Fields.target, Machine.state_in, Machine.staged_bytes}
use Rattle.agent_machine.specs.{Knows.Fitting, Knows.Knows, Moment.Moment, Moment.Shows, Moment.SpeaksOf}
use Rattle.agent_machine.specs.Beside.{IsSpared, KeepsSpared, SparesBlocks}
use Rattle.agent_machine.specs.Stored.{MayBegin, MayAccept, MayGoBack, MayBeDone, CarriesOut}
use Rattle.agent_machine.proofs.{Deciding.decides-same, Deciding.decides-stores, Beside.spared-told, Beside.stores-spare}
use Rattle.agent_machine.proofs.{Answered.rest-guarded, Known.update-is, Moving.StoreMeets, Moving.stores-meet}
use Rattle.agent_machine.proofs.Stored.{after_plan, next-target, target-other, begin-booted, bits-after}
use Rattle.agent_machine.proofs.StoredKnown.{state-after, begin-accepted, accepting-used, back-accepted}

-- ---- what is spoken of after each plan, in any state

-- another state with the bank that was started as it was
speaks-still : (f g : Fields) (s t : State) → SpeaksOf f s → g.layout ≡ f.layout → g.lengths ≡ f.lengths → g.boot ≡ f.boot
    → length t.banks ≡ length s.banks → g.meta.meta ≡ meta_in t → t.form ≡ g.meta.form → g.counter ≡ t.counter → g.trials ≡ t.trials
    → (bank t f.boot).held ≡ (bank s f.boot).held → SpeaksOf g t
speaks-still f g s t of layout lengths boot banks meta form counter trials held = record {
  banks = banks ∙ of.banks ∙ ap (λ (l : Layout). l.banks) (sym layout);
  meta = meta;
  form = form;
  counter_is = counter;
  trials_are = trials;
  lengths_are =
      ap₂ (λ (n : ℕ) (ls : List ℕ). take n ls) (ap (λ (l : Layout). length l.rows) layout) lengths
      ∙ of.lengths_are ∙ ap (λ (o : Option (List (List ℕ))). map (λ (bytes : List ℕ). length bytes) (held_package o)) (sym held)
      ∙ ap (λ (b : ℕ). map (λ (bytes : List ℕ). length bytes) (held_package (bank t b).held)) (sym boot);
}

module _ (f : Fields) (s : State) (of : SpeaksOf f s) (fitting : Fitting f) where
  -- the update bank of the state
  pub target-is : target f ≡ update_bank s
  target-is = sym (next-target f fitting) ∙ next-is s f.meta of.meta

  begun-speaks : (k : Kept) → MayBegin f true → (after_plan f (plan.Begin true) k).meta.meta ≡ meta_in (after s (Free (update_bank s) ∷ []))
      → SpeaksOf (after_plan f (plan.Begin true) k) (after s (Free (update_bank s) ∷ []))
  begun-speaks k may meta =
      let u = update_bank s in
      let apart : f.boot ≢ u = λ e. target-other f fitting (target-is ∙ sym e ∙ begin-booted f fitting true may) in
      speaks-still f (after_plan f (plan.Begin true) k) s (after s (Free u ∷ [])) of refl refl refl
      (length-set s.banks u (freed (bank s u))) meta of.form of.counter_is of.trials_are
      (ap (λ (b : Bank). b.held) (get_or-set_other s.banks u f.boot (freed (bank s u)) no_bank apart))

  restarted-speaks : (k : Kept) → SpeaksOf (after_plan f (plan.Begin false) k) s
  restarted-speaks k = assumption

  accepted-speaks : (image : ℕ) → (after_plan f (plan.Accept image true) f.session).meta.meta ≡ meta_in (after s (Accept image ∷ []))
      → SpeaksOf (after_plan f (plan.Accept image true) f.session) (after s (Accept image ∷ []))
  accepted-speaks image meta =
      let m = f.meta.meta in
      let bits : bits_in (meta_after m (Accept image)) m.active ≡ (with_bit (bank s s.active) image).bits =
      bits-after f fitting image ∙ ap (λ (l : List Bool). set l image true) (ap (bits_in m) (active-is s f.meta of.meta) ∙ bits-is s f.meta of.meta s.active) in
      speaks-still f (after_plan f (plan.Accept image true) f.session) s (after s (Accept image ∷ [])) of refl refl refl
      (length-set s.banks s.active (with_bit (bank s s.active) image)) meta of.form of.counter_is
      (ap₂ (λ (l : List Bool) (n : ℕ). cond (all_set l) 0 n) bits of.trials_are)
      (held-accepted s image f.boot)

  back-speaks : (after_plan f plan.Back f.session).meta.meta ≡ meta_in (after s (Back ∷ [])) → SpeaksOf (after_plan f plan.Back f.session) (after s (Back ∷ []))
  back-speaks meta = speaks-still f (after_plan f plan.Back f.session) s (after s (Back ∷ [])) of refl refl refl refl meta of.form of.counter_is refl refl

-- ---- a plan carried out, by its parts

done-is : (result : CallResult) → IsTrue (is_ok result) → result ≡ Ok tt
done-is (Ok x) h = refl
done-is (Err stop) h = absurd cc

module _ (tells : Bool) (f : Fields) (s t : Told) (result : CallResult) (p : Plan) (k : Kept) where
  -- what the moves of the plan are from a state
  abbrev pub planned_from : Setting → State → (ℕ → List ℕ) → List Move
  planned_from E x staged = (planned_in E x (session_meant f.session f.boot staged) [] p).moves

  -- what it leaves of a flash that tells its content
  pub record Leaves : Type 0 where
    pub state : (E : Setting) (staged : ℕ → List ℕ) → IsTrue (is_ok result)
        → after (state_in f s.now) (planned_from E (state_in f s.now) staged) ≡ state_in (after_plan f p k) t.now
    pub does : (E : Setting) (staged : ℕ → List ℕ) → E.layout ≡ f.layout → MayBeDone E (state_in f s.now) p
        → IsReady E s (state_in f s.now) → Does result E (state_in f s.now) (planned_from E (state_in f s.now) staged) t
    pub guarded : IsAtRest s → GuardedBy result t
    pub guard : t.guard ≡ s.guard
    pub keeps : KeepsSpared f s t
    pub decides : KeepsOldOrNew f.layout f.meta (after_plan f p k).meta s t

  -- metadata was stored for its move
  stored-leaves : (Premise : Setting → Type 0) (move : Move) → Knows f s
      → ((E : Setting) (staged : ℕ → List ℕ) → planned_from E (state_in f s.now) staged ≡ move ∷ [])
      → ((E : Setting) → MayBeDone E (state_in f s.now) p → Premise E)
      → Stores result f.layout (meta_planned f.session f.meta.meta p) s t → StoreMeets result f Premise move s t → Leaves
  stored-leaves Premise move known moves premise stores meets =
      let new : Meta = meta_planned f.session f.meta.meta p in
      record {
        state = λ E staged ok.
            ap (after (state_in f s.now)) (moves E staged) ∙ sym (state-after f s t known new k (after_plan f p k).trials move
            (subst (λ (r : CallResult). Stores r f.layout new s t) (done-is result ok) stores)
            (subst (λ (r : CallResult). ShowsAfter r f.layout (state_in f s.now) (move ∷ []) t) (done-is result ok) meets.shows));
        does = λ E staged same may ready. subst (λ (ms : List Move). Does result E (state_in f s.now) ms t) (sym (moves E staged))
            (meets.does E same (premise E may) ready.calm ready.guarded);
        guarded = meets.guarded;
        guard = stores.writes.keeps.guard;
        keeps = stores-spare f result f.layout new s t stores;
        decides = decides-stores result f.layout f.meta _ new s t (ap (λ (n : ℕ). record { form = n; meta = new }) known.version)
            stores;
      }

  -- nothing was to be stored
  same-leaves : ((E : Setting) (staged : ℕ → List ℕ) → planned_from E (state_in f s.now) staged ≡ [])
      → (after_plan f p k).meta ≡ f.meta
      → IsTrue (is_ok result) × (t ≡ s) → Leaves
  same-leaves moves meta still = record {
    state = λ E staged ok. ap (after (state_in f s.now)) (moves E staged)
        ∙ ap₂ (λ (u : Told) (r : MetaRead). state_of f.layout u.now r) (sym still.1) (sym meta);
    does = λ E staged same may ready. subst (λ (ms : List Move). Does result E (state_in f s.now) ms t) (sym (moves E staged))
        (does-nothing result E (state_in f s.now) t (subst (λ (u : Told). IsReady E u (state_in f s.now)) (sym still.1) ready));
    guarded = λ rest. rest-guarded result t (subst IsAtRest (sym still.1) rest);
    guard = ap (λ (u : Told). u.guard) still.1;
    keeps = spared-told (IsSpared f) s t still.1;
    decides = decides-same f.layout f.meta _ s t still.1;
  }

  pub record Parts : Type 0 where
    pub total : (E : Setting) (x : State) → HasTotal E x f.boot p
    pub settles : Settles f.session f.meta [] p (after_plan f p k).meta k
    pub speaks : (E : Setting) (x : State) (staged : ℕ → List ℕ) → SpeaksOf f x
        → (after_plan f p k).meta.meta ≡ meta_in (after x (planned_from E x staged)) → SpeaksOf (after_plan f p k) (after x (planned_from E x staged))
    -- the session that is meant has no byte of the flash
    pub session : (a b : ℕ → List ℕ) → session_meant k f.boot a ≡ session_meant k f.boot b
    pub leaves : IsTrue tells → Leaves

  module _ (old_writes new_writes : ℕ → ℕ) where
    abbrev pub old : Moment
    old = record { tells = tells; told = s; writes = old_writes; fields = f }

    abbrev pub new : Moment
    new = record { tells = tells; told = t; writes = new_writes; fields = after_plan f p k }

    abbrev pub SpeaksWell : Type 0
    SpeaksWell = (E : Setting) (x : State) (y : Session) → E.layout ≡ f.layout →
        (shows : Shows old x y) → SpeaksWhole E x E.passes f.meta f.counter f.session f.boot shows.staged

    module _ (speaks : SpeaksWell) (parts : Parts) (touches : SparesBlocks f old_writes new_writes) where
      shows-next : (E : Setting) (x : State) (y : Session) → E.layout ≡ f.layout → Shows old x y → IsTrue (is_ok result)
          → Shows new (after x (planned_in E x y [] p).moves) (planned_in E x y [] p).next
      shows-next E x y same shows ok =
          let si = parts.settles E x E.passes f.counter f.boot shows.staged (speaks E x y same shows) (parts.total E x) in
          subst (λ (z : Session). Shows new (after x (planned_in E x z [] p).moves) (planned_in E x z [] p).next) (sym shows.means) (record {
            told = λ is.
                let here = (shows.told is).0 in (
                  subst (λ (z : State). after z (planned_from E z shows.staged) ≡ state_in (after_plan f p k) t.now) (sym here)
                      ((parts.leaves is).state E shows.staged ok),
                  sym si.next ∙ parts.session (staged_after p [] shows.staged) (staged_bytes (after_plan f p k) t.now),
                );
            speaks = parts.speaks E x shows.staged shows.speaks si.spoken.speaks.meta;
            staged = staged_after p [] shows.staged;
            kept = si.spoken.speaks.kept;
            means = sym si.next;
          })

      by-result : (r : CallResult) (P : Type 0) → (IsTrue (is_ok r) → P) → OnOk r P
      by-result (Ok x) P h = h refl
      by-result (Err stop) P h = tt

      pub carried : CarriesOut result p old new
      carried = record {
        shows = λ E x y same shows. by-result result _ (shows-next E x y same shows);
        does = λ E x y same shows may is ready.
            let here = (shows.told is).0 in
            subst (λ (z : Session). Does result E x (planned_in E x z [] p).moves t) (sym shows.means)
            (subst (λ (z : State). Does result E z (planned_from E z shows.staged) t) (sym here)
            ((parts.leaves is).does E shows.staged same (subst (λ (z : State). MayBeDone E z p) here may)
            (subst (IsReady E s) here ready)));
        guarded = λ is. (parts.leaves is).guarded;
        keeps = λ is. (parts.leaves is).keeps;
        touches = touches;
        decides = λ is. (parts.leaves is).decides;
        stays = record {
          tells = refl;
          layout = refl;
          boot = refl;
          counter = refl;
          lengths = refl;
          guard =
              λ is. (parts.leaves is).guard;
        };
      }

-- ---- each plan

-- outside a staging no image is meant
idle-session : (k : Kept) (boot : ℕ) (a b : ℕ → List ℕ) → k.staging ≡ false → session_meant k boot a ≡ session_meant k boot b
idle-session k boot a b off = ap (λ (o : Option (List Staged)). machine.On boot o (handles_meant k)) (is-idle k a off ∙ sym (is-idle k b off))

module _ (tells : Bool) (f : Fields) (s t : Told) (result : CallResult) (fitting : Fitting f) (knows : IsTrue tells → Knows f s) where
  abbrev m : Meta
  m = f.meta.meta

  restarted-session : (k : Kept) → Restarts true f.session k → (a b : ℕ → List ℕ)
      → session_meant k f.boot a ≡ session_meant k f.boot b
  restarted-session k restarts a b =
      restarts-staging k f.boot a restarts.nothing restarts.staging_is restarts.closed
      ∙ sym (restarts-staging k f.boot b restarts.nothing restarts.staging_is restarts.closed)

  pub begun-parts : (k : Kept) → MayBegin f true → Restarts true f.session k
      → Settles f.session f.meta [] (plan.Begin true) (after_plan f (plan.Begin true) k).meta k
      → (IsTrue tells → Stores result f.layout (meta_after m (Free (next_bank m))) s t) → Parts tells f s t result (plan.Begin true) k
  unfolding planned
  begun-parts k may restarts settles stores = record {
    total = λ E x. tt;
    settles = settles;
    speaks = λ E x staged of meta. begun-speaks f x of fitting k may meta;
    session = restarted-session k restarts;
    leaves = λ is. stored-leaves tells f s t result (plan.Begin true) k (λ E. Unit {0}) (Free (target f)) (knows is)
        (λ E staged. ap (λ (b : ℕ). Free b ∷ []) (update-is f s.now)) (λ E may_be. tt) (stores is)
        ((stores-meet result f s t fitting (knows is)).free (begin-accepted f s t fitting (knows is) true may)
        (subst (λ (b : ℕ). Stores result f.layout (meta_after m (Free b)) s t) (next-target f fitting) (stores is)));
  }

  pub restarted-parts : (k : Kept) → Restarts true f.session k → Settles f.session f.meta [] (plan.Begin false) (after_plan f (plan.Begin false) k).meta k
      → (IsTrue tells → IsTrue (is_ok result) × (t ≡ s)) → Parts tells f s t result (plan.Begin false) k
  unfolding planned
  restarted-parts k restarts settles still = record {
    total = λ E x. tt;
    settles = settles;
    speaks = λ E x staged of meta. restarted-speaks f x of fitting k;
    session = restarted-session k restarts;
    leaves = λ is. same-leaves tells f s t result (plan.Begin false) k (λ E staged. refl) refl (still is);
  }

  -- ---- accept

  pub accepted-parts : (image : ℕ) → MayAccept f image → Settles f.session f.meta [] (plan.Accept image true) (after_plan f
      (plan.Accept image true) f.session).meta f.session
      → (IsTrue tells → Stores result f.layout (meta_after m (Accept image)) s t) → Parts tells f s t result (plan.Accept image true) f.session
  unfolding planned
  accepted-parts image may settles stores = record {
    total = λ E x. tt;
    settles = settles;
    speaks = λ E x staged of meta. accepted-speaks f x of fitting image meta;
    session = λ a b. idle-session f.session f.boot a b may.idle;
    leaves = λ is. stored-leaves tells f s t result (plan.Accept image true) f.session (λ E. Unit {0}) (Accept image) (knows is)
        (λ E staged. refl) (λ E may_be. tt) (stores is)
        ((stores-meet result f s t fitting (knows is)).accept image (accepting-used f s t fitting (knows is) image may)
        (stores is));
  }

  pub unchanged-parts : (image : ℕ) → MayAccept f image → Settles f.session f.meta [] (plan.Accept image false) f.meta f.session
      → (IsTrue tells → IsTrue (is_ok result) × (t ≡ s)) → Parts tells f s t result (plan.Accept image false) f.session
  unfolding planned
  unchanged-parts image may settles still = record {
    total = λ E x. tt;
    settles = settles;
    speaks = λ E x staged of meta. of;
    session = λ a b. idle-session f.session f.boot a b may.idle;
    leaves = λ is. same-leaves tells f s t result (plan.Accept image false) f.session (λ E staged. refl) refl (still is);
  }

  -- ---- previous

  pub back-parts : MayGoBack f → Settles f.session f.meta [] plan.Back (after_plan f plan.Back f.session).meta f.session
      → (IsTrue tells → Stores result f.layout (meta_after m Back) s t) → Parts tells f s t result plan.Back f.session
  unfolding planned
  back-parts may settles stores = record {
    total = λ E x. tt;
    settles = settles;
    speaks = λ E x staged of meta. back-speaks f x of fitting meta;
    session = λ a b. idle-session f.session f.boot a b may.idle;
    leaves = λ is. stored-leaves tells f s t result plan.Back f.session _ Back (knows is) (λ E staged. refl) (λ E may_be. may_be)
        (stores is)
        ((stores-meet result f s t fitting (knows is)).back (back-accepted f s t fitting (knows is) may) (stores is));
  }
