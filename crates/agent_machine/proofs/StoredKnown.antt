-- What an agent knows of its flash after the store of a begin, an accept or a previous, and where nothing was to be stored.
use Rattle.std.proofs.Common.{◌≡◌, ◌≢◌, inl, inr, ℕ, ◌<◌, Bool, true, false, cond, List, [], ◌∷◌, length, set, map, Option, Ok, refl, sym, ap, ap₂, ◌∙◌, subst, arith, IsTrue, IsFalse, get_or-set_same}
use Rattle.std.specs.Prelude.{is_some}
use Rattle.std.proofs.lemmas.Bool.{cases_Bool, and_parts}
use Rattle.flash_core.specs.Told.{Told}
use Rattle.fwu_formats.specs.{Metadata.Meta, Metadata.state_at, Image.package_in, declared.kinds.BankState.BankState}
use Rattle.fwu_formats.specs.declared.kinds.BankState.TheVariants.{Invalid, Accepted}
use Rattle.fwu_model.specs.{Replica.BothHold, Replica.in_version, Answer.held_package}
use Rattle.fwu_model.specs.State.{State, Bank, Move, Free, Accept, Back, bank, is_invalid, is_accepted, after, all_set}
use Rattle.fwu_model.specs.MoveMetas.{meta_after, bits_in, accepted_bits}
use Rattle.fwu_model.proofs.Banks.{not_valid-accepted}
use Rattle.replicas.specs.Stores.{Stores}
use Rattle.moves.specs.Moved.{ShowsAfter}
use Rattle.moves.proofs.{Agree.package-same, MetaMoves.bank-at}
use Rattle.agent_kept.specs.declared.kinds.Plan.TheVariants as plan
use Rattle.agent_kept.specs.Kept.{Kept, HasNothing, Restarts}
use Rattle.agent_state.specs.Decides.{next_bank}
use Rattle.agent_machine.specs.{Fields.Fields, Fields.target, Machine.state_in, Knows.Fitting, Knows.HasStaged, Knows.Knows}
use Rattle.agent_machine.specs.Stored.{MayBegin, MayAccept, MayGoBack}
use Rattle.agent_machine.proofs.{Known.state-held, Moving.stores-meet}
use Rattle.agent_machine.proofs.Stored.{after_plan, whole, target-other, next-target, begin-booted, begin-settled, state-other, bits-after, nothing-staged, not-both}

-- ---- one store

module _ (f : Fields) (s t : Told) (knows : Knows f s) (new : Meta) (k : Kept) (trials : ℕ) (move : Move)
    (stores : Stores {T = Unit {0}} (Ok tt) f.layout new s t)
    (shows : ShowsAfter {T = Unit {0}} (Ok tt) f.layout (state_in f s.now) (move ∷ []) t) where
  abbrev g : Fields
  g = record f { meta = record f.meta { meta = new }; session = k; trials = trials }

  both-after : BothHold f.layout g.meta t.now
  both-after = subst (λ (n : ℕ). BothHold f.layout (in_version n new) t.now) (sym knows.version) stores.both

  pub state-after : state_in g t.now ≡ after (state_in f s.now) (move ∷ [])
  state-after = state-held f.layout t.now g.meta (after (state_in f s.now) (move ∷ [])) shows both-after

  held-after : package_in f.layout t.now f.boot ≡ package_in f.layout s.now f.boot
  held-after = package-same f.layout t.now s.now f.boot stores.writes.keeps.size
      (λ place above under. stores.writes.keeps.now place (inr (omega (arith, above))))

  pub stored-known : HasNothing k → IsFalse (is_invalid (state_at new f.boot)) → (k.staging ≡ true → IsTrue (is_accepted (state_at new new.active)))
      → (after (state_in f s.now) (move ∷ [])).counter ≡ (state_in f s.now).counter
      → trials ≡ (after (state_in f s.now) (move ∷ [])).trials → Knows g t
  stored-known nothing used accepted counter trials-is = record {
    layout_is = shows.layout;
    both = both-after;
    version = knows.version;
    used = used;
    accepted = accepted;
    counter_is = knows.counter_is ∙ sym counter ∙ ap (λ (x : State). x.counter) (sym state-after);
    trials_are = trials-is ∙ ap (λ (x : State). x.trials) (sym state-after);
    held = ap is_some held-after ∙ knows.held;
    lengths_are = knows.lengths_are ∙ ap (λ (p : Option (List (List ℕ))). map (λ (bytes : List ℕ). length bytes) (held_package p)) (sym held-after);
    staged = nothing-staged g t nothing;
  }

-- ---- each plan

module _ (f : Fields) (s t : Told) (fitting : Fitting f) (knows : Knows f s) where
  abbrev m : Meta
  m = f.meta.meta

  -- a begin finds the active bank accepted
  pub begin-accepted : (store : Bool) → MayBegin f store → IsTrue (is_accepted (state_at m m.active))
  begin-accepted store may = elim (cases_Bool f.session.staging) [
    | inl on ↦ knows.accepted on
    | inr off ↦ not_valid-accepted (state_at m m.active) (subst (λ (b : ℕ). IsFalse (is_invalid (state_at m b)))
        (begin-booted f fitting store may) knows.used) (begin-settled f fitting store may off)
  ]

  pub begun-known : (k : Kept) → MayBegin f true → Restarts true f.session k
      → Stores {T = Unit {0}} (Ok tt) f.layout (meta_after m (Free (next_bank m))) s t → Knows (after_plan f (plan.Begin true) k) t
  begun-known k may restarts stores =
      let apart : f.boot ≢ target f = λ e. target-other f fitting (sym e ∙ begin-booted f fitting true may) in
      let meets = (stores-meet (Ok tt) f s t fitting knows).free (begin-accepted true may)
      (subst (λ (b : ℕ). Stores {T = Unit {0}} (Ok tt) f.layout (meta_after m (Free b)) s t) (next-target f fitting) stores) in
      stored-known f s t knows (meta_after m (Free (next_bank m))) k f.trials (Free (target f)) stores meets.shows restarts.nothing
      (ap is_invalid (state-other f fitting f.boot apart) ∙ knows.used)
      (λ on. ap is_accepted (state-other f fitting m.active (λ e. target-other f fitting (sym e))) ∙ begin-accepted true may)
      refl knows.trials_are

  -- where nothing is to be stored
  pub restarted-known : (k : Kept) → MayBegin f false → Restarts true f.session k → t ≡ s → Knows (after_plan f (plan.Begin false) k) t
  restarted-known k may restarts same =
      let accepted : k.staging ≡ true → IsTrue (is_accepted (state_at m m.active)) = λ on. begin-accepted false may in
      let has : HasStaged (after_plan f (plan.Begin false) k) s =
      nothing-staged (after_plan f (plan.Begin false) k) s restarts.nothing in
      let known : Knows (after_plan f (plan.Begin false) k) s = assumption in
      subst (λ (u : Told). Knows (after_plan f (plan.Begin false) k) u) (sym same) known

  -- ---- accept

  pub accepting-used : (image : ℕ) → MayAccept f image → IsFalse (is_invalid (state_at m m.active))
  accepting-used image may = subst (λ (b : ℕ). IsFalse (is_invalid (state_at m b))) may.booted knows.used

  active-below : m.active < length m.states
  active-below = let w = whole f fitting in omega (arith, w.active, w.states)

  -- the active bank is in use, with all bits or without
  accepted-state : (image : ℕ) → MayAccept f image → IsFalse (is_invalid (state_at (meta_after m (Accept image)) f.boot))
  accepted-state image may =
      let state : BankState = cond (all_set (accepted_bits m image)) Accepted (state_at m m.active) in
      ap (λ (b : ℕ). is_invalid (state_at (meta_after m (Accept image)) b)) may.booted ∙ ap is_invalid
      (get_or-set_same m.states m.active state Invalid active-below)
      ∙ by (all_set (accepted_bits m image)) (state_at m m.active) (accepting-used image may)
    where
      by : (v : Bool) (old : BankState) → IsFalse (is_invalid old) → IsFalse (is_invalid (cond v Accepted old))
      by true old used = refl
      by false old used = used

  -- the bits of the active bank are those of the metadata
  bits-shown : (bank (state_in f s.now) m.active).bits ≡ bits_in m m.active
  bits-shown = ap (λ (b : Bank). b.bits) (bank-at f.layout s.now m (whole f fitting) m.active (whole f fitting).active)

  accepted-trials : (image : ℕ) → cond (all_set (bits_in (meta_after m (Accept image)) m.active)) 0 f.trials ≡ (after (state_in f s.now)
      (Accept image ∷ [])).trials
  accepted-trials image =
      ap₂ (λ (l : List Bool) (n : ℕ). cond (all_set l) 0 n) (bits-after f fitting image ∙ ap (λ (l : List Bool). set l image true)
      (sym bits-shown)) knows.trials_are

  pub accepted-known : (image : ℕ) → MayAccept f image → Stores {T = Unit {0}} (Ok tt) f.layout (meta_after m (Accept image)) s t
      → Knows (after_plan f (plan.Accept image true) f.session) t
  accepted-known image may stores =
      stored-known f s t knows (meta_after m (Accept image)) f.session (after_plan f (plan.Accept image true) f.session).trials (Accept image) stores
      ((stores-meet (Ok tt) f s t fitting knows).accept image (accepting-used image may) stores).shows (fitting.idle may.idle)
      (accepted-state image may) (λ on. absurd (not-both f.session.staging may.idle on)) refl (accepted-trials image)

  -- ---- previous

  pub back-accepted : MayGoBack f → IsTrue (is_accepted (state_at m m.previous))
  back-accepted may = (and_parts _ _ may.other).1

  pub back-known : MayGoBack f → Stores {T = Unit {0}} (Ok tt) f.layout (meta_after m Back) s t → Knows (after_plan f plan.Back f.session) t
  back-known may stores =
      stored-known f s t knows (meta_after m Back) f.session 0 Back stores
      ((stores-meet (Ok tt) f s t fitting knows).back (back-accepted may) stores).shows (fitting.idle may.idle)
      knows.used (λ on. absurd (not-both f.session.staging may.idle on)) refl refl
