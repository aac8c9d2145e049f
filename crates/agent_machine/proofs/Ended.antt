-- The staging has ended, and its package is active: what the agent knows afterwards.
use Rattle.std.proofs.Common.{◌≡◌, ◌≢◌, inr, ℕ, ◌+◌, ◌<◌, Bool, true, false, List, [], ◌∷◌, length, get_or, map, Option, Ok, sym, ap, ap₂, ◌∙◌, subst, arith, IsTrue, get_or-set_other, set}
use Rattle.std.proofs.Math.Nat.{mod-lt}
use Rattle.std.specs.Prelude.{is_some}
use Rattle.flash_core.specs.Told.{Told}
use Rattle.fwu_formats.specs.{declared.kinds.BankState.TheVariants.Invalid, Layout.ImageRow, Layout.Layout, Image.package_in}
use Rattle.fwu_formats.specs.Metadata.{Meta, MetaRead, state_at, fits_meta}
use Rattle.fwu_formats.proofs.SealLaws.{limits}
use Rattle.fwu_model.specs.{Replica.BothHold, Replica.in_version, MoveMetas.meta_after, MoveMetas.meta_in}
use Rattle.fwu_model.specs.State.{State, Bank, Switch, bank, no_bank, update_bank, after, is_invalid, state_by}
use Rattle.fwu_model.specs.Answer.{held_package, staged_bits}
use Rattle.fwu_model.proofs.Banks.{next-other}
use Rattle.meta_layout.proofs.Fits.{MetaFits, meta-fits}
use Rattle.marks_core.specs.Marks.{Clears}
use Rattle.replicas.specs.Stores.{Stores}
use Rattle.moves.specs.{Moved.IsShown, Law.EndsBy}
use Rattle.moves.proofs.{MetaMoves.fits-switch, Agree.package-same}
use Rattle.agent_kept.specs.Kept.{Kept, Restarts, parts_meant}
use Rattle.agent_state.specs.{Decides.next_bank, Settles.bits_kept}
use Rattle.agent_state.proofs.{Collected.bits-count, Machine.next-is, Settled.bits-meant}
use Rattle.agent_machine.specs.{Fields.Fields, Carries.MeansSame, Knows.Fitting, Knows.Knows}
use Rattle.agent_machine.specs.Machine.{state_in, staged_bytes}
use Rattle.agent_machine.proofs.Known.{state-held}
use Rattle.agent_machine.proofs.Stored.{not-both, nothing-means, nothing-staged, restarted-fitting}

-- the metadata that is stored, in the words of a state that the fields speak of
pub stored-is : (f : Fields) (st : State) (staged : ℕ → List ℕ) (p : List (List ℕ)) → f.meta.meta ≡ meta_in st
    → meta_after f.meta.meta (Switch (next_bank f.meta.meta) [] (bits_kept f.session)) ≡ meta_after (meta_in st)
    (Switch (update_bank st) p (staged_bits (parts_meant f.session staged)))
stored-is f st staged p is =
    ap₂ (λ (m : Meta) (b : ℕ). meta_after m (Switch b [] (bits_kept f.session))) is (next-is st f.meta is)
    ∙ ap (λ (l : List Bool). meta_after (meta_in st) (Switch (update_bank st) [] l)) (bits-meant f.session staged)

-- ---- nothing is staged any more

-- what a flash has of an agent after an end
pub record EndLeaves (f g : Fields) (s t : Told) (next : State) : Type 0 where
  pub known : Knows g t
  pub state_is : state_in g t.now ≡ next
  pub means : MeansSame g.session (staged_bytes f s.now) (staged_bytes g t.now)

module _ (f : Fields) (k : Kept) (meta : MetaRead) (fitting : Fitting f) (restarts : Restarts false f.session k)
    (is : meta ≡ record f.meta { meta = meta_after f.meta.meta (Switch (next_bank f.meta.meta) [] (bits_kept f.session)) }) where
  abbrev L : Layout
  L = f.layout

  abbrev m : Meta
  m = f.meta.meta

  abbrev g : Fields
  g = record f { meta = meta; session = k; trials = 0 }

  whole : MetaFits L m
  whole = meta-fits L m fitting.meta

  meta-is-new : meta.meta ≡ meta_after m (Switch (next_bank m) [] (bits_kept f.session))
  meta-is-new = ap (λ (r : MetaRead). r.meta) is

  next-below : next_bank m < L.banks
  next-below = let lt = mod-lt (m.active + 1) {m = length m.states} (omega (arith, whole.active, whole.states)) in omega (arith, lt, whole.states)

  pub ended-fitting : Fitting g
  ended-fitting =
      restarted-fitting f k meta 0 false fitting restarts
      (subst (λ (x : Meta). IsTrue (fits_meta L x)) (sym meta-is-new)
      (fits-switch L m fitting.meta (next_bank m) [] (bits_kept f.session) next-below
      (bits-count f.session ∙ ap (λ (l : List ImageRow). length l) fitting.rows)))
      (λ on. absurd (not-both k.staging restarts.staging_is on)) (λ on. absurd (not-both k.staging restarts.staging_is on))

  -- the bank that was started is another one than the one switched to
  boot-other : (st : State) → m ≡ meta_in st → f.session.staging ≡ true → f.boot ≢ update_bank st
  boot-other st at staging e =
      let other = next-other (length m.states) m.active (omega (arith, whole.states, (limits L fitting.layout).fewest_banks))
      (omega (arith, whole.active, whole.states)) in
      other (next-is st f.meta at ∙ sym e ∙ fitting.active staging)

  pub ended-held : (st : State) (new : Bank) → m ≡ meta_in st → f.session.staging ≡ true
      → (get_or (set st.banks (update_bank st) new) f.boot no_bank).held ≡ (bank st f.boot).held
  ended-held st new at staging = ap (λ (b : Bank). b.held) (get_or-set_other st.banks (update_bank st) f.boot new no_bank (boot-other st at staging))

  -- ---- where content is told

  module _ (s mid t : Told) (knows : Knows f s) (staging : f.session.staging ≡ true) (state-meta : meta_in (state_in f s.now) ≡ m) (p : List (List ℕ))
      (ends : EndsBy L (state_in f s.now) p (staged_bits (parts_meant f.session (staged_bytes f s.now))) s)
      (clears : Clears {T = Unit {0}} (Ok tt) 3 s mid) (stores : Stores {T = Unit {0}} (Ok tt) L meta.meta mid t) where
    abbrev state : State
    state = state_in f s.now

    abbrev bits : List Bool
    bits = staged_bits (parts_meant f.session (staged_bytes f s.now))

    abbrev next : State
    next = after state (Switch (update_bank state) p bits ∷ [])

    new-is : meta.meta ≡ meta_after (meta_in state) (Switch (update_bank state) p bits)
    new-is = meta-is-new ∙ stored-is f state (staged_bytes f s.now) p (sym state-meta)

    seen : IsShown L t.now next
    seen = ends.shows (Ok tt) mid t clears (subst (λ (x : Meta). Stores {T = Unit {0}} (Ok tt) L x mid t) new-is stores)

    form-two : meta.form ≡ 2
    form-two = ap (λ (r : MetaRead). r.form) is ∙ knows.version

    both : BothHold L meta t.now
    both = subst (λ (n : ℕ). BothHold L (in_version n meta.meta) t.now) (sym form-two) stores.both

    ended-state : state_in g t.now ≡ next
    ended-state = state-held L t.now meta next seen both

    held-same : package_in L t.now f.boot ≡ package_in L s.now f.boot
    held-same =
        package-same L t.now mid.now f.boot stores.writes.keeps.size (λ place above below. stores.writes.keeps.now place (inr (omega (arith, above))))
        ∙ package-same L mid.now s.now f.boot clears.keeps.size (λ place above below. clears.keeps.now place (inr (omega (arith, above))))

    used-same : is_invalid (state_at meta.meta f.boot) ≡ is_invalid (state_at m f.boot)
    used-same =
        ap (λ (x : Meta). is_invalid (state_at x f.boot)) new-is
        ∙ ap is_invalid (get_or-set_other (meta_in state).states (update_bank state) f.boot (state_by bits) Invalid (boot-other state (sym state-meta) staging))
        ∙ ap (λ (x : Meta). is_invalid (state_at x f.boot)) state-meta

    ended-knows : Knows g t
    ended-knows = record {
      layout_is = seen.layout;
      both = both;
      version = form-two;
      used = used-same ∙ knows.used;
      accepted = λ on. absurd (not-both k.staging restarts.staging_is on);
      counter_is = knows.counter_is ∙ sym (ap (λ (x : State). x.counter) ended-state);
      trials_are = sym (ap (λ (x : State). x.trials) ended-state);
      held = ap is_some held-same ∙ knows.held;
      lengths_are = knows.lengths_are ∙ ap (λ (o : Option (List (List ℕ))). map (λ (bytes : List ℕ). length bytes) (held_package o)) (sym held-same);
      staged = nothing-staged g t restarts.nothing;
    }

    -- nothing is staged, whatever the bytes are
    pub ended-leaves : EndLeaves f g s t next
    ended-leaves = record {
      known = ended-knows;
      state_is = ended-state;
      means = nothing-means k (staged_bytes f s.now) (staged_bytes g t.now) restarts.nothing;
    }
