-- What an agent knows after the plan of a begin, an accept or a previous: its fields fit each other, and, where metadata was stored, its flash shows them.
use Rattle.std.proofs.Common.{◌≡◌, ◌≢◌, ℕ, ◌+◌, ◌%◌, ◌<◌, ◌≤◌, Bool, true, false, ◌&&◌, ◌||◌, not, ◌==◌, List, [], get_or, set, replicate, Option, Some, refl, sym, ap, ◌∙◌, arith, IsTrue, IsFalse, eqb-true, get_or-set_same, get_or-set_other}
use Rattle.std.proofs.lemmas.Bool.{not-false}
use Rattle.flash_core.specs.Told.{Told}
use Rattle.fwu_formats.specs.{Layout.Layout, declared.kinds.BankState.TheVariants.Invalid}
use Rattle.fwu_formats.specs.Metadata.{Meta, MetaRead, state_at, fits_meta}
use Rattle.fwu_formats.proofs.SealLaws.{limits}
use Rattle.fwu_model.specs.State.{Free, Accept, Back, is_invalid, is_valid}
use Rattle.fwu_model.specs.MoveMetas.{meta_after, bits_in, accepted_bits}
use Rattle.fwu_model.proofs.Banks.{next-other, next-below}
use Rattle.meta_layout.proofs.Fits.{MetaFits, meta-fits}
use Rattle.moves.proofs.MetaMoves.{fits-free, fits-accept, fits-back}
use Rattle.agent_kept.specs.{declared.kinds.Plan.Plan, declared.parts.Part.Part, declared.parts.Handle.Handle}
use Rattle.agent_kept.specs.Kept.{Kept, HasNothing, Restarts, part_meant, handle_kept}
use Rattle.agent_kept.specs.declared.kinds.Plan.TheVariants as plan
use Rattle.agent_kept.specs.declared.parts.Handle.TheVariants as handle
use Rattle.agent_kept.proofs.{Sounds.frees, Sounds.not-free-reads, After.kept-nothing, After.nothing-open, After.nothing-committed}
use Rattle.agent_state.specs.{Decides.next_bank, Settles.meta_planned}
use Rattle.agent_machine.specs.{Fields.Fields, Fields.target, Machine.staged_bytes, Carries.MeansSame, Knows.Fitting}
use Rattle.agent_machine.specs.{Knows.HasStaged, Stored.MayBegin, Stored.MayAccept, Stored.MayGoBack, Stored.trials_planned}

-- the fields after a plan, with what is kept of the session then
abbrev pub after_plan : Fields → Plan → Kept → Fields
after_plan f p k = record f {
  meta = record f.meta { meta = meta_planned f.session f.meta.meta p };
  session = k;
  trials = trials_planned p (meta_planned f.session f.meta.meta p) f.trials;
}

-- ---- nothing is kept of any image

pub not-both : (b : Bool) → b ≡ false → b ≡ true → ⊥
not-both b f t = absurd (let e : false ≡ true = sym f ∙ t in cc)

pub nothing-staged : (g : Fields) (t : Told) → HasNothing g.session → HasStaged g t
nothing-staged g t none = record {
  kept = kept-nothing g.session (staged_bytes g t.now) none;
  ahead = λ i size hasher lt is. absurd (nothing-open size hasher (sym (none i) ∙ is));
  padded = λ i size digest bit lt is. absurd (nothing-committed size digest bit (sym (none i) ∙ is));
  sure = λ i size digest bit lt is. absurd (nothing-committed size digest bit (sym (none i) ∙ is));
}

-- whatever the bytes are
pub nothing-means : (k : Kept) (staged other : ℕ → List ℕ) → HasNothing k → MeansSame k staged other
nothing-means k staged other none i lt =
    ap (λ (p : Part). part_meant p (other i)) (none i) ∙ sym (ap (λ (p : Part). part_meant p (staged i)) (none i))

pub no-reader : (k : Kept) (place : ℕ) (image : Option ℕ) (at total : ℕ) → k.handles ≡ replicate 32 handle.Free
    → handle_kept k place ≡ handle.Reads image at total → ⊥
no-reader k place image at total closed is = not-free-reads image at total
    (sym (ap (λ (hs : List Handle). get_or hs place handle.Free) closed ∙ frees 32 place) ∙ is)

-- the fields after a restart, with this metadata
pub restarted-fitting : (f : Fields) (k : Kept) (meta : MetaRead) (trials : ℕ) (staging : Bool) → Fitting f
    → Restarts staging f.session k
    → IsTrue (fits_meta f.layout meta.meta) → (k.staging ≡ true → f.boot ≡ meta.meta.active)
    → (k.staging ≡ true → IsTrue (is_invalid (state_at meta.meta (target (record f { meta = meta })))))
    → Fitting (record f { meta = meta; session = k; trials = trials })
restarted-fitting f k meta trials staging fitting restarts fits active free = record {
  layout = fitting.layout;
  meta = fits;
  boot = fitting.boot;
  rows = restarts.rows ∙ fitting.rows;
  lengths = fitting.lengths;
  within = fitting.within;
  rests = fitting.rests;
  active = active;
  free = free;
  readers = λ place image at total is. absurd (no-reader k place image at total restarts.closed is);
  readable = λ place image at total is. absurd (no-reader k place (Some image) at total restarts.closed is);
  idle = λ off. restarts.nothing;
}

-- ---- the banks

module _ (f : Fields) (fitting : Fitting f) where
  abbrev L : Layout
  L = f.layout

  abbrev m : Meta
  m = f.meta.meta

  pub whole : MetaFits L m
  whole = meta-fits L m fitting.meta

  two-banks : 2 ≤ L.banks
  two-banks = (limits L fitting.layout).fewest_banks

  pub target-below : target f < L.banks
  target-below = next-below L.banks m.active two-banks whole.active

  pub target-other : target f ≢ m.active
  target-other = next-other L.banks m.active two-banks whole.active

  pub next-target : next_bank m ≡ target f
  next-target = ap (λ (n : ℕ). (m.active + 1) % n) whole.states

  pub next-below_banks : next_bank m < L.banks
  next-below_banks = omega (arith, next-target, target-below)

  -- ---- what a begin may rest on

  module _ (store : Bool) (may : MayBegin f store) where
    pub begin-booted : f.boot ≡ m.active
    begin-booted = eqb-true _ _ (not-false (f.boot == m.active) (by-or (not f.session.staging && is_valid (state_at m m.active))
        (not (f.boot == m.active)) may.begins).1)
      where
        by-or : (a b : Bool) → (a || b) ≡ false → (a ≡ false) × (b ≡ false)
        by-or true b e = absurd cc
        by-or false b e = (refl, e)

    pub begin-settled : f.session.staging ≡ false → IsFalse (is_valid (state_at m m.active))
    begin-settled off = by f.session.staging (is_valid (state_at m m.active)) (not (f.boot == m.active)) off may.begins
      where
        by : (a b c : Bool) → a ≡ false → ((not a && b) || c) ≡ false → IsFalse b
        by true b c e h = absurd cc
        by false true c e h = absurd cc
        by false false c e h = refl

  -- ---- the fields fit each other

  state-freed : state_at (meta_after m (Free (next_bank m))) (target f) ≡ Invalid
  state-freed =
      ap (λ (b : ℕ). get_or (set m.states b Invalid) (target f) Invalid) next-target
      ∙ get_or-set_same m.states (target f) Invalid Invalid (omega (arith, target-below, whole.states))

  pub state-other : (b : ℕ) → b ≢ target f → state_at (meta_after m (Free (next_bank m))) b ≡ state_at m b
  state-other b ne = get_or-set_other m.states (next_bank m) b Invalid Invalid (λ e. ne (e ∙ next-target))

  pub bits-after : (image : ℕ) → bits_in (meta_after m (Accept image)) m.active ≡ accepted_bits m image
  bits-after image = get_or-set_same m.bits m.active (accepted_bits m image) [] (omega (arith, whole.active, whole.bits))

  pub begun-fitting : (store : Bool) (k : Kept) → MayBegin f store → Restarts true f.session k → Fitting (after_plan f (plan.Begin store) k)
  begun-fitting true k may restarts =
      restarted-fitting f k (record f.meta { meta = meta_after m (Free (next_bank m)) }) f.trials true fitting restarts
      (fits-free L m fitting.meta (next_bank m) next-below_banks) (λ on. begin-booted true may) (λ on. ap is_invalid state-freed)
  begun-fitting false k may restarts =
      restarted-fitting f k f.meta f.trials true fitting restarts fitting.meta (λ on. begin-booted false may) (λ on. may.free refl)

  -- where the session stays, and nothing is staged
  still-fitting : (new : Meta) (trials : ℕ) → f.session.staging ≡ false → IsTrue (fits_meta L new)
      → Fitting (record f { meta = record f.meta { meta = new }; trials = trials })
  still-fitting new trials off fits =
      let active : f.session.staging ≡ true → f.boot ≡ new.active = λ on. absurd (not-both f.session.staging off on) in
      let free : f.session.staging ≡ true → IsTrue (is_invalid (state_at new ((new.active + 1) % L.banks))) =
      λ on. absurd (not-both f.session.staging off on) in
      assumption

  pub accepted-fitting : (image : ℕ) (store : Bool) → MayAccept f image → Fitting (after_plan f (plan.Accept image store) f.session)
  accepted-fitting image true may = still-fitting (meta_after m (Accept image)) _ may.idle (fits-accept L m fitting.meta image)
  accepted-fitting image false may = still-fitting m _ may.idle fitting.meta

  pub back-fitting : MayGoBack f → Fitting (after_plan f plan.Back f.session)
  back-fitting may = still-fitting (meta_after m Back) 0 may.idle (fits-back L m fitting.meta)
