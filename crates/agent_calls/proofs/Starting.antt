-- What an agent knows that starts from a bank that was booted.
use Rattle.std.proofs.Common.{◌≡◌, ℕ, ◌+◌, ◌-◌, ◌*◌, ◌<◌, min, false, List, [], length, get_or, take, replicate, None, sym, ap, ◌∙◌, subst, arith, IsTrue}
use Rattle.std.proofs.lemmas.List.{nil_from_length, length-take, take_all, get_or-take}
use Rattle.flash_core.specs.Told.{Told}
use Rattle.fwu_formats.specs.{Layout.Layout, Layout.fits_layout, Metadata.MetaRead, Metadata.fits_meta}
use Rattle.early_boot.specs.{Knows.KnowsStarted, Choosing.LengthsFitSlots, Tells.Started}
use Rattle.agent_kept.specs.{declared.parts.Handle.Handle, declared.parts.Handle.TheVariants.Free}
use Rattle.agent_kept.specs.Kept.{Kept, IsKept, HasNothing, part_at, handle_kept, size_of}
use Rattle.agent_kept.proofs.Sounds.{frees, restarts-idle}
use Rattle.fwu_model.specs.{State.State, Session.Session, Session.On, Session.no_handles}
use Rattle.agent_machine.specs.{Moment.Moment, Moment.Shows, Fields.Fields, Knows.Fitting, Knows.Knows, Knows.SomeStaged}
use Rattle.agent_machine.specs.Machine.{staged_bytes, state_in, session_in}
use Rattle.agent_machine.proofs.{Known.state-held, Showing.known-shows}
use Rattle.moves.specs.Moved.{IsShown}

-- bytes of which nothing is kept
pub nothing-kept : (k : Kept) → HasNothing k → (staged : ℕ → List ℕ) → IsKept k staged
nothing-kept k nothing staged = record {
  opened = λ i size hasher lt is. absurd (cc (nothing i));
  committed = λ i size digest bit lt is. absurd (cc (nothing i));
  front = none (take (size_of (part_at k 0)) (staged 0)) (omega (arith, length-take (size_of (part_at k 0)) (staged 0), ap size_of (nothing 0)));
}
  where
    none : (l : List ℕ) → length l ≡ 0 → take (min (48 + 56 * (length k.rows - 1)) (length l)) k.front ≡ take (48 + 56 * (length k.rows - 1)) l
    none l empty =
        ap (λ (n : ℕ). take n k.front) (let e : min (48 + 56 * (length k.rows - 1)) (length l) ≡ 0 = omega (arith, empty) in e)
        ∙ sym (nil_from_length l empty)
        ∙ sym (take_all (48 + 56 * (length k.rows - 1)) l (omega (arith, empty)))

pub starts-some : (k : Kept) → HasNothing k → ∥ SomeStaged k ∥₁
starts-some k nothing = ∣ record { staged = λ i. []; kept = nothing-kept k nothing (λ i. []) } ∣₁

module _ (f : Fields) (rows : f.session.rows ≡ f.layout.rows) (nothing : HasNothing f.session) (idle : f.session.staging ≡ false)
    (closed : f.session.handles ≡ replicate 32 Free) where
  free : (place : ℕ) → handle_kept f.session place ≡ Free
  free place = ap (λ (hs : List Handle). get_or hs place Free) closed ∙ frees 32 place

  pub starts-fitting : IsTrue (fits_layout f.layout) → IsTrue (fits_meta f.layout f.meta.meta) → f.boot < f.layout.banks → length f.lengths ≡ 16
      → (lengths : List ℕ) → take (length lengths) f.lengths ≡ lengths → length lengths ≡ length f.layout.rows
      → LengthsFitSlots f.layout lengths → length f.rests ≡ 16 → Fitting f
  starts-fitting fits meta below long lengths front count within rests = record {
    layout = fits;
    meta = meta;
    boot = below;
    rows = rows;
    lengths = long;
    within = λ image lt.
        let same : get_or f.lengths image 0 ≡ get_or lengths image 0 = sym (get_or-take (length lengths) f.lengths image 0 (omega (arith, lt, count)))
        ∙ ap (λ (l : List ℕ). get_or l image 0) front in
        omega (arith, same, within image lt);
    rests = rests;
    active = λ is. absurd cc;
    free = λ is. absurd cc;
    idle = λ off. nothing;
    readers = λ place image at total is. absurd (cc (free place));
    readable = λ place image at total is. absurd (cc (free place));
  }

  pub starts-known : (t : Told) (b : Started) → f.layout ≡ b.layout → f.meta ≡ b.meta → f.boot ≡ b.bank → f.trials ≡ b.trials → f.counter ≡ b.counter
      → take (length b.lengths) f.lengths ≡ b.lengths → length b.lengths ≡ length f.layout.rows
      → KnowsStarted b t → Knows f t
  starts-known t b layout meta bank trials counter front count started =
      let one = subst (λ (L : Layout). KnowsStarted (record b { layout = L }) t) (sym layout) started in
      let two = subst (λ (m : MetaRead). KnowsStarted (record b { layout = f.layout; meta = m }) t) (sym meta) one in
      let known = subst (λ (n : ℕ). KnowsStarted (record b { layout = f.layout; meta = f.meta; bank = n }) t) (sym bank) two in
      record {
        layout_is = known.layout_is;
        both = known.both;
        version = known.form_two;
        used = known.used;
        accepted = λ is. absurd cc;
        counter_is = counter ∙ known.counter_is;
        trials_are = trials ∙ known.trials_are;
        held = known.held;
        lengths_are = ap (λ (n : ℕ). take n f.lengths) (sym count) ∙ front ∙ known.lengths_are;
        staged = record {
          kept = nothing-kept f.session nothing (staged_bytes f t.now);
          ahead = λ i size hasher lt is. absurd (cc (nothing i));
          padded = λ i size digest bit lt is. absurd (cc (nothing i));
          sure = λ i size digest bit lt is. absurd (cc (nothing i));
        };
      }

-- each machine that is shown has nothing staged, and no handle open
pub starts-session : (m : Moment) (bank : ℕ) → m.fields.boot ≡ bank → m.fields.session.staging ≡ false → m.fields.session.handles ≡ replicate 32 Free
    → (s : State) (x : Session) → Shows m s x → x ≡ On bank None no_handles
starts-session m bank boot idle closed s x shows = shows.means ∙ restarts-idle m.fields.session m.fields.boot shows.staged idle closed
    ∙ ap (λ (b : ℕ). On b None no_handles) boot

-- what is known shows the state of the flash, with the one session that any is shown with
pub starts-shows : (m : Moment) (x : Session) → Fitting m.fields → Knows m.fields m.told → ((s : State) (y : Session) → Shows m s y → y ≡ x)
    → (s : State) → IsShown m.fields.layout m.told.now s → Shows m s x
starts-shows m x fitting knows only s shown =
    let f : Fields = m.fields in
    let one : Shows m (state_in f m.told.now) (session_in f m.told.now) = known-shows f fitting m.tells m.told knows in
    let same : Shows m (state_in f m.told.now) x = subst (λ (y : Session). Shows m (state_in f m.told.now) y) (only _ _ one) one in
    subst (λ (y : State). Shows m y x) (state-held f.layout m.told.now f.meta s shown knows.both) same
