-- An agent that isn't gone shows some machine.
use Rattle.std.proofs.Common.{◌≡◌, ℕ, ◌<◌, ◌==◌, Bool, true, false, cond, List, [], ◌∷◌, length, get_or, take, map, replicate, Option, Some, None, refl, sym, ap, ap₂, ◌∙◌, arith, eq-eqb, ext_get_or, IsTrue}
use Rattle.std.proofs.Math.Logic.{∥∥₁_map}
use Rattle.std.proofs.lemmas.List.{length-replicate, length-map, get_or-map}
use Rattle.std.proofs.lemmas.List.FromFn.{length-map-range_with_len, get_or-map-range_with_len}
use Rattle.base_core.specs.Bytes.{listed}
use Rattle.flash_core.specs.Told.{Told}
use Rattle.fwu_formats.specs.{declared.kinds.BankState.BankState, declared.kinds.BankState.TheVariants.Invalid, Layout.Layout}
use Rattle.fwu_formats.specs.{Metadata.MetaRead, Metadata.state_at, Image.package_in}
use Rattle.fwu_model.specs.{Sound.Setting, Seen.bank_in, Answer.held_package, MoveMetas.meta_in}
use Rattle.fwu_model.specs.State.{State, Bank, bank, no_bank}
use Rattle.meta_layout.proofs.Fits.{meta-fits}
use Rattle.moves.proofs.MetaMoves.{meta-is, deciding-fits}
use Rattle.agent_kept.specs.{Kept.Kept, Kept.IsKept, Kept.session_meant, declared.kinds.Plan.Plan}
use Rattle.agent_state.specs.Settles.{HasTotal, Settles, staged_after}
use Rattle.agent_machine.specs.{Fields.Fields, Machine.state_in, Machine.session_in, Machine.staged_bytes, Knows.Fitting}
use Rattle.agent_machine.specs.{Knows.SessionSound, Knows.Knows, Knows.SomeStaged, Moment.SpeaksOf, Moment.Shows, Moment.Showing}
use Rattle.agent_machine.proofs.{Known.both-decides, Answered.shown-speaks}

-- ---- a state with the numbers that the fields have

-- a package of images with these lengths
abbrev pub package_of : List ℕ → List (List ℕ)
package_of lengths = map (λ (n : ℕ). replicate n 0) lengths

abbrev pub bank_of : Fields → ℕ → Bank
bank_of f b = record {
  state = state_at f.meta.meta b;
  bits = get_or f.meta.meta.bits b [];
  held = cond (b == f.boot) (Some (package_of (take (length f.layout.rows) f.lengths))) None;
}

abbrev pub state_made : Fields → State
state_made f = record {
  form = f.meta.form;
  active = f.meta.meta.active;
  previous = f.meta.meta.previous;
  banks = listed f.layout.banks (bank_of f);
  trials = f.trials;
  counter = f.counter;
}

lengths-made : (lengths : List ℕ) → lengths ≡ map (λ (bytes : List ℕ). length bytes) (package_of lengths)
lengths-made [] = refl
lengths-made (n ∷ lengths) = ap₂ (λ (m : ℕ) (l : List ℕ). m ∷ l) (sym (length-replicate n 0)) (lengths-made lengths)

-- a part of each bank that is listed
listed-parts : {X : Type 0} (n : ℕ) (g : ℕ → Bank) (part : Bank → X) (d : X) (xs : List X) → length xs ≡ n → ((b : ℕ) → part (g b) ≡ get_or xs b d)
    → map part (listed n g) ≡ xs
listed-parts n g part d xs len is =
    let all = listed n g in
    let count = length-map-range_with_len g 0 n in
    let size = length-map all part in
    ext_get_or d (map part all) xs (size ∙ count ∙ sym len) (λ i below.
    let lt : i < n = omega (arith, below, size, count) in
    get_or-map part all i no_bank d (omega (arith, lt, count)) ∙ ap part (get_or-map-range_with_len g 0 n i i no_bank lt (omega arith)) ∙ is i)

module _ (f : Fields) (fitting : Fitting f) where
  made-meta : f.meta.meta ≡ meta_in (state_made f)
  made-meta =
      let whole = meta-fits f.layout f.meta.meta fitting.meta in
      ap₂ (λ (states : List BankState) (bits : List (List Bool)). record f.meta.meta { states = states; bits = bits })
      (sym (listed-parts f.layout.banks (bank_of f) (λ (k : Bank). k.state) Invalid f.meta.meta.states whole.states (λ b. refl)))
      (sym (listed-parts f.layout.banks (bank_of f) (λ (k : Bank). k.bits) [] f.meta.meta.bits whole.bits (λ b. refl)))

  made-held : (bank (state_made f) f.boot).held ≡ Some (package_of (take (length f.layout.rows) f.lengths))
  made-held =
      ap (λ (k : Bank). k.held) (get_or-map-range_with_len (bank_of f) 0 f.layout.banks f.boot f.boot no_bank fitting.boot (omega arith))
      ∙ ap (λ (b : Bool). cond b (Some (package_of (take (length f.layout.rows) f.lengths))) None) (eq-eqb f.boot f.boot refl)

  pub made-speaks : SpeaksOf f (state_made f)
  made-speaks = record {
    banks = length-map-range_with_len (bank_of f) 0 f.layout.banks;
    meta = made-meta;
    form = refl;
    counter_is = refl;
    trials_are = refl;
    lengths_are = lengths-made (take (length f.layout.rows) f.lengths)
        ∙ ap (λ (o : Option (List (List ℕ))). map (λ (bytes : List ℕ). length bytes) (held_package o)) (sym made-held);
  }

  -- the fields speak of the state that a known flash shows
  pub known-speaks : (t : Told) → Knows f t → SpeaksOf f (state_in f t.now)
  known-speaks t knows =
      let L : Layout = f.layout in
      let s : State = state_in f t.now in
      let fits = deciding-fits L t.now f.meta (both-decides L t.now f.meta knows.both) in
      let bank-is : bank s f.boot ≡ bank_in L t.now f.meta.meta f.boot = get_or-map-range_with_len (bank_in L t.now f.meta.meta) 0 L.banks f.boot f.boot
      no_bank fitting.boot (omega arith) in
      let held : (bank s f.boot).held ≡ package_in L t.now f.boot =
      ap (λ (k : Bank). k.held) bank-is ∙ ap (λ (b : Bool). cond b None (package_in L t.now f.boot)) knows.used in
      record {
        banks = length-map-range_with_len (bank_in L t.now f.meta.meta) 0 L.banks;
        meta = sym (meta-is L t.now f.meta s fits refl);
        form = refl;
        counter_is = knows.counter_is;
        trials_are = knows.trials_are;
        lengths_are = knows.lengths_are ∙ ap (λ (o : Option (List (List ℕ))). map (λ (bytes : List ℕ). length bytes) (held_package o)) (sym held);
      }

  -- so the machine of a known flash is shown
  pub known-shows : (tells : Bool) (t : Told) {writes : ℕ → ℕ} → Knows f t
      → Shows (record { tells = tells; told = t; writes = writes; fields = f }) (state_in f t.now) (session_in f t.now)
  known-shows tells t knows = record {
    told = λ is. (refl, refl);
    speaks = known-speaks t knows;
    staged = staged_bytes f t.now;
    kept = knows.staged.kept;
    means = refl;
  }

  -- and on a device that tells nothing each that fits what is kept
  pub made-shows : (t : Told) {writes : ℕ → ℕ} (some : SomeStaged f.session)
      → Shows (record { tells = false; told = t; writes = writes; fields = f }) (state_made f) (session_meant f.session f.boot some.staged)
  made-shows t some = record {
    told = λ is. absurd (let e : false ≡ true = is in cc);
    speaks = made-speaks;
    staged = some.staged;
    kept = some.kept;
    means = refl;
  }

  pub shows-some : (tells : Bool) (t : Told) {writes : ℕ → ℕ} → (IsTrue tells → Knows f t) → ∥ SomeStaged f.session ∥₁
      → ∥ Showing (record { tells = tells; told = t; writes = writes; fields = f }) ∥₁
  shows-some true t knows some = ∣ record { state = state_in f t.now; session = session_in f t.now; shows = known-shows true t (knows refl) } ∣₁
  shows-some false t knows some = ∥∥₁_map some (λ (one : SomeStaged f.session).
      record { state = state_made f; session = session_meant f.session f.boot one.staged; shows = made-shows t one })

-- ---- after a plan

abbrev plain : Fields → Setting
plain f = record { layout = f.layout; files = λ _. None; passes = λ _. true }

module _ (f : Fields) (fitting : Fitting f) (sound : SessionSound f) (bytes : List ℕ) (p : Plan) (new_meta : MetaRead) (k : Kept)
    (settles : Settles f.session f.meta bytes p new_meta k)
    (total : (E : Setting) (s : State) → E.layout ≡ f.layout → SpeaksOf f s → HasTotal E s f.boot p) where
  kept-by : (s : State) (staged : ℕ → List ℕ) → SpeaksOf f s → IsKept f.session staged → IsKept k (staged_after p bytes staged)
  kept-by s staged speaks kept =
      let whole = shown-speaks f fitting sound (plain f) s (λ _. true) staged (record { layout = refl; verifier = refl }) speaks
      kept in
      (settles (plain f) s (λ _. true) f.counter f.boot staged whole (total (plain f) s refl speaks)).spoken.speaks.kept

  -- what is kept afterwards fits some bytes of the staged images
  pub some-after : ∥ SomeStaged f.session ∥₁ → ∥ SomeStaged k ∥₁
  some-after some = ∥∥₁_map some (λ (one : SomeStaged f.session).
      record {
        staged = staged_after p bytes one.staged;
        kept =
            kept-by (state_made f) one.staged (made-speaks f fitting) one.kept;
      })

  -- and those that the flash has, with those of the plan
  pub kept-after : (t : Told) → Knows f t → IsKept k (staged_after p bytes (staged_bytes f t.now))
  kept-after t knows = kept-by (state_in f t.now) (staged_bytes f t.now) (known-speaks f fitting t knows) knows.staged.kept
