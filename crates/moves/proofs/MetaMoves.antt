-- The metadata is of the layout and a function of the state that is shown.
-- What a move writes of it is of the layout too, and read again it is the state after the move.
use Rattle.std.proofs.Common.{◌≡◌, ◌≢◌, ℕ, ◌<◌, Bool, true, false, cond, List, [], get_or, set, map, Option, Some, None, refl, sym, ap, ◌∙◌, arith, inl, inr, length-set, get_or-set_same, get_or-set_other, ext_get_or, IsTrue, IsFalse, length, suc, ◌==◌, ◌∷◌, eq-eqb}
use Rattle.std.proofs.lemmas.Bool.{cases_Bool, cases_eq, and_from}
use Rattle.std.proofs.lemmas.List.FromFn.{length-map-range_with_len, get_or-map-range_with_len}
use Rattle.base_core.specs.{Bytes.listed, Block.block}
use Rattle.fwu_formats.specs.{declared.kinds.BankState.BankState, Layout.Layout, Counter.counter_in, Places.trial_limit}
use Rattle.fwu_formats.specs.declared.kinds.BankState.TheVariants.{Invalid, Valid, Accepted}
use Rattle.fwu_formats.specs.Metadata.{Meta, state_at, MetaRead, meta_read, fits_meta}
use Rattle.fwu_formats.specs.Image.{marks, package_in, deciding}
use Rattle.fwu_model.specs.{Seen.state_of, Seen.bank_in, Replica.in_version}
use Rattle.fwu_model.specs.State.{Bank, bank, no_bank, is_invalid, is_valid, is_accepted, all_set, state_by, freed, with_bit, Free, Switch, Accept, Back, after_move, State}
use Rattle.fwu_model.specs.MoveMetas.{bits_in, accepted_bits, meta_after, meta_in}
use Rattle.meta_layout.proofs.Fits.{MetaFits, meta-fits, read-fits, fits-meta, row-length}
use Rattle.std.proofs.lemmas.Option.{same_Some}
use Rattle.std.proofs.lemmas.List.{length-map, get_or-map}
use Rattle.moves.specs.Moved.{IsShown}
use Rattle.moves.proofs.Agree.{shown-meta}
use Rattle.fwu_formats.proofs.Read.{read-is, first-whole}
use Rattle.std.specs.List.{list_all}

-- a bank with this state and these bits
abbrev pub bank_with : Layout → List ℕ → ℕ → BankState → List Bool → Bank
bank_with L image b state bits = record { state = state; bits = bits; held = cond (is_invalid state) None (package_in L image b) }

bank-with : (L : Layout) (image : List ℕ) (b : ℕ) (x y : BankState) (xs ys : List Bool) → x ≡ y → xs ≡ ys → bank_with L image b x xs ≡ bank_with L image b y ys
bank-with L image b x y xs ys p q = ap (λ (k : BankState). bank_with L image b k xs) p ∙ ap (λ (l : List Bool). bank_with L image b y l) q

pub by-used : (bits : List Bool) → IsFalse (is_invalid (state_by bits))
by-used bits = elim (cases_Bool (all_set bits)) [ inl e ↦ rw e refl | inr e ↦ rw e refl ]

module _ (L : Layout) (image : List ℕ) (m : Meta) (whole : MetaFits L m) where
  pub bank-at : (b : ℕ) → b < L.banks → bank (state_of L image (in_version 2 m)) b ≡ bank_in L image m b
  bank-at b lt = get_or-map-range_with_len (bank_in L image m) 0 L.banks b b no_bank lt (omega arith)

  -- where one bank's state and bits were set
  module _ (other : Meta) (b : ℕ) (state : BankState) (bits : List Bool) (states-are : other.states ≡ set m.states b state) (bits-are : other.bits ≡ set m.bits b bits) (lt : b < L.banks) where
    pub state-here : state_at other b ≡ state
    state-here = ap (λ (l : List BankState). get_or l b Invalid) states-are ∙ get_or-set_same m.states b state Invalid (omega (arith, lt, whole.states))

    pub state-there : (c : ℕ) → c ≢ b → state_at other c ≡ state_at m c
    state-there c ne = ap (λ (l : List BankState). get_or l c Invalid) states-are ∙ get_or-set_other m.states b c state Invalid ne

    bits-here : bits_in other b ≡ bits
    bits-here = ap (λ (l : List (List Bool)). get_or l b []) bits-are ∙ get_or-set_same m.bits b bits [] (omega (arith, lt, whole.bits))

    bits-there : (c : ℕ) → c ≢ b → bits_in other c ≡ bits_in m c
    bits-there c ne = ap (λ (l : List (List Bool)). get_or l c []) bits-are ∙ get_or-set_other m.bits b c bits [] ne

    here : bank_in L image other b ≡ bank_with L image b state bits
    here = bank-with L image b _ _ _ _ state-here bits-here

    there : (c : ℕ) → c ≢ b → bank_in L image other c ≡ bank_in L image m c
    there c ne = bank-with L image c _ _ _ _ (state-there c ne) (bits-there c ne)

    pub banks-set : listed L.banks (bank_in L image other) ≡ set (listed L.banks (bank_in L image m)) b (bank_with L image b state bits)
    banks-set =
        let old = listed L.banks (bank_in L image m) in
        let k = bank_with L image b state bits in
        let left = length-map-range_with_len (bank_in L image other) 0 L.banks in
        let right = length-set old b k ∙ length-map-range_with_len (bank_in L image m) 0 L.banks in
        ext_get_or no_bank (listed L.banks (bank_in L image other)) (set old b k) (left ∙ sym right) (λ i below.
        let in_range : i < L.banks = omega (arith, below, left) in
        get_or-map-range_with_len (bank_in L image other) 0 L.banks i i no_bank in_range (omega arith)
        ∙ elim (cases_eq i b) [
          | inl same ↦ ap (bank_in L image other) same ∙ here ∙ sym (get_or-set_same old b k no_bank (omega (arith, lt, length-map-range_with_len (bank_in L image m) 0 L.banks))) ∙ ap (λ (j : ℕ). get_or (set old b k) j no_bank) (sym same)
          | inr ne ↦ there i ne ∙ sym (get_or-map-range_with_len (bank_in L image m) 0 L.banks i i no_bank in_range (omega arith)) ∙ sym (get_or-set_other old b i k no_bank ne)
        ])

    -- the whole state
    pub state-set : (k : Bank) (trials : ℕ) → bank_with L image b state bits ≡ k → cond (is_valid (state_at other other.active)) (marks image 3 trial_limit) 0 ≡ trials
        → state_of L image (in_version 2 other) ≡ record { form = 2; active = other.active; previous = other.previous; banks = set (state_of L image (in_version 2 m)).banks b k; trials = trials; counter = counter_in image }
    state-set k trials is tries =
        ap (λ (x : List Bank × ℕ). record { form = 2; active = other.active; previous = other.previous; banks = x.0; trials = x.1; counter = counter_in image })
        (double (banks-set ∙ ap (set (listed L.banks (bank_in L image m)) b) is) tries)
      where
        double : {x y : List Bank} {c d : ℕ} → x ≡ y → c ≡ d → ◌≡◌ {A = List Bank × ℕ} (x, c) (y, d)
        double p q = cc

  -- ---- the moves

  pub free-state : (b : ℕ) → b < L.banks → m.active ≢ b → state_of L image (in_version 2 (meta_after m (Free b))) ≡ after_move (state_of L image (in_version 2 m)) (Free b)
  free-state b lt ne =
      let bits = map (λ (bit : Bool). false) (bits_in m b) in
      let other = meta_after m (Free b) in
      state-set other b Invalid bits refl refl lt (freed (bank (state_of L image (in_version 2 m)) b)) (state_of L image (in_version 2 m)).trials
      (ap freed (sym (bank-at b lt)))
      (ap (λ (k : BankState). cond (is_valid k) (marks image 3 trial_limit) 0) (state-there other b Invalid bits refl refl lt m.active ne))

  pub switch-state : (b : ℕ) (p : List (List ℕ)) (bits : List Bool) → b < L.banks → package_in L image b ≡ Some p → (IsTrue (is_valid (state_by bits)) → marks image 3 trial_limit ≡ 0)
      → state_of L image (in_version 2 (meta_after m (Switch b p bits))) ≡ after_move (state_of L image (in_version 2 m)) (Switch b p bits)
  switch-state b p bits lt held no_marks =
      let other = meta_after m (Switch b p bits) in
      state-set other b (state_by bits) bits refl refl lt (record { state = state_by bits; bits = bits; held = Some p }) 0
      (rw (by-used bits) (ap (λ (o : Option (List (List ℕ))). record { state = state_by bits; bits = bits; held = o }) held))
      (ap (λ (k : BankState). cond (is_valid k) (marks image 3 trial_limit) 0) (state-here other b (state_by bits) bits refl refl lt) ∙ none (is_valid (state_by bits)) no_marks)
    where
      none : (v : Bool) → (IsTrue v → marks image 3 trial_limit ≡ 0) → cond v (marks image 3 trial_limit) 0 ≡ 0
      none true h = h refl
      none false h = refl

  pub accept-state : (image_index : ℕ) → m.active < L.banks → IsFalse (is_invalid (state_at m m.active)) → state_of L image (in_version 2 (meta_after m (Accept image_index))) ≡ after_move (state_of L image (in_version 2 m)) (Accept image_index)
  accept-state i lt used =
      let s = state_of L image (in_version 2 m) in
      let bits = accepted_bits m i in
      let state = cond (all_set bits) Accepted (state_at m m.active) in
      let other = meta_after m (Accept i) in
      state-set other m.active state bits refl refl lt (with_bit (bank s m.active) i) (cond (all_set (with_bit (bank s m.active) i).bits) 0 s.trials)
      (same_bank (all_set bits) bits refl ∙ ap (λ (k : Bank). with_bit k i) (sym (bank-at m.active lt)))
      (ap (λ (k : BankState). cond (is_valid k) (marks image 3 trial_limit) 0) (state-here other m.active state bits refl refl lt)
      ∙ tries (all_set bits) ∙ ap (λ (k : Bank). cond (all_set (with_bit k i).bits) 0 s.trials) (sym (bank-at m.active lt)))
    where
      old : BankState
      old = state_at m m.active

      same_bank : (v : Bool) (bits : List Bool) → bits ≡ accepted_bits m i → bank_with L image m.active (cond v Accepted old) bits ≡ record { state = cond v Accepted old; bits = bits; held = (bank_in L image m m.active).held }
      same_bank true bits e = rw used refl
      same_bank false bits e = refl

      tries : (v : Bool) → cond (is_valid (cond v Accepted old)) (marks image 3 trial_limit) 0 ≡ cond v 0 (state_of L image (in_version 2 m)).trials
      tries true = refl
      tries false = refl

  pub back-state : IsTrue (is_accepted (state_at m m.previous)) → state_of L image (in_version 2 (meta_after m Back)) ≡ after_move (state_of L image (in_version 2 m)) Back
  back-state accepted =
      ap (λ (n : ℕ). record { form = 2; active = m.previous; previous = m.active; banks = (state_of L image (in_version 2 m)).banks; trials = n; counter = counter_in image }) (none (state_at m m.previous) accepted)
    where
      none : (k : BankState) → IsTrue (is_accepted k) → cond (is_valid k) (marks image 3 trial_limit) 0 ≡ 0
      none Valid h = absurd cc
      none other h = refl

pub deciding-of_layout : (L : Layout) (image : List ℕ) (r : MetaRead) → deciding L image ≡ Some r → IsTrue (fits_meta L r.meta)
unfolding deciding
deciding-of_layout L image r e =
    elim (first-whole (meta_read L (block 1 image)) (meta_read L (block 2 image)) r e) [
      | inl zero ↦ read-fits L (block 1 image) r (read-is L (block 1 image) r zero)
      | inr one ↦ read-fits L (block 2 image) r (read-is L (block 2 image) r one)
    ]

pub deciding-fits : (L : Layout) (image : List ℕ) (r : MetaRead) → deciding L image ≡ Some r → MetaFits L r.meta
deciding-fits L image r e = meta-fits L r.meta (deciding-of_layout L image r e)

-- a part of each bank, as the metadata lists it
parts-are : {X : Type 0} (L : Layout) (image : List ℕ) (m : Meta) (part : Bank → X) (d : X) (xs : List X) → length xs ≡ L.banks → ((b : ℕ) → part (bank_in L image m b) ≡ get_or xs b d) → map part (listed L.banks (bank_in L image m)) ≡ xs
parts-are L image m part d xs len is =
    let all = listed L.banks (bank_in L image m) in
    let count = length-map-range_with_len (bank_in L image m) 0 L.banks in
    let size = length-map all part in
    ext_get_or d (map part all) xs (size ∙ count ∙ sym len) (λ i below.
    let lt : i < L.banks = omega (arith, below, size, count) in
    get_or-map part all i no_bank d (omega (arith, lt, count)) ∙ ap part (get_or-map-range_with_len (bank_in L image m) 0 L.banks i i no_bank lt (omega arith)) ∙ is i)

pub meta-is : (L : Layout) (image : List ℕ) (r : MetaRead) (s : State) → MetaFits L r.meta → state_of L image r ≡ s → meta_in s ≡ r.meta
meta-is L image r s whole is =
    ap meta_in (sym is)
    ∙ ap (λ (x : List BankState × List (List Bool)). record { active = r.meta.active; previous = r.meta.previous; states = x.0; bits = x.1 })
    (double (parts-are L image r.meta (λ (k : Bank). k.state) Invalid r.meta.states whole.states (λ b. refl)) (parts-are L image r.meta (λ (k : Bank). k.bits) [] r.meta.bits whole.bits (λ b. refl)))
  where
    double : {a b : List BankState} {c d : List (List Bool)} → a ≡ b → c ≡ d → ◌≡◌ {A = List BankState × List (List Bool)} (a, c) (b, d)
    double p q = cc

-- what decides, by the state that is shown
pub shown-decides : (L : Layout) (image : List ℕ) (s : State) → IsShown L image s → deciding L image ≡ Some (in_version s.form (meta_in s))
shown-decides L image s shown =
    let found = shown-meta L image s shown in
    let r = found.0 in
    let meta = meta-is L image r s (deciding-fits L image r found.1) found.2 in
    let version : r.form ≡ s.form = ap (λ (x : State). x.form) found.2 in
    found.1 ∙ ap (λ (n : ℕ). Some (in_version n r.meta)) version ∙ ap (λ (m : Meta). Some (in_version s.form m)) (sym meta)

-- the same in version 2
pub two-decides : (L : Layout) (image : List ℕ) (s : State) → IsShown L image s → s.form ≡ 2 → deciding L image ≡ Some (in_version 2 (meta_in s))
two-decides L image s shown two = shown-decides L image s shown ∙ ap (λ (n : ℕ). Some (in_version n (meta_in s))) two

-- the metadata that decides is that of the state, so a call that has written it knows it
pub meta-held : (L : Layout) (image : List ℕ) (s : State) (m : Meta) (form : ℕ) → IsShown L image s → deciding L image ≡ Some (in_version form m) → meta_in s ≡ m
meta-held L image s m form shown decided = ap (λ (r : MetaRead). r.meta) (same_Some (in_version s.form (meta_in s)) (in_version form m) (sym (shown-decides L image s shown) ∙ decided))

-- ---- the metadata after a move is of the layout where the metadata before is

rows-all : (n : ℕ) (rows : List (List Bool)) → ((b : ℕ) → b < length rows → length (get_or rows b []) ≡ n) → IsTrue (list_all (λ row. length row == n) rows)
rows-all n [] each = refl
rows-all n (row ∷ rows) each = and_from _ _ (eq-eqb (length row) n (each 0 (omega arith))) (rows-all n rows (λ b lt. each (suc b) (omega (arith, lt))))

fits-from : (L : Layout) (m : Meta) → m.active < L.banks → m.previous < L.banks → length m.states ≡ L.banks → length m.bits ≡ L.banks → ((b : ℕ) → b < L.banks → length (bits_in m b) ≡ length L.rows) → IsTrue (fits_meta L m)
fits-from L m active previous states bits rows = fits-meta L m (record { active = active; previous = previous; states = states; bits = bits; rows = rows-all (length L.rows) m.bits (λ b lt. rows b (omega (arith, lt, bits))) })

module _ (L : Layout) (m : Meta) (fits : IsTrue (fits_meta L m)) where
  whole : MetaFits L m
  whole = meta-fits L m fits

  set-rows : (b : ℕ) (bits : List Bool) → b < L.banks → length bits ≡ length L.rows → (c : ℕ) → c < L.banks → length (get_or (set m.bits b bits) c []) ≡ length L.rows
  set-rows b bits lt len c below = elim (cases_eq c b) [
    | inl same ↦ ap (λ (i : ℕ). length (get_or (set m.bits b bits) i [])) same ∙ ap length (get_or-set_same m.bits b bits [] (omega (arith, lt, whole.bits))) ∙ len
    | inr ne ↦ ap length (get_or-set_other m.bits b c bits [] ne) ∙ row-length L m c whole below
  ]

  pub fits-free : (b : ℕ) → b < L.banks → IsTrue (fits_meta L (meta_after m (Free b)))
  fits-free b lt =
      let bits = map (λ (bit : Bool). false) (bits_in m b) in
      fits-from L (meta_after m (Free b)) whole.active whole.previous (length-set m.states b Invalid ∙ whole.states) (length-set m.bits b bits ∙ whole.bits)
      (set-rows b bits lt (length-map (bits_in m b) (λ (bit : Bool). false) ∙ row-length L m b whole lt))

  pub fits-switch : (b : ℕ) (p : List (List ℕ)) (bits : List Bool) → b < L.banks → length bits ≡ length L.rows → IsTrue (fits_meta L (meta_after m (Switch b p bits)))
  fits-switch b p bits lt len =
      fits-from L (meta_after m (Switch b p bits)) lt whole.active (length-set m.states b (state_by bits) ∙ whole.states) (length-set m.bits b bits ∙ whole.bits) (set-rows b bits lt len)

  pub fits-accept : (image : ℕ) → IsTrue (fits_meta L (meta_after m (Accept image)))
  fits-accept image =
      let bits = accepted_bits m image in
      fits-from L (meta_after m (Accept image)) whole.active whole.previous (length-set m.states m.active _ ∙ whole.states) (length-set m.bits m.active bits ∙ whole.bits)
      (set-rows m.active bits whole.active (length-set (bits_in m m.active) image true ∙ row-length L m m.active whole whole.active))

  pub fits-back : IsTrue (fits_meta L (meta_after m Back))
  fits-back = fits-from L (meta_after m Back) whole.previous whole.active whole.states whole.bits (λ c below. row-length L m c whole below)
