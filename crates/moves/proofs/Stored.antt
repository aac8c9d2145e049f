-- A store of the metadata of a move does this move, from a ready flash and on any flash that shows a state.
-- No exit of it puts a bank in use at risk.
use Rattle.std.proofs.Common.{◌≡◌, ◌≢◌, cond, ℕ, ◌+◌, ◌*◌, ◌<◌, Bool, true, false, List, [], ◌∷◌, length, get_or, set, Some, Result, refl, sym, ap, subst, ◌∙◌, arith, inl, inr, ◌⊎◌, IsTrue, IsFalse, get_or-set_same, get_or-set_other, ◌≤◌, Ok}
use Rattle.std.proofs.lemmas.Bool.{cases_eq}
use Rattle.flash_core.specs.{declared.flash.FlashStop.FlashStop, Told.Told, May.Quiet}
use Rattle.fwu_formats.specs.{declared.kinds.BankState.BankState, Layout.start, Layout.Layout, Metadata.Meta, Metadata.MetaRead}
use Rattle.fwu_formats.specs.{Metadata.state_at, Metadata.meta_read, Manifest.is_complete, Places.trial_limit}
use Rattle.fwu_formats.specs.declared.kinds.BankState.TheVariants.{Accepted, Invalid}
use Rattle.fwu_formats.specs.Image.{deciding, package_in, marks, is_tidy, layout_seen}
use Rattle.fwu_model.specs.{Seen.IsTidy, Seen.state_of, Replica.in_version, Replica.Decides, MoveMetas.meta_after, Calm.IsAtRest}
use Rattle.fwu_model.specs.State.{State, Bank, Move, Free, Switch, Accept, Back, bank, no_bank, is_invalid, is_valid, is_accepted, all_set, state_by, freed, with_bit, update_bank, after_move}
use Rattle.fwu_model.specs.Sound.{Setting, Sound, is_permitted, holds_permitted}
use Rattle.fwu_model.proofs.Banks.{accepted-used, accepted-not_valid, in_range, update-other, update-below, active-below, sound-free, sound-switch, sound-accept, sound-back, next-other, next-below}
use Rattle.meta_layout.proofs.Fits.{MetaFits}
use Rattle.replicas.specs.Stores.{Stores}
use Rattle.moves.specs.Moved.{IsReady, Does, IsShown, ShowsAfter, GuardedBy}
use Rattle.moves.proofs.Agree.{QuietUsed, shown-by, state-is, bank-count, at-used}
use Rattle.moves.proofs.Calm.{calm-shown, calm-sound, calm-tidy}
use Rattle.moves.proofs.MetaMoves.{free-state, switch-state, accept-state, back-state, deciding-fits}
use Rattle.moves.proofs.Repaired.{store-writes, write-each, write-all, write-shows, quiet-after, guarded-by, rest-used, by-result}
use Rattle.std.proofs.lemmas.Option.{same_Some}
use Rattle.std.proofs.lemmas.Result.{on_ok_weaker}
use Rattle.flash_core.proofs.Calls.{guards_kept}
use Rattle.fwu_formats.proofs.{SealLaws.limits, Read.layout-fits}
use Rattle.base_core.specs.Block.{block}

-- the banks that a state has in use are quiet
abbrev pub QuietBanks : Setting → Told → State → Type 0
QuietBanks E t s = (b : ℕ) → IsFalse (is_invalid (bank s b).state) → Quiet (4096 * start E.layout b 0) (4096 * start E.layout (b + 1) 0) t

-- ---- banks in use after a move

used-free : (s : State) (b c : ℕ) → b < length s.banks → IsFalse (is_invalid (bank (after_move s (Free b)) c).state) → IsFalse (is_invalid (bank s c).state)
used-free s b c lt used = elim (cases_eq c b) [
  | inl same ↦ absurd (let e : IsFalse (is_invalid (freed (bank s b)).state) = subst (λ (k : Bank). IsFalse (is_invalid k.state)) (ap (λ (j : ℕ). get_or (set s.banks b (freed (bank s b))) j no_bank) same ∙ get_or-set_same s.banks b (freed (bank s b)) no_bank lt) used in cc)
  | inr ne ↦ subst (λ (k : Bank). IsFalse (is_invalid k.state)) (get_or-set_other s.banks b c (freed (bank s b)) no_bank ne) used
]

-- a bank other than the one that was set is as before
used-set : (s : State) (b c : ℕ) (k : Bank) → IsFalse (is_invalid (get_or (set s.banks b k) c no_bank).state) → (c ≡ b) ⊎ IsFalse (is_invalid (bank s c).state)
used-set s b c k used = elim (cases_eq c b) [
  | inl same ↦ inl same
  | inr ne ↦ inr (subst (λ (x : Bank). IsFalse (is_invalid x.state)) (get_or-set_other s.banks b c k no_bank ne) used)
]

still-valid : (v : Bool) (k : BankState) → IsTrue (is_valid (cond v Accepted k)) → IsTrue (is_valid k)
still-valid true k h = absurd cc
still-valid false k h = h

-- ---- one store

module _ {T : Type 0} (result : Result T FlashStop) (E : Setting) (s t : Told) (state : State) (old : MetaRead) (ready : IsReady E s state) (decided : deciding E.layout s.now ≡ Some old) where
  -- a store that writes the metadata of a move does the move
  pub move-does : (move : Move) (new : Meta) → Stores result E.layout new s t → state_of E.layout s.now (in_version 2 new) ≡ after_move state move → Sound E (after_move state move) → IsTidy s.now (after_move state move) → QuietBanks E s (after_move state move)
      → Does result E state (move ∷ []) t
  move-does move new stores becomes sound tidy quiet =
      let next = after_move state move in
      let used : QuietUsed E.layout new s = λ b lt h. quiet b (at-used E.layout s.now (in_version 2 new) next becomes b lt h) in
      let writes = store-writes result E.layout s t ready.guarded ready.calm.front old new decided (ready.one old decided) stores in
      record {
        each = write-each result E state next old (in_version 2 new) s t ready.calm ready.guarded decided becomes sound tidy used writes (state ∷ next ∷ []) (0, omega arith, refl) (1, omega arith, refl);
        all = write-all result E state next old (in_version 2 new) s t ready.calm ready.guarded decided becomes sound tidy used writes;
      }

module _ {T : Type 0} (result : Result T FlashStop) (E : Setting) (s t : Told) (state : State) (m : Meta) (ready : IsReady E s state) (decided : deciding E.layout s.now ≡ Some (in_version 2 m)) where
  shown : state_of E.layout s.now (in_version 2 m) ≡ state
  shown = shown-by E.layout s.now state (calm-shown E s state ready.calm) (in_version 2 m) decided

  does : (move : Move) → Stores result E.layout (meta_after m move) s t → state_of E.layout s.now (in_version 2 (meta_after m move)) ≡ after_move (state_of E.layout s.now (in_version 2 m)) move → Sound E (after_move state move)
      → IsTidy s.now (after_move state move) → QuietBanks E s (after_move state move) → Does result E state (move ∷ []) t
  does move stores becomes = move-does result E s t state (in_version 2 m) ready decided move (meta_after m move) stores (becomes ∙ ap (λ (x : State). after_move x move) shown)

  whole : MetaFits E.layout m
  whole = deciding-fits E.layout s.now (in_version 2 m) decided

  count : length state.banks ≡ E.layout.banks
  count = bank-count E.layout s.now (in_version 2 m) state shown

  sound-state : Sound E state
  sound-state = calm-sound E s state ready.calm

  active-is : m.active ≡ state.active
  active-is = ap (λ (x : State). x.active) shown

  in-meta : (b : ℕ) → b < length state.banks → (bank state b).state ≡ state_at m b
  in-meta b lt = state-is E.layout s.now (in_version 2 m) state shown b (omega (arith, lt, count))

  pub free-does : IsTrue (is_accepted (bank state state.active).state) → Stores result E.layout (meta_after m (Free (update_bank state))) s t → Does result E state (Free (update_bank state) ∷ []) t
  free-does accepted stores =
      let u = update_bank state in
      let below = update-below E state sound-state in
      let ne : state.active ≢ u = λ e. update-other E state sound-state (sym e) in
      let same : bank (after_move state (Free u)) state.active ≡ bank state state.active = get_or-set_other state.banks u state.active (freed (bank state u)) no_bank ne in
      does (Free u) stores (free-state E.layout s.now m whole u (omega (arith, below, count)) (λ e. ne (sym active-is ∙ e))) (sound-free E state sound-state accepted)
      (λ v. absurd (accepted-not_valid _ accepted (subst (λ (k : Bank). IsTrue (is_valid k.state)) same v)))
      (λ b used. ready.calm.banks b (used-free state u b below used))

  pub accept-does : (i : ℕ) → Stores result E.layout (meta_after m (Accept i)) s t → Does result E state (Accept i ∷ []) t
  accept-does i stores =
      let below = active-below E state sound-state in
      let a = state.active in
      let new = with_bit (bank state a) i in
      let same : bank (after_move state (Accept i)) a ≡ new = get_or-set_same state.banks a new no_bank below in
      let used : IsFalse (is_invalid (state_at m m.active)) = subst (λ (n : ℕ). IsFalse (is_invalid (state_at m n))) (sym active-is) (ap is_invalid (sym (in-meta a below)) ∙ sound-state.in_use) in
      does (Accept i) stores (accept-state E.layout s.now m whole i (omega (arith, below, count, active-is)) used) (sound-accept E state i sound-state)
      (λ v. calm-tidy E s state ready.calm (still-valid (all_set (set (bank state a).bits i true)) (bank state a).state (subst (λ (k : Bank). IsTrue (is_valid k.state)) same v)))
      (λ b h. elim (used-set state a b new h) [
        | inl e ↦ subst (λ (n : ℕ). Quiet (4096 * start E.layout n 0) (4096 * start E.layout (n + 1) 0) s) (sym e) (ready.calm.banks a sound-state.in_use)
        | inr u ↦ ready.calm.banks b u
      ])

  pub back-does : IsTrue (is_accepted (bank state state.previous).state) → IsTrue (holds_permitted E state.counter (bank state state.previous).held) → Stores result E.layout (meta_after m Back) s t → Does result E state (Back ∷ []) t
  back-does accepted permitted stores =
      let previous-is : m.previous ≡ state.previous = ap (λ (x : State). x.previous) shown in
      let below = in_range state.banks state.previous (accepted-used _ accepted) in
      let in_m : IsTrue (is_accepted (state_at m m.previous)) = subst (λ (n : ℕ). IsTrue (is_accepted (state_at m n))) (sym previous-is) (ap is_accepted (sym (in-meta state.previous below)) ∙ accepted) in
      does Back stores (back-state E.layout s.now m whole in_m) (sound-back E state sound-state accepted permitted)
      (λ v. absurd (accepted-not_valid (bank state state.previous).state accepted v))
      ready.calm.banks

  -- The update bank holds the package and is quiet, as after a barrier. Where the new state is valid, so that trials count, the marks are clear.
  pub switch-does : (p : List (List ℕ)) (bits : List Bool) → IsTrue (is_accepted (bank state state.active).state)
      → Quiet (4096 * start E.layout (update_bank state) 0) (4096 * start E.layout (update_bank state + 1) 0) s → package_in E.layout s.now (update_bank state) ≡ Some p
      → length bits ≡ length E.layout.rows → IsTrue (is_complete E.layout.rows p) → IsTrue (is_permitted E state.counter p)
      → (IsTrue (is_valid (state_by bits)) → (marks s.now 3 trial_limit ≡ 0) × IsTrue (is_tidy s.now 3 trial_limit))
      → Stores result E.layout (meta_after m (Switch (update_bank state) p bits)) s t → Does result E state (Switch (update_bank state) p bits ∷ []) t
  switch-does p bits accepted quiet held rows complete permitted cleared stores =
      let u = update_bank state in
      let below = update-below E state sound-state in
      let new : Bank = record { state = state_by bits; bits = bits; held = Some p } in
      let same : bank (after_move state (Switch u p bits)) u ≡ new = get_or-set_same state.banks u new no_bank below in
      does (Switch u p bits) stores (switch-state E.layout s.now m whole u p bits (omega (arith, below, count)) held (λ v. (cleared v).0)) (sound-switch E state p bits sound-state accepted rows complete permitted)
      (λ v. (cleared (subst (λ (k : Bank). IsTrue (is_valid k.state)) same v)).1)
      (λ b h. elim (used-set state u b new h) [
        | inl e ↦ subst (λ (n : ℕ). Quiet (4096 * start E.layout n 0) (4096 * start E.layout (n + 1) 0) s) (sym e) quiet
        | inr used ↦ ready.calm.banks b used
      ])

-- ---- on any flash that shows a state, and at rest

module _ {T : Type 0} (result : Result T FlashStop) (L : Layout) (s t : Told) (state : State) (m : Meta) (shown : IsShown L s.now state) (decided : deciding L s.now ≡ Some (in_version 2 m)) where
  is : state_of L s.now (in_version 2 m) ≡ state
  is = shown-by L s.now state shown (in_version 2 m) decided

  seen-whole : MetaFits L m
  seen-whole = deciding-fits L s.now (in_version 2 m) decided

  plain : (move : Move) → Stores result L (meta_after m move) s t → state_of L s.now (in_version 2 (meta_after m move)) ≡ after_move (state_of L s.now (in_version 2 m)) move → ShowsAfter result L state (move ∷ []) t
  plain move stores becomes = write-shows result L (in_version 2 (meta_after m move)) s t (after_move state move) shown.layout stores.writes.keeps (becomes ∙ ap (λ (x : State). after_move x move) is) stores.both

  seen-count : length state.banks ≡ L.banks
  seen-count = bank-count L s.now (in_version 2 m) state is

  two-banks : 2 ≤ L.banks
  two-banks = (limits L (layout-fits _ _ L shown.layout)).fewest_banks

  seen-active : m.active ≡ state.active
  seen-active = ap (λ (x : State). x.active) is

  seen-below : update_bank state < L.banks
  seen-below = let below = next-below (length state.banks) state.active (omega (arith, two-banks, seen-count)) (omega (arith, seen-whole.active, seen-active, seen-count)) in omega (arith, below, seen-count)

  pub free-shows : Stores result L (meta_after m (Free (update_bank state))) s t → ShowsAfter result L state (Free (update_bank state) ∷ []) t
  free-shows stores =
      let other = next-other (length state.banks) state.active (omega (arith, two-banks, seen-count)) (omega (arith, seen-whole.active, seen-active, seen-count)) in
      plain (Free (update_bank state)) stores (free-state L s.now m seen-whole (update_bank state) seen-below (λ e. other (sym e ∙ seen-active)))

  pub accept-shows : (image : ℕ) → IsFalse (is_invalid (state_at m m.active)) → Stores result L (meta_after m (Accept image)) s t → ShowsAfter result L state (Accept image ∷ []) t
  accept-shows image used stores = plain (Accept image) stores (accept-state L s.now m seen-whole image seen-whole.active used)

  pub back-shows : IsTrue (is_accepted (state_at m m.previous)) → Stores result L (meta_after m Back) s t → ShowsAfter result L state (Back ∷ []) t
  back-shows accepted stores = plain Back stores (back-state L s.now m seen-whole accepted)

  pub switch-shows : (p : List (List ℕ)) (bits : List Bool) → package_in L s.now (update_bank state) ≡ Some p → (IsTrue (is_valid (state_by bits)) → marks s.now 3 trial_limit ≡ 0)
      → Stores result L (meta_after m (Switch (update_bank state) p bits)) s t → ShowsAfter result L state (Switch (update_bank state) p bits ∷ []) t
  switch-shows p bits held cleared stores = plain (Switch (update_bank state) p bits) stores (switch-state L s.now m seen-whole (update_bank state) p bits seen-below held cleared)

-- the states of the active and of the previous bank, by the metadata
module _ (L : Layout) (now : List ℕ) (m : Meta) (state : State) (shown : IsShown L now state) (decided : deciding L now ≡ Some (in_version 2 m)) where
  as-state : state_of L now (in_version 2 m) ≡ state
  as-state = shown-by L now state shown (in_version 2 m) decided

  fits : MetaFits L m
  fits = deciding-fits L now (in_version 2 m) decided

  pub active-at : IsFalse (is_invalid (bank state state.active).state) → IsFalse (is_invalid (state_at m m.active))
  active-at used =
      let active : m.active ≡ state.active = ap (λ (x : State). x.active) as-state in
      ap (λ (b : ℕ). is_invalid (state_at m b)) active ∙ ap is_invalid (sym (state-is L now (in_version 2 m) state as-state state.active (omega (arith, fits.active, active)))) ∙ used

  pub previous-at : IsTrue (is_accepted (bank state state.previous).state) → IsTrue (is_accepted (state_at m m.previous))
  previous-at accepted =
      let previous : m.previous ≡ state.previous = ap (λ (x : State). x.previous) as-state in
      ap (λ (b : ℕ). is_accepted (state_at m b)) previous ∙ ap is_accepted (sym (state-is L now (in_version 2 m) state as-state state.previous (omega (arith, fits.previous, previous)))) ∙ accepted

-- ---- guarded

module _ {T : Type 0} (result : Result T FlashStop) (L : Layout) (s t : Told) (layout : layout_seen s.now ≡ Ok L) (rest : IsAtRest s) (old : MetaRead) (new : Meta) (decided : deciding L s.now ≡ Some old) (one : meta_read L (block 2 s.now) ≡ Some old) (stores : Stores result L new s t) where
  -- On any flash at rest whose replica 1 holds what decides, where the banks in use by the new metadata are quiet.
  pub store-guarded : QuietUsed L new s → GuardedBy result t
  store-guarded used =
      let writes = store-writes result L s t rest.guard rest.front old new decided one stores in
      by-result result t (guarded-by L s layout rest 4096 12288 t (omega arith) (omega arith) writes.keeps (λ image may found has. pick found image has (writes.each image may)))
      (on_ok_weaker result (λ stable. quiet-after 4096 12288 0 32768 s t writes.keeps rest.front stable) writes.quiet)
      (guards_kept 1 7 4096 12288 s t writes.keeps rest.guard)
    where
      pick : (found : MetaRead) (image : List ℕ) → deciding L image ≡ Some found → Decides L old (in_version 2 new) image → QuietUsed L found.meta s
      pick found image has (inl e) = subst (λ (x : MetaRead). QuietUsed L x.meta s) (same_Some old found (sym e ∙ has)) (rest-used L s layout rest old decided)
      pick found image has (inr e) = subst (λ (x : MetaRead). QuietUsed L x.meta s) (same_Some (in_version 2 new) found (sym e ∙ has)) used

-- ---- the moves that put no bank in use that wasn't

pub quiet-free : (L : Layout) (m : Meta) (b : ℕ) (t : Told) → MetaFits L m → b < L.banks → QuietUsed L m t → QuietUsed L (meta_after m (Free b)) t
quiet-free L m b t whole lt quiet = λ c below used.
    elim (cases_eq c b) [
      | inl same ↦ absurd (let e : IsFalse (is_invalid Invalid) = ap is_invalid (sym (here c same)) ∙ used in cc)
      | inr ne ↦ quiet c below (ap is_invalid (sym (there c ne)) ∙ used)
    ]
  where
    here : (c : ℕ) → c ≡ b → state_at (meta_after m (Free b)) c ≡ Invalid
    here c same = ap (state_at (meta_after m (Free b))) same ∙ get_or-set_same m.states b Invalid Invalid (omega (arith, lt, whole.states))

    there : (c : ℕ) → c ≢ b → state_at (meta_after m (Free b)) c ≡ state_at m c
    there c ne = get_or-set_other m.states b c Invalid Invalid ne

-- an accept sets the active bank, which is in use
pub quiet-accept : (L : Layout) (m : Meta) (image : ℕ) (t : Told) → m.active < L.banks → IsFalse (is_invalid (state_at m m.active)) → QuietUsed L m t → QuietUsed L (meta_after m (Accept image)) t
quiet-accept L m image t lt in_use quiet = λ c below used.
    elim (cases_eq c m.active) [
      | inl same ↦ subst (λ (b : ℕ). Quiet (4096 * start L b 0) (4096 * start L (b + 1) 0) t) (sym same) (quiet m.active lt in_use)
      | inr ne ↦ quiet c below (ap is_invalid (sym (there c ne)) ∙ used)
    ]
  where
    there : (c : ℕ) → c ≢ m.active → state_at (meta_after m (Accept image)) c ≡ state_at m c
    there c ne = get_or-set_other m.states m.active c _ Invalid ne

pub quiet-back : (L : Layout) (m : Meta) (t : Told) → QuietUsed L m t → QuietUsed L (meta_after m Back) t
quiet-back L m t quiet = quiet

-- a switch sets one bank, which is quiet
pub quiet-switch : (L : Layout) (m : Meta) (b : ℕ) (p : List (List ℕ)) (bits : List Bool) (t : Told) → Quiet (4096 * start L b 0) (4096 * start L (b + 1) 0) t → QuietUsed L m t → QuietUsed L (meta_after m (Switch b p bits)) t
quiet-switch L m b p bits t here quiet = λ c below used.
    elim (cases_eq c b) [
      | inl same ↦ subst (λ (k : ℕ). Quiet (4096 * start L k 0) (4096 * start L (k + 1) 0) t) (sym same) here
      | inr ne ↦ quiet c below (ap is_invalid (sym (there c ne)) ∙ used)
    ]
  where
    there : (c : ℕ) → c ≢ b → state_at (meta_after m (Switch b p bits)) c ≡ state_at m c
    there c ne = get_or-set_other m.states b c (state_by bits) Invalid ne
