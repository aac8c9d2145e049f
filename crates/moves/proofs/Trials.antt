-- A mark in block 3, a record of the counter and cleared marks, as the machine sees them: a trial, the counter raised, and no change.
use Rattle.std.proofs.Common.{◌≡◌, inl, inr, ℕ, ◌+◌, ◌*◌, ◌<◌, cond, Bool, List, [], ◌∷◌, Some, Result, refl, sym, ap, ◌∙◌, arith, IsTrue, ◌⊎◌, Option, None, ◌-◌, ◌≤◌, take, drop, Ok, IsFalse}
use Rattle.std.proofs.lemmas.Result.{on_ok_weaker}
use Rattle.flash_core.specs.{declared.flash.FlashStop.FlashStop, Told.Told, May.May, May.Keeps, May.Quiet}
use Rattle.flash_core.proofs.{Calls.keeps_wider, Calls.may_now, Calls.guards_kept, Costs.on_ok_both}
use Rattle.fwu_formats.specs.{Layout.Layout, Metadata.MetaRead, Metadata.state_at, Places.trial_limit, Manifest.version}
use Rattle.fwu_formats.specs.{Counter.counter_in, declared.kinds.BankState.BankState, declared.kinds.BankState.TheVariants.Valid}
use Rattle.fwu_formats.specs.Image.{deciding, marks, layout_seen, is_tidy, is_blank}
use Rattle.fwu_model.specs.{Sound.Setting, Sound.Sound, Sound.holds_permitted, Seen.IsTidy, Seen.state_of, Headline.ShowsOneOf}
use Rattle.fwu_model.specs.{Answer.held_package, Answer.booted_package, Calm.IsAtRest}
use Rattle.fwu_model.specs.State.{State, Trial, bank, is_valid, after_move, RaiseTo, is_accepted}
use Rattle.fwu_model.proofs.Banks.{sound-trial, held_version, accepted-not_valid, sound-raise, accepted-used}
use Rattle.marks_core.specs.Marks.{Adds, IsNextMark, CountsOnce, Raises, Clears}
use Rattle.moves.specs.Moved.{IsReady, IsShown, Does, ShowsAfter, GuardedBy}
use Rattle.moves.proofs.Agree.{Agrees, agrees-now, beside-shows, counter-agrees, shown-meta, shown-counter, marks-agree, state-is, used-below}
use Rattle.moves.proofs.Beside.{active-valid, marks-are-trials, beside-agrees, beside-ready, trials-are, stays-ready}
use Rattle.moves.proofs.Calm.{calm-shown, calm-sound, calm-tidy, one-of}
use Rattle.moves.proofs.Repaired.{by-result, guarded-beside, quiet-after}
use Rattle.std.proofs.lemmas.List.{take-replicate, take-take, drop-take, drop-drop}
use Rattle.base_core.specs.Block.{block, blank, granule}
use Rattle.base_core.proofs.Blocks.{drop-blank}
use Rattle.fwu_formats.proofs.Marks.{marks-are-counted}

-- the next mark may go where the trials say
pub next-trial : (L : Layout) (now : List ℕ) (state : State) (at : ℕ) → IsShown L now state → IsTidy now state → IsTrue (is_valid (bank state state.active).state) → at ≡ state.trials → at < trial_limit → IsNextMark now 3 at trial_limit
next-trial L now state at shown tidy valid at_is below = record { below = below; few = omega arith; count = marks-are-trials L now state shown valid ∙ sym at_is; tidy = tidy valid }

-- by the count of its marks, an image shows the state with so many trials
count-shows : (L : Layout) (now image : List ℕ) (r : MetaRead) (state : State) (n : ℕ) → IsShown L now state → deciding L now ≡ Some r → state_of L now r ≡ state → IsTrue (is_valid (bank state state.active).state) → Agrees L r.meta 12288 16384 now image
    → marks image 3 trial_limit ≡ n → IsShown L image (record state { trials = n; counter = state.counter })
count-shows L now image r state n shown decided is valid agree marked =
    beside-shows L r 12288 16384 now image state n state.counter (omega arith) agree shown.layout decided is
    (ap (λ (v : Bool). cond v (marks image 3 trial_limit) 0) (active-valid L now r state is valid) ∙ marked)
    (counter-agrees L r 12288 16384 now image agree (inr (omega arith)) ∙ shown-counter L now state shown)

module _ {T : Type 0} (result : Result T FlashStop) (s t : Told) (state : State) (at : ℕ) (valid : IsTrue (is_valid (bank state state.active).state)) (at_is : at ≡ state.trials) (below : at < trial_limit) (adds : Adds result 3 at s t) where
  keeps : Keeps 12288 16384 s t
  keeps = keeps_wider (4096 * 3 + 16 * at) (4096 * 3 + 16 * at + 16) 12288 16384 s t (omega arith) (omega (arith, below)) adds.keeps

  more : at + 1 ≡ state.trials + 1
  more = ap (λ (n : ℕ). n + 1) at_is

  -- On any flash that shows a state and is tidy, one more start on trial is counted when done.
  pub trial-shows : (L : Layout) → IsShown L s.now state → IsTidy s.now state → ShowsAfter result L state (Trial ∷ []) t
  trial-shows L shown tidy =
      let found = shown-meta L s.now state shown in
      on_ok_weaker result (λ (one : marks t.now 3 trial_limit ≡ at + 1).
      count-shows L s.now t.now found.0 state (state.trials + 1) shown found.1 found.2 valid (agrees-now L found.0.meta 12288 16384 s t (omega arith) keeps) (one ∙ more))
      (adds.one_more trial_limit (next-trial L s.now state at shown tidy valid at_is below))

  module _ (E : Setting) (ready : IsReady E s state) where
    abbrev next : State
    next = after_move state Trial

    shown : IsShown E.layout s.now state
    shown = calm-shown E s state ready.calm

    quiet : Quiet (4096 * 3) (4096 * 3 + 4096) s
    quiet i low high = ready.calm.front i (omega (arith, low)) (omega (arith, high))

    counts : (image : List ℕ) → May t image → CountsOnce image 3 at trial_limit
    counts image may = adds.either trial_limit (next-trial E.layout s.now state at shown (calm-tidy E s state ready.calm) valid at_is below) quiet image may

    shows-count : (image : List ℕ) → May t image → (n : ℕ) → marks image 3 trial_limit ≡ n → IsShown E.layout image (record state { trials = n; counter = state.counter })
    shows-count image may n marked =
        let found = shown-meta E.layout s.now state shown in
        count-shows E.layout s.now image found.0 state n shown found.1 found.2 valid (beside-agrees 12288 16384 E s t state next (omega arith) (omega arith) keeps ready found.0 found.2 image may.leaves) marked

    image-shows : (image : List ℕ) → May t image → ShowsOneOf E (state ∷ next ∷ []) image
    image-shows image may =
        let once = counts image may in
        elim once.count [
          | inl as_old ↦ one-of E (state ∷ next ∷ []) state image (0, omega arith, refl) (shows-count image may state.trials (as_old ∙ at_is)) (calm-sound E s state ready.calm) (λ v. once.tidy)
          | inr one ↦ one-of E (state ∷ next ∷ []) next image (1, omega arith, refl) (shows-count image may (state.trials + 1) (one ∙ more)) (sound-trial E state (calm-sound E s state ready.calm)) (λ v. once.tidy)
        ]

    -- From a ready flash: the trial, or at a stop maybe none.
    pub trial-does : Does result E state (Trial ∷ []) t
    trial-does = record {
      each = image-shows;
      all = on_ok_weaker result
          (λ done. beside-ready 12288 16384 E s t state next (omega arith) (omega arith) keeps ready
          (shows-count t.now (may_now t) (state.trials + 1) (done.0 ∙ more)) (sound-trial E state (calm-sound E s state ready.calm)) (λ v. (counts t.now (may_now t)).tidy) done.1)
          (on_ok_both _ _ result (adds.one_more trial_limit (next-trial E.layout s.now state at shown (calm-tidy E s state ready.calm) valid at_is below)) adds.stable);
    }

-- ---- a record of the counter, written over the lower one

-- a package that a permitted bank holds has the version that boot tells
same-version : (E : Setting) (counter : ℕ) (held : Option (List (List ℕ))) → IsTrue (holds_permitted E counter held) → version (held_package held) ≡ held_version held
same-version E counter None permitted = absurd cc
same-version E counter (Some p) permitted = refl

-- by its counter, an image shows the state with that counter
counter-shows : (L : Layout) (now image : List ℕ) (r : MetaRead) (state : State) (n : ℕ) → IsShown L now state → deciding L now ≡ Some r → state_of L now r ≡ state → Agrees L r.meta 20480 28672 now image
    → counter_in image ≡ n → IsShown L image (record state { trials = state.trials; counter = n })
counter-shows L now image r state n shown-now decided is agree count =
    beside-shows L r 20480 28672 now image state state.trials n (omega arith) agree shown-now.layout decided is
    (ap (λ (k : ℕ). cond (is_valid (state_at r.meta r.meta.active)) k 0) (marks-agree L r 20480 28672 now image agree 3 trial_limit (omega arith) (inl (omega arith)) (omega arith)) ∙ trials-are L now r state is)
    count

module _ {T : Type 0} (result : Result T FlashStop) (v : ℕ) (s t : Told) (state : State) (raises : Raises result v s t) where
  -- On any flash that shows a state, the counter is the new one when done.
  pub raise-shows : (L : Layout) → IsShown L s.now state → ShowsAfter result L state (RaiseTo v ∷ []) t
  raise-shows L shown-now =
      let found = shown-meta L s.now state shown-now in
      on_ok_weaker result (λ (done : counter_in t.now ≡ v). counter-shows L s.now t.now found.0 state v shown-now found.1 found.2 (agrees-now L found.0.meta 20480 28672 s t (omega arith) raises.keeps) done) raises.done

  module _ (E : Setting) (ready : IsReady E s state) (accepted : IsTrue (is_accepted (bank state state.active).state)) (v_is : v ≡ version (booted_package state state.active)) where
    abbrev raised : State
    raised = after_move state (RaiseTo v)

    shown-now : IsShown E.layout s.now state
    shown-now = calm-shown E s state ready.calm

    sound-now : Sound E state
    sound-now = calm-sound E s state ready.calm

    sound-next : Sound E raised
    sound-next = let e = same-version E state.counter (bank state state.active).held sound-now.permitted in sound-raise E state v sound-now accepted (omega (arith, v_is, e))

    shows-counter : (image : List ℕ) → May t image → (n : ℕ) → counter_in image ≡ n → IsShown E.layout image (record state { trials = state.trials; counter = n })
    shows-counter image may n count =
        let found = shown-meta E.layout s.now state shown-now in
        counter-shows E.layout s.now image found.0 state n shown-now found.1 found.2 (beside-agrees 20480 28672 E s t state raised (omega arith) (omega arith) raises.keeps ready found.0 found.2 image may.leaves) count

    -- no trials are counted of an accepted bank
    no-trials : (image : List ℕ) → IsTidy image state
    no-trials image valid = absurd (accepted-not_valid (bank state state.active).state accepted valid)

    by-counter : (image : List ℕ) → May t image → (counter_in image ≡ counter_in s.now) ⊎ (counter_in image ≡ v) → ShowsOneOf E (state ∷ raised ∷ []) image
    by-counter image may (inl as_old) = one-of E (state ∷ raised ∷ []) state image (0, omega arith, refl) (shows-counter image may state.counter (as_old ∙ shown-counter E.layout s.now state shown-now)) sound-now (no-trials image)
    by-counter image may (inr as_new) = one-of E (state ∷ raised ∷ []) raised image (1, omega arith, refl) (shows-counter image may v as_new) sound-next (no-trials image)

    -- From a ready flash: the raise, or at a stop maybe none.
    pub raise-does : Does result E state (RaiseTo v ∷ []) t
    raise-does = record {
      each = λ image may. by-counter image may (raises.either (λ b low high. ready.guarded b (omega (arith, low)) (omega (arith, high))) (λ i low high. ready.calm.front i (omega arith) (omega (arith, high))) image may);
      all = on_ok_weaker result
          (λ done. beside-ready 20480 28672 E s t state raised (omega arith) (omega arith) raises.keeps ready (shows-counter t.now (may_now t) v done.0) sound-next (no-trials t.now) done.1)
          (on_ok_both _ _ result raises.done raises.stable);
    }

-- ---- the trial marks cleared while no bank is on trial: no change is seen

-- ---- an erased block has no marks

granule-part : (image : List ℕ) (b k : ℕ) → k < 256 → granule b k image ≡ take 16 (drop (16 * k) (block b image))
unfolding block granule
granule-part image b k lt =
    let whole = drop (4096 * b) image in
    let split : 16 * k + (4096 - 16 * k) ≡ 4096 = omega (arith, lt) in
    ap (take 16) (sym (drop-drop (16 * k) (4096 * b) image)) ∙ sym (take-take 16 (4096 - 16 * k) (drop (16 * k) whole) (omega (arith, lt))) ∙ ap (take 16) (sym (drop-take (16 * k) (4096 - 16 * k) whole))
    ∙ ap (λ (n : ℕ). take 16 (drop (16 * k) (take n whole))) split

sixteen : (n : ℕ) → 16 ≤ n → IsTrue (is_blank (take 16 (blank n)))
unfolding blank
sixteen n le = ap is_blank (take-replicate 16 n 255 le) ∙ refl

blank-at : (image : List ℕ) (b k : ℕ) → block b image ≡ blank 4096 → k < 256 → IsTrue (is_blank (granule b k image))
blank-at image b k is lt =
    ap is_blank (granule-part image b k lt) ∙ ap (λ (bytes : List ℕ). is_blank (take 16 (drop (16 * k) bytes))) is ∙ ap (λ (l : List ℕ). is_blank (take 16 l)) (drop-blank (16 * k) 4096) ∙ sixteen (4096 - 16 * k) (omega (arith, lt))

pub blank-marks : (image : List ℕ) (b : ℕ) → block b image ≡ blank 4096 → marks image b trial_limit ≡ 0
blank-marks image b is = marks-are-counted.is image b trial_limit 0 (omega arith) (λ k lt. absurd (omega (arith, lt))) (λ lt. blank-at image b 0 is (omega arith))

pub blank-tidy : (image : List ℕ) (b : ℕ) → block b image ≡ blank 4096 → IsTrue (is_tidy image b trial_limit)
blank-tidy image b is = marks-are-counted.where_blank image b trial_limit (λ j low high. blank-at image b j is (omega (arith, high)))

-- ---- the call

not-valid : (k : BankState) → IsTrue (is_accepted k) → IsFalse (is_valid k)
not-valid Valid h = absurd cc
not-valid other h = refl

active-accepted : (L : Layout) (now : List ℕ) (r : MetaRead) (s : State) → state_of L now r ≡ s → IsTrue (is_accepted (bank s s.active).state) → IsFalse (is_valid (state_at r.meta r.meta.active))
active-accepted L now r s is accepted =
    let active : r.meta.active ≡ s.active = ap (λ (x : State). x.active) is in
    let below = used-below L now r s is s.active (accepted-used _ accepted) in
    ap (λ (b : ℕ). is_valid (state_at r.meta b)) active ∙ ap is_valid (sym (state-is L now r s is s.active below)) ∙ not-valid _ accepted

-- no marks count while the active bank is accepted
cleared-shows : (L : Layout) (now image : List ℕ) (r : MetaRead) (s : State) → IsShown L now s → deciding L now ≡ Some r → state_of L now r ≡ s → IsTrue (is_accepted (bank s s.active).state) → Agrees L r.meta 12288 16384 now image → IsShown L image s
cleared-shows L now image r s shown decided is accepted agree =
    let off = active-accepted L now r s is accepted in
    beside-shows L r 12288 16384 now image s s.trials s.counter (omega arith) agree shown.layout decided is
    (ap (λ (v : Bool). cond v (marks image 3 trial_limit) 0) off ∙ sym (ap (λ (v : Bool). cond v (marks now 3 trial_limit) 0) off) ∙ trials-are L now r s is)
    (counter-agrees L r 12288 16384 now image agree (inr (omega arith)) ∙ shown-counter L now s shown)

module _ {T : Type 0} (result : Result T FlashStop) (s t : Told) (state : State) (accepted : IsTrue (is_accepted (bank state state.active).state)) (clears : Clears result 3 s t) where
  -- On any flash that shows a state, at any exit.
  pub clear-shows : (L : Layout) → IsShown L s.now state → IsShown L t.now state
  clear-shows L shown = let found = shown-meta L s.now state shown in cleared-shows L s.now t.now found.0 state shown found.1 found.2 accepted (agrees-now L found.0.meta 12288 16384 s t (omega arith) clears.keeps)

  module _ (E : Setting) (ready : IsReady E s state) where
    shows : (image : List ℕ) → May t image → IsShown E.layout image state
    shows image may =
        let shown = calm-shown E s state ready.calm in
        let found = shown-meta E.layout s.now state shown in
        cleared-shows E.layout s.now image found.0 state shown found.1 found.2 accepted (beside-agrees 12288 16384 E s t state state (omega arith) (omega arith) clears.keeps ready found.0 found.2 image may.leaves)

    tidy : (image : List ℕ) → IsTidy image state
    tidy image v = absurd (accepted-not_valid (bank state state.active).state accepted v)

    -- From a ready flash: nothing is seen of it.
    pub clear-does : Does result E state [] t
    clear-does = record {
      each = λ image may. one-of E (state ∷ []) state image (0, omega arith, refl) (shows image may) (calm-sound E s state ready.calm) (tidy image);
      all = on_ok_weaker result
          (λ (quiet : Quiet (4096 * 3) (4096 * 3 + 4096) t).
          let inside : Quiet 12288 16384 t = λ i low high. quiet i (omega (arith, low)) (omega (arith, high)) in
          stays-ready 12288 16384 E s t state state (omega arith) (omega arith) clears.keeps ready (shows t.now (may_now t)) (calm-sound E s state ready.calm) (tidy t.now)
          (quiet-after 12288 16384 0 32768 s t clears.keeps ready.calm.front inside)
          (λ b used. quiet-after 12288 16384 _ _ s t clears.keeps (ready.calm.banks b used) inside))
          (clears.quiet (λ i low high. ready.calm.front i (omega (arith, low)) (omega (arith, high))));
    }

-- On any flash at rest.
pub clear-guarded : {T : Type 0} (result : Result T FlashStop) (L : Layout) (s t : Told) → layout_seen s.now ≡ Ok L → IsAtRest s → Clears result 3 s t → GuardedBy result t
clear-guarded result L s t layout rest clears =
    by-result result t (guarded-beside L s layout rest 12288 16384 t (omega arith) (omega arith) clears.keeps (omega arith))
    (on_ok_weaker result (λ (quiet : Quiet (4096 * 3) (4096 * 3 + 4096) t). quiet-after 12288 16384 0 32768 s t clears.keeps rest.front (λ i low high. quiet i (omega (arith, low)) (omega (arith, high))))
    (clears.quiet (λ i low high. rest.front i (omega arith) (omega (arith, high)))))
    (guards_kept 1 7 12288 16384 s t clears.keeps rest.guard)
