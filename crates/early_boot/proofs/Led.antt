-- What a call with moves leaves: calls that write nothing, the three writes of a start, and which moves a start is.
use Rattle.std.proofs.Common.{◌≡◌, inl, inr, ℕ, ◌+◌, ◌*◌, ◌<◌, ◌≤◌, eqb, eq-eqb, eqb-true, ltb, ltb-true, cond, Bool, true, false, List, [], ◌∷◌, length, Option, Some, None, Result, Ok, Err, refl, sym, ap, subst, ◌∙◌, arith, IsTrue}
use Rattle.std.proofs.lemmas.Bool.{cond_both}
use Rattle.std.proofs.lemmas.Result.{IfOk-from_err, on_ok_weaker}
use Rattle.std.specs.Prelude.{IsErr, OnOk}
use Rattle.flash_core.specs.{declared.flash.FlashStop.FlashStop, Told.Told, May.Keeps}
use Rattle.base_core.specs.Block.{block}
use Rattle.flash_core.proofs.Calls.{keeps_same, keeps_wider}
use Rattle.fwu_formats.specs.{Layout.Layout, Manifest.version, Image.marks, Counter.counter_in, declared.kinds.BankState.BankState}
use Rattle.fwu_formats.specs.Metadata.{fits_meta, state_at, meta_read}
use Rattle.fwu_formats.specs.declared.kinds.BankState.TheVariants.{Invalid, Valid, Accepted}
use Rattle.fwu_model.specs.{Calm.IsGuarded, Answer.booted_package, Answer.chosen_moves, Answer.start_moves}
use Rattle.fwu_model.specs.State.{State, Bank, Move, Trial, RaiseTo, bank, is_valid, is_accepted}
use Rattle.marks_core.proofs.{Counting.blank_at_count, Recording.unwritten}
use Rattle.marks_core.specs.Marks.{Adds, Raises}
use Rattle.moves.specs.Moved.{IsShown, GuardedBy}
use Rattle.moves.proofs.{Composed.does-nothing, Composed.does-idle, Repaired.trial-guarded, Repaired.raise-guarded}
use Rattle.moves.proofs.Agree.{shown-as, shown-counter, counter-agrees, layout-kept, marks-agree, block-agrees, decides-agrees, front-kept, no_meta}
use Rattle.moves.proofs.Trials.{trial-does, trial-shows, raise-does, raise-shows}
use Rattle.meta_layout.proofs.Fits.{meta-fits}
use Rattle.early_boot.specs.{declared.choosing.Chosen.Chosen, declared.showing.Shown.Shown}
use Rattle.early_boot.specs.declared.counting_starts.Counting.{Counting}
use Rattle.early_boot.specs.Showing.{ShowsImage, state_shown, trials_in}
use Rattle.early_boot.specs.Starting.{count_moves, IsStartOf, Leads, WritesMove, WritesMoves, counting_in, counting_of, with_counts}
use Rattle.replicas.specs.Which.{Finds}
use Rattle.early_boot.specs.declared.counting_starts.Counting.TheVariants as counting
use Rattle.early_boot.proofs.Lookups.{bank-is}

-- a stop from which the flash is guarded
pub guarded-stop : {T : Type 0} (result : Result T FlashStop) (t : Told) → IsErr result → IsGuarded t → GuardedBy result t
guarded-stop (Ok x) t err guarded = absurd cc
guarded-stop (Err stop) t err guarded = guarded

pub on-ok : {T : Type 0} (result : Result T FlashStop) (A : Type 0) → A → OnOk result A
on-ok (Ok x) A a = a
on-ok (Err e) A a = tt

-- a call that wrote nothing, and is done
pub leads-nothing : {T : Type 0} (x : T) (L : Layout) (state : State) (s : Told) → IsShown L s.now state → Leads {T = T} (Ok x) L state [] s s
leads-nothing x L state s shown = record {
  keeps = keeps_same 12288 28672 s;
  writes = refl;
  counter = shown-counter L s.now state shown;
  shows = λ tidy. shown;
  does = λ E ready. does-nothing (Ok x) E state s ready;
  guarded = λ rest. rest;
}

-- and one that stopped before it wrote
module _ {T : Type 0} (result : Result T FlashStop) (s : Told) (room : 32768 ≤ length s.now) (err : IsErr result) where
  never : (A : Type 0) → OnOk result A
  never A = IfOk-from_err result (λ x. A) err

  idle-start : (k : BankState) (counter v at : ℕ) → WritesMoves result (start_moves k counter v) at s s
  idle-start Invalid counter v at = refl
  idle-start Valid counter v at =
      record { keeps = keeps_same (4096 * 3 + 16 * at) (4096 * 3 + 16 * at + 16) s; one_more = never _; stable = never _ }
  idle-start Accepted counter v at =
      cond_both (ltb counter v) (RaiseTo v ∷ []) [] (λ (ms : List Move). WritesMoves result ms at s s)
      (λ e. record { keeps = keeps_same 20480 28672 s; record_is = unwritten result _ s room err; counter = never _ }) (λ e. refl)

  idle-count : (state : State) (o : Option ℕ) (at : ℕ) → WritesMoves result (count_moves state o) at s s
  idle-count state None at = refl
  idle-count state (Some b) at =
      cond_both (eqb b state.active) (start_moves (bank state b).state state.counter (version (booted_package state b))) [] (λ (ms : List Move). WritesMoves result ms at s s)
      (λ e. idle-start (bank state b).state state.counter (version (booted_package state b)) at) (λ e. refl)

  pub leads-idle : (L : Layout) (state : State) (o : Option ℕ) → Leads result L state (count_moves state o) s s
  leads-idle L state o = record {
    keeps = keeps_same 12288 28672 s;
    writes = idle-count state o state.trials;
    counter = never _;
    shows = λ tidy. never _;
    does = λ E ready. does-idle result E state (count_moves state o) s err ready.calm;
    guarded = λ rest. guarded-stop result s err rest.guarded;
  }

-- ---- by another result

-- where one that is done passes what it holds on
guarded-at : {T U : Type 0} (given : Result T FlashStop) (result : Result U FlashStop) (t : Told)
    → ((A : Type 0) → OnOk given A → OnOk result A) → GuardedBy given t → GuardedBy result t
guarded-at (Ok x) (Ok y) t pass guarded = guarded
guarded-at (Ok x) (Err why) t pass rest = rest.guarded
guarded-at (Err stop) (Ok y) t pass guarded = absurd (pass ⊥ tt)
guarded-at (Err stop) (Err why) t pass guarded = guarded

module _ {T U : Type 0} (given : Result T FlashStop) (result : Result U FlashStop)
    (pass : (A : Type 0) → OnOk given A → OnOk result A) where
  writes-move : (m : Move) (at : ℕ) (s t : Told) → WritesMove given m at s t → WritesMove result m at s t
  writes-move Trial at s t writes =
      record { keeps = writes.keeps; one_more = pass _ writes.one_more; stable = pass _ writes.stable }
  writes-move (RaiseTo v) at s t writes = record {
    keeps = writes.keeps;
    record_is = record { keeps = writes.record_is.keeps; either = writes.record_is.either; ok = pass _ writes.record_is.ok };
    counter = pass _ writes.counter;
  }
  writes-move q at s t writes = absurd writes

  pub writes-at : (ms : List Move) (at : ℕ) (s t : Told) → WritesMoves given ms at s t → WritesMoves result ms at s t
  writes-at [] at s t writes = writes
  writes-at (m ∷ ms) at s t writes = writes-move m at s t writes

  leads-at : (L : Layout) (state : State) (ms : List Move) (s t : Told) → Leads given L state ms s t → Leads result L state ms s t
  leads-at L state ms s t leads = record {
    keeps = leads.keeps;
    writes = writes-at ms state.trials s t leads.writes;
    counter = pass _ leads.counter;
    shows = λ tidy. pass _ (leads.shows tidy);
    does = λ E ready. record { each = (leads.does E ready).each; all = pass _ (leads.does E ready).all };
    guarded = λ rest. guarded-at given result t pass (leads.guarded rest);
  }

-- the same at another value, or where a later read stopped
pub leads-done : {T U : Type 0} (x : T) (result : Result U FlashStop) (L : Layout) (state : State) (ms : List Move) (s t : Told) → Leads {T = T} (Ok x) L state ms s t → Leads result L state ms s t
leads-done x result = leads-at (Ok x) result (on-ok result)

pub leads-stopped : {T U : Type 0} (stop : FlashStop) (result : Result U FlashStop) (L : Layout) (state : State) (ms : List Move) (s t : Told) → IsErr result → Leads {T = T} (Err stop) L state ms s t → Leads result L state ms s t
leads-stopped {T} stop result L state ms s t err =
    leads-at {T = T} (Err stop) result (λ A a. IfOk-from_err result (λ x. A) err) L state ms s t

-- ---- what a start is counted as

-- as moves of the machine, for a package of version v
abbrev counting_moves : Counting → ℕ → List Move
counting_moves counting.Nothing v = []
counting_moves counting.Trial v = Trial ∷ []
counting_moves counting.Raise v = RaiseTo v ∷ []

-- what is known of a start that is counted as this
abbrev Counted : Shown → Chosen → Counting → Type 0
Counted shown c counting.Nothing = Unit {0}
Counted shown c counting.Trial = (c.bank ≡ shown.meta.meta.active) × (state_at shown.meta.meta shown.meta.meta.active ≡ Valid)
Counted shown c counting.Raise =
    (c.bank ≡ shown.meta.meta.active) × (state_at shown.meta.meta shown.meta.meta.active ≡ Accepted) × (shown.counter < c.version)

pub counted-in : (shown : Shown) (c : Chosen) (what : Counting) → counting_in shown c ≡ what → Counted shown c what
counted-in shown c what is =
    subst (Counted shown c) is
    (cond_both (eqb c.bank shown.meta.meta.active)
    (counting_of (state_at shown.meta.meta shown.meta.meta.active) shown.counter c.version) counting.Nothing (Counted shown c)
    (λ e. by-state (state_at shown.meta.meta shown.meta.meta.active) refl (eqb-true c.bank shown.meta.meta.active e)) (λ e. tt))
  where
    by-state : (k : BankState) → state_at shown.meta.meta shown.meta.meta.active ≡ k → c.bank ≡ shown.meta.meta.active
        → Counted shown c (counting_of k shown.counter c.version)
    by-state Invalid e here = tt
    by-state Valid e here = (here, e)
    by-state Accepted e here =
        cond_both (ltb shown.counter c.version) counting.Raise counting.Nothing (Counted shown c)
        (λ below. (here, e, ltb-true shown.counter c.version below)) (λ above. tt)

-- ---- by what is shown

module _ (shown : Shown) (s : Told) (shows : ShowsImage s.now shown) (fits : IsTrue (fits_meta shown.layout shown.meta.meta)) where
  abbrev state : State
  state = state_shown s.now shown

  abbrev active : ℕ
  active = shown.meta.meta.active

  pub is-shown : IsShown shown.layout s.now state
  is-shown = shown-as shown.layout s.now shown.meta state shows.layout_is shows.loads.decides refl

  pub active-is : (bank state active).state ≡ state_at shown.meta.meta active
  active-is = ap (λ (k : Bank). k.state) (bank-is shown.layout s.now shown.meta active (meta-fits shown.layout shown.meta.meta fits).active)

  pub active-in : (k : BankState) → state_at shown.meta.meta active ≡ k → (bank state active).state ≡ k
  active-in k is = active-is ∙ is

  -- while the active bank is on trial, its trials are the marks
  pub counted-by : state_at shown.meta.meta active ≡ Valid → shown.trials ≡ marks s.now 3 3
  counted-by valid = shows.trials_are ∙ ap (λ (v : Bool). cond v (marks s.now 3 3) 0) (ap is_valid valid)

  module _ {T : Type 0} (result : Result T FlashStop) (t : Told) where
    pub leads-trial : state_at shown.meta.meta active ≡ Valid → shown.trials < 3 → Adds result 3 shown.trials s t → Leads result shown.layout state (Trial ∷ []) s t
    leads-trial valid left adds =
        let on_trial : IsTrue (is_valid (bank state state.active).state) = ap is_valid (active-in Valid valid) in
        record {
          keeps = keeps_wider (4096 * 3 + 16 * shown.trials) (4096 * 3 + 16 * shown.trials + 16) 12288 28672 s t (omega arith) (omega (arith, left)) adds.keeps;
          writes = subst (λ (at : ℕ). WritesMoves result (Trial ∷ []) at s t) shows.trials_are
              (record { keeps = adds.keeps; one_more = on_ok_weaker result (λ zero. record { below = left; blank = blank_at_count s.now 3 3 shown.trials (counted-by valid) left; mark = zero }) adds.written; stable = adds.stable });
          counter = on-ok result (counter_in t.now ≡ counter_in s.now) (counter-agrees shown.layout no_meta 12288 16384 s.now t.now (front-kept shown.layout 12288 16384 s t (keeps_wider (4096 * 3 + 16 * shown.trials) (4096 * 3 + 16 * shown.trials + 16) 12288 16384 s t (omega arith) (omega (arith, left)) adds.keeps)) (inr (omega arith)));
          shows = λ tidy. trial-shows result s t state shown.trials on_trial shows.trials_are left adds shown.layout is-shown tidy;
          does = λ E ready. trial-does result s t state shown.trials on_trial shows.trials_are left adds E ready;
          guarded = λ rest. trial-guarded shown.layout s shows.layout_is rest result t shown.trials left adds;
        }

    pub leads-raise : (v : ℕ) → state_at shown.meta.meta active ≡ Accepted → v ≡ version (booted_package state active) → Raises result v s t → Leads result shown.layout state (RaiseTo v ∷ []) s t
    leads-raise v accepted is raises =
        record {
          keeps = keeps_wider 20480 28672 12288 28672 s t (omega arith) (omega arith) raises.keeps;
          writes = record { keeps = raises.keeps; record_is = raises.writes; counter = raises.done };
          counter = raises.done;
          shows = λ tidy. raise-shows result v s t state raises shown.layout is-shown;
          does = λ E ready. raise-does result v s t state raises E ready (ap is_accepted (active-in Accepted accepted)) is;
          guarded = λ rest. raise-guarded shown.layout s shows.layout_is rest result t v raises;
        }

  -- ---- which moves a start is

  of-active : (b : ℕ) → b ≡ active → chosen_moves state b ≡ start_moves (state_at shown.meta.meta active) shown.counter (version (booted_package state b))
  of-active b here =
      ap (λ (same : Bool). cond same (start_moves (bank state b).state state.counter (version (booted_package state b))) []) (eq-eqb b active here)
      ∙ ap (λ (k : BankState). start_moves k state.counter (version (booted_package state b))) (ap (λ (a : ℕ). (bank state a).state) here ∙ active-is)
      ∙ ap (λ (n : ℕ). start_moves (state_at shown.meta.meta active) n (version (booted_package state b))) (sym shows.counter_is)

  -- what a start is counted as is the machine's move
  counting-is : (c : Chosen) → IsStartOf state c → counting_moves (counting_in shown c) c.version ≡ chosen_moves state c.bank
  counting-is c start = by-place (eqb c.bank active) refl
    where
      by-test : (test : Bool) → counting_moves (cond test counting.Raise counting.Nothing) c.version ≡ cond test (RaiseTo c.version ∷ []) []
      by-test true = refl
      by-test false = refl

      by-state : (k : BankState) → counting_moves (counting_of k shown.counter c.version) c.version ≡ start_moves k shown.counter c.version
      by-state Accepted = by-test (ltb shown.counter c.version)
      by-state other = refl

      by-place : (here : Bool) → eqb c.bank active ≡ here → counting_moves (cond here (counting_of (state_at shown.meta.meta active) shown.counter c.version) counting.Nothing) c.version ≡ chosen_moves state c.bank
      by-place true e =
          by-state (state_at shown.meta.meta active) ∙ ap (start_moves (state_at shown.meta.meta active) shown.counter) start.version_is ∙ sym (of-active c.bank (eqb-true c.bank active e))
      by-place false e = sym (ap (λ (same : Bool). cond same (start_moves (bank state c.bank).state state.counter (version (booted_package state c.bank))) []) e)

  -- a trial is one of the active bank, which has some left
  pub trials-left : (c : Chosen) → counting_in shown c ≡ counting.Trial → IsStartOf state c → shown.trials < 3
  trials-left c is start =
      let here = counted-in shown c counting.Trial is in
      let in_state : IsTrue (is_valid (bank state c.bank).state) = ap (λ (b : ℕ). is_valid (bank state b).state) here.0 ∙ ap is_valid (active-in Valid here.1) in
      let left = start.left here.0 in_state in
      omega (arith, left, shows.trials_are)

  -- and a raise one to the version of the active bank
  version-active : (c : Chosen) → counting_in shown c ≡ counting.Raise → IsStartOf state c → c.version ≡ version (booted_package state active)
  version-active c is start =
      start.version_is ∙ ap (λ (b : ℕ). version (booted_package state b)) (counted-in shown c counting.Raise is).0

  -- ---- what a start of what was chosen writes, by what it is counted as

  module _ (c : Chosen) (start : IsStartOf state c) where
    moves-are : (what : Counting) → counting_in shown c ≡ what → counting_moves what c.version ≡ chosen_moves state c.bank
    moves-are what is = ap (λ (w : Counting). counting_moves w c.version) (sym is) ∙ counting-is c start

    pub start-nothing : {T : Type 0} (x : T) → counting_in shown c ≡ counting.Nothing → Leads {T = T} (Ok x) shown.layout state (chosen_moves state c.bank) s s
    start-nothing {T} x is = subst (λ (ms : List Move). Leads {T = T} (Ok x) shown.layout state ms s s) (moves-are counting.Nothing is) (leads-nothing x shown.layout state s is-shown)

    module _ {T : Type 0} (result : Result T FlashStop) (t : Told) where
      pub start-trial : counting_in shown c ≡ counting.Trial → Adds result 3 shown.trials s t → Leads result shown.layout state (chosen_moves state c.bank) s t
      start-trial is adds =
          subst (λ (ms : List Move). Leads result shown.layout state ms s t) (moves-are counting.Trial is)
          (leads-trial result t (counted-in shown c counting.Trial is).1 (trials-left c is start) adds)

      pub start-raise : counting_in shown c ≡ counting.Raise → Raises result c.version s t → Leads result shown.layout state (chosen_moves state c.bank) s t
      start-raise is raises =
          subst (λ (ms : List Move). Leads result shown.layout state ms s t) (moves-are counting.Raise is)
          (leads-raise result t c.version (counted-in shown c counting.Raise is).1 (version-active c is start) raises)

  -- ---- what is shown once a start was counted

  pub shows-later : (t : Told) (trials counter : ℕ) → Keeps 12288 28672 s t → trials ≡ trials_in t.now shown.meta.meta → counter ≡ counter_in t.now → ShowsImage t.now (with_counts shown trials counter)
  shows-later t trials counter keeps tries count =
      let agree = front-kept shown.layout 12288 28672 s t keeps in
      let zero = block-agrees shown.layout no_meta 12288 28672 s.now t.now agree 1 (omega arith) (inl (omega arith)) in
      let one = block-agrees shown.layout no_meta 12288 28672 s.now t.now agree 2 (omega arith) (inl (omega arith)) in
      record {
        layout_is = layout-kept shown.layout 12288 28672 s t (omega arith) keeps shows.layout_is;
        loads = record {
          decides = decides-agrees shown.layout no_meta 12288 28672 s.now t.now agree (omega arith) ∙ shows.loads.decides;
          finds = subst (λ (bytes : List ℕ). Finds shown.which shown.meta (meta_read shown.layout bytes) (meta_read shown.layout (block 2 t.now))) (sym zero)
              (subst (λ (bytes : List ℕ). Finds shown.which shown.meta (meta_read shown.layout (block 1 s.now)) (meta_read shown.layout bytes)) (sym one) shows.loads.finds);
        };
        trials_are = tries;
        counter_is = count;
      }

  -- after a record the marks are as before
  pub trials-stay : (t : Told) → Keeps (4096 * 5) (4096 * 7) s t → shown.trials ≡ trials_in t.now shown.meta.meta
  trials-stay t keeps =
      let agree = front-kept shown.layout (4096 * 5) (4096 * 7) s t keeps in
      shows.trials_are
      ∙ ap (λ (n : ℕ). cond (is_valid (state_at shown.meta.meta active)) n 0) (sym (marks-agree shown.layout no_meta (4096 * 5) (4096 * 7) s.now t.now agree 3 3 (omega arith) (inl (omega arith)) (omega arith)))
