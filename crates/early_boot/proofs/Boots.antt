-- A repair, then the choice and the count of a start, in one.
use Rattle.std.proofs.Common.{◌≡◌, inl, inr, ℕ, ◌≤◌, ◌==◌, Bool, List, [], ◌∷◌, Option, Some, None, Result, Ok, Err, refl, sym, ap, subst, ◌∙◌, arith}
use Rattle.std.proofs.lemmas.Bool.{cond_both}
use Rattle.std.proofs.lemmas.Result.{IfOk-from_err, on_ok_weaker}
use Rattle.std.specs.Prelude.{IsErr, OnOk}
use Rattle.base_core.specs.Block.{block}
use Rattle.flash_core.specs.{declared.flash.FlashStop.FlashStop, Told.Told, May.Keeps}
use Rattle.flash_core.proofs.Calls.{keeps_then, keeps_wider}
use Rattle.fwu_formats.specs.{Counter.counter_in, Layout.Layout, Metadata.MetaRead, Metadata.meta_read}
use Rattle.fwu_model.specs.{Sound.Setting, Sound.choice, Answer.migrate_moves, Replica.BothHold, Replica.in_version}
use Rattle.fwu_model.specs.State.{State, Move, Migrate, after}
use Rattle.fwu_formats.proofs.Same.{block-same}
use Rattle.replicas.specs.Stores.{Repairs}
use Rattle.moves.specs.Moved.{IsShown}
use Rattle.moves.proofs.Composed.{after-append, does-stopped, does-then}
use Rattle.early_boot.specs.{declared.showing.Shown.Shown, Showing.state_shown}
use Rattle.early_boot.specs.Choosing.{boot_setting, chosen_in, with_package}
use Rattle.early_boot.specs.Starting.{MendsReplicas, mended, BootWrites, Boots, RepairsAndCounts, all_moves, count_moves, Leads, WritesMoves}
use Rattle.early_boot.proofs.Led.{guarded-stop, on-ok, writes-at}

-- ---- a migration changes no choice

choice-form : (E : Setting) (s : State) → choice E (record s { form = 2 }) ≡ choice E s
unfolding choice
choice-form E s = refl

package-form : (s : State) (o : Option ℕ) → with_package (record s { form = 2 }) o ≡ with_package s o
package-form s None = refl
package-form s (Some b) = refl

count-form : (s : State) (o : Option ℕ) → count_moves (record s { form = 2 }) o ≡ count_moves s o
count-form s None = refl
count-form s (Some b) = refl

abbrev pub migrated : State → State
migrated s = after s (migrate_moves s)

pub past-migration : (s : State) (P : State → Type 0) → P (record s { form = 2 }) → P s → P (migrated s)
past-migration s P two as_is = cond_both (s.form == 1) (Migrate ∷ []) [] (λ (ms : List Move). P (after s ms)) (λ e. two) (λ e. as_is)

pub chosen-migrated : (E : Setting) (s : State) → chosen_in E (migrated s) ≡ chosen_in E s
chosen-migrated E s = past-migration s (λ (x : State). chosen_in E x ≡ chosen_in E s) (ap (with_package (record s { form = 2 })) (choice-form E s) ∙ package-form s (choice E s)) refl

pub count-migrated : (E : Setting) (s : State) → count_moves (migrated s) (choice E (migrated s)) ≡ count_moves s (choice E s)
count-migrated E s = past-migration s (λ (x : State). count_moves x (choice E x) ≡ count_moves s (choice E s)) (ap (count_moves (record s { form = 2 })) (choice-form E s) ∙ count-form s (choice E s)) refl

-- ---- in one

-- a write beside the replicas leaves them
replica-stays : (L : Layout) (r : MetaRead) (b : ℕ) (s t : Told) → b ≤ 2 → Keeps 12288 28672 s t → meta_read L (block b s.now) ≡ Some r → meta_read L (block b t.now) ≡ Some r
replica-stays L r b s t low keeps is = ap (meta_read L) (block-same t.now s.now b keeps.size (λ place from to. keeps.now place (inl (omega (arith, to, low))))) ∙ is

both-stay : (L : Layout) (r : MetaRead) (s t : Told) → Keeps 12288 28672 s t → BothHold L r s.now → BothHold L r t.now
both-stay L r s t keeps both = record { zero = replica-stays L r 1 s t (omega arith) keeps both.zero; one = replica-stays L r 2 s t (omega arith) keeps both.one }

-- what a repair wrote is the same by another value
repairs-at : {T U : Type 0} (given : Result T FlashStop) (result : Result U FlashStop) (L : Layout) (r : MetaRead) (s t : Told) → ((A : Type 0) → OnOk given A → OnOk result A) → Repairs given L r s t → Repairs result L r s t
repairs-at given result L r s t pass repairs = record {
  keeps = repairs.keeps;
  idle = repairs.idle;
  zero_alone = repairs.zero_alone;
  one_alone = repairs.one_alone;
  zero = record { written = λ lacks. pass _ (repairs.zero.written lacks); either = repairs.zero.either };
  one = record { written = λ lacks. pass _ (repairs.one.written lacks); either = repairs.one.either };
  stays = repairs.stays;
  both = pass _ repairs.both;
  quiet = λ quiet. pass _ (repairs.quiet quiet);
}

-- where nothing was to be counted, the repair is all
pub repaired-alone : {T : Type 0} (x : T) (L : Layout) (r : MetaRead) (ms : List Move) (trials : ℕ) (s t : Told) → ms ≡ [] → RepairsAndCounts {T = T} (Ok x) L r ms trials s t → Repairs {T = Unit {0}} (Ok tt) L r s t
repaired-alone {T} x L r ms trials s t none writes =
    let idle : t ≡ writes.repaired = subst (λ (moves : List Move). WritesMoves {T = T} (Ok x) moves trials writes.repaired t) none writes.counts in
    subst (λ (u : Told). Repairs {T = Unit {0}} (Ok tt) L r s u) (sym idle) writes.repairs

-- the same at another value
pub counts-at : {T : Type 0} (x : T) (L : Layout) (r : MetaRead) (ms : List Move) (trials : ℕ) (s t : Told) → RepairsAndCounts {T = T} (Ok x) L r ms trials s t → RepairsAndCounts {T = Unit {0}} (Ok tt) L r ms trials s t
counts-at x L r ms trials s t writes =
    record {
      repaired = writes.repaired;
      repairs = writes.repairs;
      counts = writes-at (Ok x) (Ok tt) (λ A a. a) ms trials
          writes.repaired t writes.counts;
    }

module _ {U : Type 0} (L : Layout) (r : MetaRead) (ms : List Move) (trials : ℕ) (s t : Told) where
  stopped-writes : {T : Type 0} (stop : FlashStop) (result : Result U FlashStop) → IsErr result → Repairs {T = T} (Err stop) L r s t → BootWrites result L r ms trials s t
  stopped-writes {T} stop (Ok y) err repairs = absurd cc
  stopped-writes {T} stop (Err why) err repairs = inl (repairs-at {T = T} (Err stop) (Err why) L r s t (λ A a. tt) repairs)

  next-writes : {T : Type 0} (x : T) (result : Result U FlashStop) (m : Told) → Repairs {T = T} (Ok x) L r s m → WritesMoves result ms trials m t → BootWrites result L r ms trials s t
  next-writes {T} x (Ok y) m repairs counts = record { repaired = m; repairs = repairs-at {T = T} (Ok x) (Ok tt) L r s m (λ A a. a) repairs; counts = counts }
  next-writes {T} x (Err why) m repairs counts =
      inr (record {
        repaired = m;
        repairs = repairs-at {T = T} (Ok x) (Ok tt) L r s m (λ A a. a) repairs;
        counts = writes-at {T = U}
            {U = Unit {0}} (Err why) (Err why) (λ A a. a) ms trials m t counts;
      })

module _ (passes : List ℕ → Bool) (shown : Shown) (s : Told) where
  abbrev state : State
  state = state_shown s.now shown

  abbrev E0 : Setting
  E0 = boot_setting passes shown.layout

  -- the repair was stopped
  pub boots-stopped : {T U : Type 0} (stop : FlashStop) (result : Result U FlashStop) (t : Told) → IsErr result → MendsReplicas {T = T} (Err stop) shown s t → Boots result passes shown s t
  boots-stopped {T} stop result t err mends = record {
    keeps = keeps_wider 4096 12288 4096 28672 s t (omega arith) (omega arith) mends.keeps;
    none = λ e. mends.keeps;
    writes = stopped-writes shown.layout shown.meta (count_moves state (choice E0 state)) state.trials s t {T = T} stop result err mends.repairs;
    counter = IfOk-from_err result (λ x. counter_in t.now ≡ (after state (all_moves E0 state)).counter) err;
    both = IfOk-from_err result (λ x. BothHold shown.layout (in_version 2 shown.meta.meta) t.now) err;
    shows = λ tidy. IfOk-from_err result (λ x. IsShown shown.layout t.now (after state (all_moves E0 state))) err;
    does = λ E calm guards. does-stopped (Err stop) result E state (migrate_moves state) (count_moves state (choice E0 state)) t err (mends.does E calm guards);
    guarded = λ rest. guarded-stop result t err (mends.guarded rest);
  }

  module _ {T U : Type 0} (x : T) (result : Result U FlashStop) (m t : Told) (mends : MendsReplicas {T = T} (Ok x) shown s m) where
    abbrev ms : List Move
    ms = count_moves state (choice E0 state)

    -- from the state after the repair
    boots-next : Leads result shown.layout (migrated state) ms m t → Boots result passes shown s t
    boots-next leads = record {
      keeps = keeps_then 4096 28672 s m t (keeps_wider 4096 12288 4096 28672 s m (omega arith) (omega arith) mends.keeps) (keeps_wider 12288 28672 4096 28672 m t (omega arith) (omega arith) leads.keeps);
      none = λ e.
          let idle : t ≡ m = subst (λ (moves : List Move). WritesMoves result moves (migrated state).trials m t) (ap (count_moves state) e) leads.writes in
          subst (λ (u : Told). Keeps 4096 12288 s u) (sym idle) mends.keeps;
      writes = next-writes shown.layout shown.meta ms state.trials s t {T = T} x result m mends.repairs
          (subst (λ (n : ℕ). WritesMoves result ms n m t) (past-migration state (λ (y : State). y.trials ≡ state.trials) refl refl) leads.writes);
      counter = on_ok_weaker result (λ (h : counter_in t.now ≡ (after (migrated state) ms).counter). h ∙ ap (λ (y : State). y.counter) (sym (after-append state (migrate_moves state) ms))) leads.counter;
      both = on-ok result (BothHold shown.layout (in_version 2 shown.meta.meta) t.now) (both-stay shown.layout (in_version 2 shown.meta.meta) m t leads.keeps mends.both);
      shows = λ tidy. on_ok_weaker result (λ (h : IsShown shown.layout t.now (after (migrated state) ms)). subst (IsShown shown.layout t.now) (sym (after-append state (migrate_moves state) ms)) h) (leads.shows (mends.tidy tidy));
      does = λ E calm guards. does-then x result E state (migrate_moves state) ms m t (mends.does E calm guards) (λ ready. leads.does E ready);
      guarded = λ rest. leads.guarded (mends.guarded rest);
    }

    pub boots-then : Leads result shown.layout (state_shown m.now (mended shown)) (count_moves (state_shown m.now (mended shown)) (choice E0 (state_shown m.now (mended shown)))) m t → Boots result passes shown s t
    boots-then leads =
        boots-next
        (subst (λ (moves : List Move). Leads result shown.layout (migrated state) moves m t) (count-migrated E0 state)
        (subst (λ (y : State). Leads result shown.layout y (count_moves y (choice E0 y)) m t) mends.moved leads))
