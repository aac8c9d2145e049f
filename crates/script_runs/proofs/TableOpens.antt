-- How the flash behind a partition table is found, from what its parts did.
use Rattle.std.proofs.Common.{◌≡◌, ◌⊎◌, inl, inr, ℕ, ◌≤◌, Bool, true, false, ext_get_or, Some, None, sym, ap, subst, ◌∙◌, arith}
use Rattle.std.specs.Prelude.{IsTrue, Result, Ok, Err}
use Rattle.flash_core.specs.{Counts.Rose, Counts.Idles, declared.flash.FlashStop.FlashStop, May.NoChance}
use Rattle.flash_core.specs.Told.{Told, NothingDirty, fresh}
use Rattle.flash_core.proofs.{Calls.fresh_dirty, OneCall.sure_settled}
use Rattle.gpt_core.specs.{declared.layout.Places.Places, declared.table.WhichTable.WhichTable, PlacesOf.places_of}
use Rattle.gpt_core.specs.Repair.{HeadersGuarded, MendsTable, StaysBeside, TouchesToMend}
use Rattle.gpt_core.specs.Table.{Table, FitsTable, table_in_image}
use Rattle.script_turns.specs.Powered.{TurnMoment}
use Rattle.script_turns.proofs.RunTurns.{rose-after, rose-before}
use Rattle.script_runs.specs.ByTable.{HasPlaces, Starts, StopsBefore, Waits, Wakes}

-- ---- power that came

-- it leaves the bytes of a device with nothing dirty
pub woken-now : (old mid : Told) → NothingDirty old → Wakes old mid → mid.now ≡ old.now
woken-now old mid clean wakes = ext_get_or 0 mid.now old.now wakes.leaves.size (λ i below. wakes.leaves.sure i (sure_settled old clean i))

pub woken-clean : (old mid : Told) → Wakes old mid → NothingDirty mid
woken-clean old mid wakes = fresh_dirty mid old.guard wakes.fresh_is

pub woken-same : (old mid : Told) → NothingDirty old → Wakes old mid → mid ≡ old
woken-same old mid clean wakes = wakes.fresh_is ∙ ap (fresh old.guard) (woken-now old mid clean wakes) ∙ sym clean

-- ---- what was counted

pub waits-idle : (old mid : TurnMoment) → Idles old.counts mid.counts → mid.counts.made ≡ old.counts.made → mid.armed ≡ old.armed → old.armed ≡ None → Waits 0 old mid
waits-idle old mid idles made armed none = record {
  falls = record { faults = omega (arith, idles.faults); cuts = omega (arith, idles.cuts); reached = omega (arith, idles.reached); chances = idles.chances };
  once = omega (arith, idles.faults, idles.cuts, idles.reached);
  made = made;
  reached = idles.reached;
  armed = armed ∙ none;
}

pub waits-then : (stops : ℕ) (old mid new : TurnMoment) → Waits 0 old mid → Waits stops mid new → Waits stops old new
waits-then stops old mid new first then = record {
  falls = record {
    faults = let a = first.falls.faults in let b = then.falls.faults in omega arith;
    cuts = let a = first.falls.cuts in let b = then.falls.cuts in omega arith;
    reached = let a = first.falls.reached in let b = then.falls.reached in omega arith;
    chances = let a = first.falls.chances in let b = then.falls.chances in omega arith;
  };
  once = omega (arith, first.once, then.once);
  made = then.made ∙ first.made;
  reached = then.reached ∙ first.reached;
  armed = then.armed;
}

chance-later : (old mid new : ℕ) (N : Type 0) → mid ≤ new → Rose old mid ⊎ N → Rose old new ⊎ N
chance-later old mid new N later (inl rose) = inl (rose-after old mid new later rose)
chance-later old mid new N later (inr none) = inr none

cause-before : (old mid new : TurnMoment) → Waits 0 old mid → Rose mid.counts.faults new.counts.faults ⊎ Rose mid.counts.cuts new.counts.cuts
    → Rose old.counts.faults new.counts.faults ⊎ Rose old.counts.cuts new.counts.cuts
cause-before old mid new waits (inl fault) = inl (rose-before old.counts.faults mid.counts.faults new.counts.faults waits.falls.faults fault)
cause-before old mid new waits (inr cut) = inr (rose-before old.counts.cuts mid.counts.cuts new.counts.cuts waits.falls.cuts cut)

-- ---- a repair, done or stopped

-- from where power came, by what the search found and the repair did
module _ (stops : ℕ) (tells : Bool) (blocks m n : ℕ) (old mid found new : TurnMoment) (table : Table) (which : WhichTable) (mid_size : m ≡ blocks) (found_size : n ≡ m)
    (wakes : IsTrue tells → Wakes old.told mid.told) (woke : Waits 0 old mid) (looked : Waits 0 mid found) (mended : Waits stops found new) (same : IsTrue tells → found.told ≡ mid.told)
    (decides : IsTrue tells → table_in_image m mid.told.now ≡ Some (table, which))
    (woke_still : mid.writes ≡ old.writes) (looked_still : found.writes ≡ mid.writes) (touched : TouchesToMend n table which found.writes new.writes)
    (p : Places) (fits : FitsTable m table) (gives : places_of m table ≡ Ok p) where
  waited : Waits stops old new
  waited = waits-then stops old found new (waits-then 0 old mid found woke looked) mended

  size : n ≡ blocks
  size = found_size ∙ mid_size

  decides-here : IsTrue tells → table_in_image blocks mid.told.now ≡ Some (table, which)
  decides-here told = subst (λ (k : ℕ). table_in_image k mid.told.now ≡ Some (table, which)) mid_size (decides told)

  beside-here : StaysBeside n table which found.told new.told → IsTrue tells → StaysBeside blocks table which mid.told new.told
  beside-here beside told =
      subst (λ (t : Told). StaysBeside blocks table which t new.told) (same told) (subst (λ (k : ℕ). StaysBeside k table which found.told new.told) size beside)

  mends-here : (result : Result (Unit {0}) FlashStop) → (HeadersGuarded n found.told → MendsTable result n table new.told) → IsTrue tells → HeadersGuarded blocks mid.told → MendsTable result blocks table new.told
  mends-here result mends told =
      subst (λ (t : Told). HeadersGuarded blocks t → MendsTable result blocks table new.told) (same told) (subst (λ (k : ℕ). HeadersGuarded k found.told → MendsTable result k table new.told) size mends)

  abbrev has-here : HasPlaces tells blocks mid.told p
  has-here = record {
    table = table;
    which = which;
    fits = subst (λ (k : ℕ). FitsTable k table) mid_size fits;
    decides = decides-here;
    gives = subst (λ (k : ℕ). places_of k table ≡ Ok p) mid_size gives;
  }

  -- on any device
  touches-here : TouchesToMend blocks table which old.writes new.writes
  touches-here =
      subst (λ (w : ℕ → ℕ). TouchesToMend blocks table which w new.writes) (looked_still ∙ woke_still)
      (subst (λ (k : ℕ). TouchesToMend k table which found.writes new.writes) size touched)

  pub starts-from : stops ≡ 0 → (IsTrue tells → Rose old.counts.chances mid.counts.chances ⊎ NoChance old.told mid.told.now)
      → (IsTrue tells → HeadersGuarded n found.told → MendsTable {T = Unit {0}} (Ok tt) n table new.told) → (IsTrue tells → StaysBeside n table which found.told new.told)
      → (IsTrue tells → NothingDirty found.told → NothingDirty new.told) → new.on ≡ None → new.power ≡ true → Starts tells blocks old p new
  starts-from none chance mends beside clean not_booted power = record {
    woken = mid.told;
    wakes = wakes;
    chance = λ told. chance-later old.counts.chances mid.counts.chances new.counts.chances _ (later-chances) (chance told);
    has = has-here;
    touches = touches-here;
    mends = λ told. mends-here (Ok tt) (mends told) told;
    beside = λ told. beside-here (beside told) told;
    clean = λ told. clean told (subst NothingDirty (sym (same told)) (woken-clean old.told mid.told (wakes told)));
    waits = subst (λ (k : ℕ). Waits k old new) none waited;
    not_booted = not_booted;
    power = power;
  }
    where
      later-chances : mid.counts.chances ≤ new.counts.chances
      later-chances = let a = looked.falls.chances in let b = mended.falls.chances in omega arith

  pub stops-from : stops ≡ 1 → (stop : FlashStop) → (IsTrue tells → HeadersGuarded n found.told → MendsTable {T = Unit {0}} (Err stop) n table new.told) → (IsTrue tells → StaysBeside n table which found.told new.told)
      → Rose found.counts.faults new.counts.faults ⊎ Rose found.counts.cuts new.counts.cuts → new.power ≡ false → StopsBefore tells blocks old new
  stops-from one stop mends beside cause off = record {
    woken = mid.told;
    wakes = wakes;
    left = λ told. inr (record {
      table = table;
      which = which;
      decides = decides-here told;
      stays = λ guarded. (mends-here (Err stop) (mends told) told guarded).stays;
      beside = beside-here (beside told) told;
    });
    touches = inr (p, has-here, touches-here);
    waits = subst (λ (k : ℕ). Waits k old new) one waited;
    off = off;
    cause = cause-before old found new (waits-then 0 old mid found woke looked) cause;
  }
