-- What a boot leaves of a flash that shows this: the replicas are repaired, a bank is chosen, and its start is counted.
use Rattle.std.specs.Prelude.{◌≡◌, ◌⊎◌, ℕ, ◌*◌, Bool, List, [], ◌++◌, Option, Some, None, Result, Ok, Err, OnOk, IsTrue, ◌+◌, ◌<◌, ◌≤◌, ◌==◌, nat_lt, if◌then◌else◌, ◌∷◌, replicate}
use Rattle.base_core.specs.Block.{block_bytes, block, granule_bytes, granule}
use Rattle.flash_core.specs.{declared.flash.Arming.Arming, declared.flash.Flash.Ghosts, declared.flash.FlashStop.FlashStop}
use Rattle.flash_core.specs.{Told.Told, Told.NothingDirty, May.Guards, May.Keeps, Counts.lowered, Touches.TouchesOnly}
use Rattle.flash_core.specs.Replaces.{padded, Replaces}
use Rattle.fwu_formats.specs.{Counter.counter_in, Counter.record_bytes, Layout.Layout, Manifest.version, Image.is_blank}
use Rattle.fwu_formats.specs.{Places.trial_limit, Places.trial_block, declared.kinds.BankState.BankState}
use Rattle.fwu_formats.specs.Metadata.{MetaRead, meta_read, state_at}
use Rattle.fwu_formats.specs.declared.kinds.BankState.TheVariants.{Invalid, Valid, Accepted}
use Rattle.fwu_model.specs.{Sound.Setting, Sound.choice, Seen.IsTidy, Calm.IsCalm, Calm.IsAtRest, Answer.migrate_moves}
use Rattle.fwu_model.specs.{Answer.chosen_moves, Answer.booted_package, Replica.BothHold, Replica.in_version}
use Rattle.fwu_model.specs.State.{State, Move, after, Trial, RaiseTo, bank, is_valid}
use Rattle.replicas.specs.{Stores.Repairs, Stores.TakesRepair, Stores.TouchesRepair, Stores.TakesOne, declared.which.Which.Which}
use Rattle.replicas.specs.declared.which.Which.TheVariants.{Same, MigrateZero}
use Rattle.moves.specs.Moved.{IsShown, Does, GuardedBy, IsReady}
use Rattle.early_boot.specs.{declared.choosing.Chosen.Chosen, declared.showing.Shown.Shown, Showing.ShowsImage}
use Rattle.early_boot.specs.{Showing.state_shown, declared.counting_starts.Counting.Counting}
use Rattle.early_boot.specs.Choosing.{IsFound, MayBeChosen, boot_setting}
use Rattle.marks_core.specs.Marks.{TouchesOneRecord, record_place}
use Rattle.early_boot.specs.declared.counting_starts.Counting.TheVariants as counting

-- ---- what is written, on any flash, tidy or not, at any exit

-- a granule that counts was blank and is zero: one mark more
pub record IsOneMore (at : ℕ) (old new : List ℕ) : Type 0 where
  pub below : at < trial_limit
  pub blank : IsTrue (is_blank (granule trial_block at old))
  pub mark : granule trial_block at new ≡ replicate granule_bytes 0

-- No more than one granule of the block of the trials changes, and when done it is one mark more, and nothing is dirty.
pub record MarksTrial {T : Type 0} (result : Result T FlashStop) (at : ℕ) (s t : Told) : Type 0 where
  pub keeps : Keeps (block_bytes * trial_block + granule_bytes * at)
      (block_bytes * trial_block + granule_bytes * at + granule_bytes) s t
  pub one_more : OnOk result (IsOneMore at s.now t.now)
  pub stable : OnOk result (NothingDirty t)

-- One record is written over block 5 or 6, and when done the counter is its value.
pub record RecordsCounter {T : Type 0} (result : Result T FlashStop) (v : ℕ) (s t : Told) : Type 0 where
  pub keeps : Keeps (block_bytes * 5) (block_bytes * 7) s t
  pub record_is : Replaces result (record_place s.now) (padded (record_bytes v)) s t
  pub counter : OnOk result (counter_in t.now ≡ v)

-- what a move of a start writes, where the trials so far are at
abbrev pub WritesMove : {T : Type 0} → Result T FlashStop → Move → ℕ → Told → Told → Type 0
WritesMove result Trial at s t = MarksTrial result at s t
WritesMove result (RaiseTo v) at s t = RecordsCounter result v s t
WritesMove result other at s t = ⊥

-- A start has one move or none, and with none nothing is written.
abbrev pub WritesMoves : {T : Type 0} → Result T FlashStop → List Move → ℕ → Told → Told → Type 0
WritesMoves result [] at s t = t ≡ s
WritesMoves result (m ∷ ms) at s t = WritesMove result m at s t

-- What a call with these moves leaves of a flash that shows a state: it writes marks and records alone.
pub record Leads {T : Type 0} (result : Result T FlashStop) (L : Layout) (state : State) (ms : List Move)
    (s t : Told) : Type 0 where
  pub keeps : Keeps (block_bytes * 3) (block_bytes * 7) s t
  pub writes : WritesMoves result ms state.trials s t
  -- on any flash: when done, the counter is that of the state after the moves
  pub counter : OnOk result (counter_in t.now ≡ (after state ms).counter)
  -- on any flash with tidy marks: when done, it shows the state after the moves
  pub shows : IsTidy s.now state → OnOk result (IsShown L t.now (after state ms))
  -- from a ready flash, with each loss
  pub does : (E : Setting) → IsReady E s state → Does result E state ms t
  -- from a flash at rest, sound or not
  pub guarded : IsAtRest s → GuardedBy result t

-- ---- what a start is counted as

-- the bank was chosen by the state
pub record IsStartOf (s : State) (chosen : Chosen) : Type 0 where
  pub version_is : chosen.version ≡ version (booted_package s chosen.bank)
  pub left : chosen.bank ≡ s.active → IsTrue (is_valid (bank s chosen.bank).state) → s.trials < trial_limit

-- an active bank in this state, with a package of version v
abbrev pub counting_of : BankState → ℕ → ℕ → Counting
counting_of Invalid counter v = counting.Nothing
counting_of Valid counter v = counting.Trial
counting_of Accepted counter v = if nat_lt counter v then counting.Raise else counting.Nothing

abbrev pub counting_in : Shown → Chosen → Counting
counting_in shown chosen =
    if chosen.bank == shown.meta.meta.active
    then counting_of (state_at shown.meta.meta shown.meta.meta.active) shown.counter chosen.version
    else counting.Nothing

-- on every device, how much nearer an armed loss it brings: a mark is one program, a record an erase and a program
abbrev pub TakesCounting : Counting → Option Arming → Option Arming → Type 0
TakesCounting counting.Nothing armed arming = arming ≡ armed
TakesCounting counting.Trial armed arming = arming ≡ lowered armed
TakesCounting counting.Raise armed arming = arming ≡ lowered (lowered armed)

-- on every device, which blocks it may erase or program: that of the marks, or that of one of the two records
abbrev pub TouchesCounting : Counting → (ℕ → ℕ) → (ℕ → ℕ) → Type 0
TouchesCounting counting.Nothing old new = new ≡ old
TouchesCounting counting.Trial old new = TouchesOnly (block_bytes * 3) (block_bytes * 4) old new
TouchesCounting counting.Raise old new = TouchesOneRecord old new

-- ---- what is shown then

abbrev pub with_counts : Shown → ℕ → ℕ → Shown
with_counts shown trials counter =
    record { layout = shown.layout; meta = shown.meta; which = shown.which; trials = trials; counter = counter }

-- what is shown once a start was counted is as before but for the counts
pub record CountsLater (before later : Shown) : Type 0 where
  pub layout : later.layout ≡ before.layout
  pub meta : later.meta ≡ before.meta
  pub which : later.which ≡ before.which
  pub few : later.trials ≤ trial_limit

-- the counter then, for a package of version v
abbrev pub counter_by : Counting → ℕ → ℕ → ℕ
counter_by counting.Raise counter v = v
counter_by other counter v = counter

-- The trials stay, but where one more start on trial is counted: then they are what is counted anew.
abbrev pub TrialsStay : Counting → ℕ → ℕ → Type 0
TrialsStay counting.Trial before later = later ≤ trial_limit
TrialsStay other before later = later ≡ before

-- The counts that are shown once a start was counted as this, with a package of version v.
pub record CountedAs (what : Counting) (v : ℕ) (before later : Shown) : Type 0 where
  pub counter : later.counter ≡ counter_by what before.counter v
  pub trials : TrialsStay what before.trials later.trials

-- the same of what was chosen
abbrev pub CountsChosen : Shown → Shown → Chosen → Type 0
CountsChosen before later chosen = CountedAs (counting_in before chosen) chosen.version before later

-- what is shown once both replicas hold the metadata in version 2
abbrev pub mended : Shown → Shown
mended shown =
    record
    { layout = shown.layout; meta = in_version 2 shown.meta.meta; which = Same; trials = shown.trials; counter = shown.counter }

-- A repair is no move, and that of metadata of version 1 is a migration.
pub record MendsReplicas {T : Type 0} (result : Result T FlashStop) (shown : Shown) (s t : Told) : Type 0 where
  -- on any flash, what is written: a replica that holds the metadata in version 2 stays as it is
  pub repairs : Repairs result shown.layout shown.meta s t
  -- nothing but the replicas changes, and when done, both hold the metadata in version 2
  pub keeps : Keeps (block_bytes * 1) (block_bytes * 3) s t
  pub both : OnOk result (BothHold shown.layout (in_version 2 shown.meta.meta) t.now)
  -- on any flash: when done, it shows the same in version 2
  pub shows : OnOk result (ShowsImage t.now (mended shown))
  pub moved : OnOk result
      (state_shown t.now (mended shown) ≡ after (state_shown s.now shown) (migrate_moves (state_shown s.now shown)))
  -- the marks stay as tidy as they are
  pub tidy : IsTidy s.now (state_shown s.now shown)
      → IsTidy t.now (after (state_shown s.now shown) (migrate_moves (state_shown s.now shown)))
  -- from a flash that is calm at least, with each loss
  pub does : (E : Setting) → IsCalm E s (state_shown s.now shown) → Guards 1 7 s
      → Does result E (state_shown s.now shown) (migrate_moves (state_shown s.now shown)) t
  -- from a flash at rest, sound or not
  pub guarded : IsAtRest s → GuardedBy result t

-- ---- how much nearer an armed loss it brings, by what the image holds

-- where replica 0 is version 1 and decides, a replica 1 that holds the metadata in version 2 stays, so that one replica is written
abbrev pub MigratesOnce : Layout → Which → MetaRead → List ℕ → Option Arming → Option Arming → Type 0
MigratesOnce L which r image armed arming =
    which ≡ MigrateZero → meta_read L (block 2 image) ≡ Some (in_version 2 r.meta) → TakesOne armed arming

-- as much as what is to be done asks for, where this metadata decides in the image
pub record TakesMending (L : Layout) (which : Which) (r : MetaRead) (image : List ℕ) (armed arming : Option Arming) : Type 0 where
  pub repair : TakesRepair which armed arming
  pub once : MigratesOnce L which r image armed arming

-- ---- the start

-- the bank that was chosen, without what is shown once its start is counted
abbrev pub chosen_of : Option (Shown × Chosen) → Option Chosen
chosen_of None = None
chosen_of (Some start) = Some start.1

-- the moves that count the start of what was chosen
abbrev pub count_moves : State → Option ℕ → List Move
count_moves s None = []
count_moves s (Some b) = chosen_moves s b

abbrev pub all_moves : Setting → State → List Move
all_moves E s = migrate_moves s ++ count_moves s (choice E s)

-- ---- what is written, on any flash, tidy or not

-- The replicas were repaired, where this metadata decided, and then a start was counted, by these moves.
pub record RepairsAndCounts {T : Type 0} (result : Result T FlashStop) (L : Layout) (r : MetaRead)
    (ms : List Move) (trials : ℕ) (s t : Told) : Type 0 where
  pub repaired : Told
  pub repairs : Repairs {T = Unit {0}} (Ok tt) L r s repaired
  pub counts : WritesMoves result ms trials repaired t

-- a stop comes in the repair or after it
abbrev pub BootWrites : {T : Type 0} → Result T FlashStop → Layout → MetaRead → List Move → ℕ → Told → Told → Type 0
BootWrites (Ok x) L r ms trials s t = RepairsAndCounts (Ok x) L r ms trials s t
BootWrites (Err stop) L r ms trials s t =
    Repairs {T = Unit {0}} (Err stop) L r s t ⊎ RepairsAndCounts {T = Unit {0}} (Err stop) L r ms trials s t

-- ---- how much nearer an armed loss it brings, on every device

-- what was chosen by what is shown is counted, and where none was, nothing is
abbrev pub TakesFound : Shown → Option (Shown × Chosen) → Option Arming → Option Arming → Type 0
TakesFound shown None armed arming = arming ≡ armed
TakesFound shown (Some start) armed arming = TakesCounting (counting_in shown start.1) armed arming

-- and before that the replicas are repaired
pub record TakesRepairAndStart (shown : Shown) (found : Option (Shown × Chosen)) (armed arming : Option Arming) : Type 0 where
  pub repaired : Option Arming
  pub repair : TakesRepair shown.which armed repaired
  pub start : TakesFound (mended shown) found repaired arming

-- the same, by what an image that shows this holds
pub record TakesMendingAndStart (shown : Shown) (image : List ℕ) (found : Option (Shown × Chosen))
    (armed arming : Option Arming) : Type 0 where
  pub repaired : Option Arming
  pub repair : TakesMending shown.layout shown.which shown.meta image armed repaired
  pub start : TakesFound (mended shown) found repaired arming

-- ---- which blocks it may erase or program, on every device

-- those in which what was chosen is counted, and where none was, none; at a stop, those of some choice or none
abbrev pub TouchesFound : Result (Option (Shown × Chosen)) FlashStop → Shown → (ℕ → ℕ) → (ℕ → ℕ) → Type 0
TouchesFound (Ok None) shown old new = new ≡ old
TouchesFound (Ok (Some start)) shown old new = TouchesCounting (counting_in shown start.1) old new
TouchesFound (Err stop) shown old new = (new ≡ old) ⊎ ((chosen : Chosen) × TouchesCounting (counting_in shown chosen) old new)

-- and before that the replicas that are to be written
pub record TouchesRepairAndStart (result : Result (Option (Shown × Chosen)) FlashStop) (shown : Shown)
    (old new : ℕ → ℕ) : Type 0 where
  pub repaired : ℕ → ℕ
  pub repair : TouchesRepair shown.which old repaired
  pub start : TouchesFound result (mended shown) repaired new

-- ---- the choice and its count

-- The bank that was chosen by what was shown, and what is shown once its start is counted.
pub record IsCountedStart {D : Type 0} (g : Ghosts D) (flash : D) (passes : List ℕ → Bool) (shown : Shown)
    (start : Shown × Chosen) : Type 0 where
  pub found : IsFound passes shown (MayBeChosen shown) start.1
  pub later : CountsLater shown start.0
  pub counted : CountsChosen shown start.0 start.1
  pub shows : IsTrue g.tells → ShowsImage (g.told flash).now start.0

-- it writes by the moves of the bank that the definition chooses
abbrev pub LeadsChosen : {T : Type 0} → Result T FlashStop → (List ℕ → Bool) → Shown → Told → Told → Type 0
LeadsChosen result passes shown s t =
    let state = state_shown s.now shown in
    Leads result shown.layout state (count_moves state (choice (boot_setting passes shown.layout) state)) s t

-- ---- all of it

pub record Boots {T : Type 0} (result : Result T FlashStop) (passes : List ℕ → Bool) (shown : Shown) (s t : Told) : Type 0 where
  -- nothing but the replicas, the marks and the records changes; where none is chosen, nothing but the replicas
  pub keeps : Keeps (block_bytes * 1) (block_bytes * 7) s t
  pub none : choice (boot_setting passes shown.layout) (state_shown s.now shown) ≡ None
      → Keeps (block_bytes * 1) (block_bytes * 3) s t
  -- and of these no more than the repair and the moves of the bank that is chosen
  pub writes : let state = state_shown s.now shown in
      BootWrites result shown.layout shown.meta (count_moves state (choice (boot_setting passes shown.layout) state))
      state.trials s t
  -- when done, both replicas hold the metadata in version 2
  pub both : OnOk result (BothHold shown.layout (in_version 2 shown.meta.meta) t.now)
  -- on any flash: when done, the counter is that of the state after all moves
  pub counter : OnOk result (counter_in t.now
      ≡ (after (state_shown s.now shown) (all_moves (boot_setting passes shown.layout) (state_shown s.now shown))).counter)
  -- on any flash with tidy marks: when done, it shows the state after all moves
  pub shows : IsTidy s.now (state_shown s.now shown)
      → OnOk result (IsShown shown.layout t.now
      (after (state_shown s.now shown) (all_moves (boot_setting passes shown.layout) (state_shown s.now shown))))
  -- from a flash that is calm at least, with each loss
  pub does : (E : Setting) → IsCalm E s (state_shown s.now shown) → Guards 1 7 s
      → Does result E (state_shown s.now shown) (all_moves (boot_setting passes shown.layout) (state_shown s.now shown)) t
  -- from a flash at rest, sound or not
  pub guarded : IsAtRest s → GuardedBy result t
