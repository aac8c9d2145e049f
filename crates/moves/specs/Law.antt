-- What writes are to the machine, as laws over what is told before and after. Each stands as the contract of a function of its own.
use Rattle.std.specs.Prelude.{◌≡◌, ℕ, ◌<◌, ◌≤◌, List, [], ◌∷◌, ◌++◌, Some, Ok, Result, IsErr, IsTrue, Contains, ◌+◌, ◌*◌, Bool, length, take, IsFalse, slice_index_or}
use Rattle.base_core.specs.Block.{block, block_bytes}
use Rattle.flash_core.specs.{declared.flash.FlashStop.FlashStop, May.May, May.Guards, May.Keeps, May.Quiet}
use Rattle.flash_core.specs.Told.{Told, NothingDirty, fresh, settle}
use Rattle.fwu_formats.specs.{Layout.Layout, Layout.start, Counter.counter_in, Places.trial_limit}
use Rattle.fwu_formats.specs.Metadata.{MetaRead, meta_read, Meta, fits_meta, state_at}
use Rattle.fwu_formats.specs.Manifest.{version, is_complete}
use Rattle.fwu_formats.specs.Image.{layout_seen, deciding, marks, is_tidy, slot, package_in}
use Rattle.fwu_model.specs.{Seen.seen, Seen.IsTidy, Seen.SoundFlash, Answer.booted_package, Calm.IsCalm, Calm.IsAtRest}
use Rattle.fwu_model.specs.{Run.prefixes, Replica.BothHold, Replica.in_version, MoveMetas.meta_after, MoveMetas.meta_in}
use Rattle.fwu_model.specs.State.{State, Move, Trial, RaiseTo, bank, is_valid, is_accepted, after, Free, Switch, Accept, Back, update_bank, is_invalid, state_by}
use Rattle.fwu_model.specs.Sound.{Setting, is_permitted, holds_permitted}
use Rattle.marks_core.specs.Marks.{Adds, Raises, Clears}
use Rattle.replicas.specs.{declared.which.Which.Which, Which.Loads, Stores.Repairs, Stores.Stores}
use Rattle.moves.specs.Moved.{IsReady, Does, IsShown, ShowsAfter, GuardedBy, repair_moves}

-- the result of a call without a value
abbrev pub CallResult : Type 0
CallResult = Result (Unit {0}) FlashStop

-- ---- calls in a row

-- Calls that do moves, one after the other.
pub record CallsCompose : Type 0 where
  -- a call that stopped did a prefix of whatever was to follow
  pub stopped : (given result : CallResult) (E : Setting) (s : State) (ms ns : List Move) (t : Told) → IsErr result
      → Does given E s ms t → Does result E s (ms ++ ns) t
  -- a call that is done, and the next one from the state that it left
  pub next : (result : CallResult) (E : Setting) (s : State) (ms ns : List Move) (m t : Told) → Does {T = Unit {0}} (Ok tt) E s ms m
      → (IsReady E m (after s ms) → Does result E (after s ms) ns t) → Does result E s (ms ++ ns) t
  -- a call that stopped before it wrote
  pub idle : (result : CallResult) (E : Setting) (s : State) (ms : List Move) (t : Told) → IsErr result → IsCalm E t s
      → Does result E s ms t

-- Power that comes back after a call, with no chance met, gives a flash that is calm at a state after some of its moves.
-- A repair makes it ready again.
abbrev pub LossesLeaveCalm : Type 0
LossesLeaveCalm =
    (result : CallResult) (E : Setting) (s : State) (ms : List Move) (old new : Told) → Does result E s ms old
    → new ≡ fresh old.guard new.now → May old new.now → (x : State) × Contains (prefixes s ms) x × IsCalm E new x

-- a sound flash with nothing dirty is ready, where replica 1 holds what decides
abbrev pub StartsAreReady : Type 0
StartsAreReady =
    (E : Setting) (t : Told) (s : State) → NothingDirty t → SoundFlash E t.now → seen t.now ≡ Some s → Guards 1 7 t
    → ((r : MetaRead) → deciding E.layout t.now ≡ Some r → meta_read E.layout (block 2 t.now) ≡ Some r) → IsReady E t s

-- ---- on a calm flash, with each loss

-- From a flash that is calm at least: the repair is no move, and a migration the one of that name. Each image of a power-on shows
-- the state before or after it, and when done the flash is ready.
abbrev pub RepairsDo : Type 0
RepairsDo =
    (result : CallResult) (which : Which) (r : MetaRead) (s t : Told) (E : Setting) (state : State) (L : Layout) → IsCalm E s state
    → Guards 1 7 s → layout_seen s.now ≡ Ok L → Loads L which r s.now → Repairs result L r s t
    → Does result E state (repair_moves which) t

-- a mark for one more start of the active bank on trial
abbrev pub TrialsDo : Type 0
TrialsDo =
    (result : CallResult) (s t : Told) (state : State) (at : ℕ) → IsTrue (is_valid (bank state state.active).state)
    → at ≡ state.trials → at < trial_limit → Adds result 3 at s t → (E : Setting) → IsReady E s state
    → Does result E state (Trial ∷ []) t

-- a record of the version that the active bank holds, which is accepted
abbrev pub RaisesDo : Type 0
RaisesDo =
    (result : CallResult) (v : ℕ) (s t : Told) (state : State) → Raises result v s t → (E : Setting) → IsReady E s state
    → IsTrue (is_accepted (bank state state.active).state) → v ≡ version (booted_package state state.active)
    → Does result E state (RaiseTo v ∷ []) t

-- ---- on any flash that shows a state, sound or not: what is seen when done

-- the state after the repair, or after the migration
pub record RepairsShow : Type 0 where
  pub shows : (result : CallResult) (which : Which) (r : MetaRead) (s t : Told) (L : Layout) (state : State) → IsShown L s.now state
      → Loads L which r s.now → Repairs result L r s t → ShowsAfter result L state (repair_moves which) t
  -- the marks stay as tidy as they are, at any exit
  pub tidy : (result : CallResult) (which : Which) (r : MetaRead) (s t : Told) (L : Layout) (state : State) → Repairs result L r s t
      → IsTidy s.now state → IsTidy t.now (after state (repair_moves which))

-- what else a boot has read stays as it was, at any exit
pub record RepairsKeep {T : Type 0} (result : Result T FlashStop) (r : MetaRead) (s t : Told) (L : Layout) : Type 0 where
  pub layout : layout_seen s.now ≡ Ok L → layout_seen t.now ≡ Ok L
  pub trials : (limit : ℕ) → limit ≤ 256 → marks t.now 3 limit ≡ marks s.now 3 limit
  pub counter : counter_in t.now ≡ counter_in s.now

-- so every repair
abbrev pub RepairsKeepCounts : Type 0
RepairsKeepCounts = (result : CallResult) (r : MetaRead) (s t : Told) (L : Layout) → Repairs result L r s t
    → RepairsKeep result r s t L

-- one more trial, where the marks are tidy, so that the next one counts
pub record TrialsShow : Type 0 where
  pub shows : (result : CallResult) (s t : Told) (state : State) (at : ℕ) → IsTrue (is_valid (bank state state.active).state)
      → at ≡ state.trials → at < trial_limit → Adds result 3 at s t
      → (L : Layout) → IsShown L s.now state → IsTidy s.now state → ShowsAfter result L state (Trial ∷ []) t
  -- while a bank is on trial, its trials are the marks
  pub counted : (L : Layout) (now : List ℕ) (s : State) → IsShown L now s → IsTrue (is_valid (bank s s.active).state)
      → marks now 3 trial_limit ≡ s.trials

-- the new counter
abbrev pub RaisesShow : Type 0
RaisesShow = (result : CallResult) (v : ℕ) (s t : Told) (state : State) → Raises result v s t → (L : Layout) → IsShown L s.now state
    → ShowsAfter result L state (RaiseTo v ∷ []) t

-- ---- on any flash at rest, sound or not: a stop harms nothing in use, and an answer leaves the flash at rest

-- the writes of a boot
pub record WritesStayGuarded : Type 0 where
  pub repair : (result : CallResult) (L : Layout) (s t : Told) → layout_seen s.now ≡ Ok L → IsAtRest s
      → (which : Which) (r : MetaRead) → Loads L which r s.now → Repairs result L r s t → GuardedBy result t
  pub trial : (result : CallResult) (L : Layout) (s t : Told) → layout_seen s.now ≡ Ok L → IsAtRest s → (at : ℕ) → at < trial_limit
      → Adds result 3 at s t → GuardedBy result t
  pub raise : (result : CallResult) (L : Layout) (s t : Told) → layout_seen s.now ≡ Ok L → IsAtRest s → (v : ℕ)
      → Raises result v s t → GuardedBy result t

-- ---- metadata

-- what decides is a function of the state that is shown
pub record StatesHaveMetadata : Type 0 where
  pub decides : (L : Layout) (image : List ℕ) (s : State) → IsShown L image s
      → deciding L image ≡ Some (in_version s.form (meta_in s))
  pub is : (L : Layout) (image : List ℕ) (s : State) (m : Meta) (form : ℕ) → IsShown L image s
      → deciding L image ≡ Some (in_version form m) → meta_in s ≡ m

-- the metadata after a move is of the layout where the metadata before is
pub record MetadataStaysFit (L : Layout) (m : Meta) : Type 0 where
  pub free : (b : ℕ) → b < L.banks → IsTrue (fits_meta L (meta_after m (Free b)))
  pub switch : (b : ℕ) (p : List (List ℕ)) (bits : List Bool) → b < L.banks → length bits ≡ length L.rows
      → IsTrue (fits_meta L (meta_after m (Switch b p bits)))
  pub accept : (image : ℕ) → IsTrue (fits_meta L (meta_after m (Accept image)))
  pub back : IsTrue (fits_meta L (meta_after m Back))

-- so all metadata of a layout
abbrev pub MovesKeepFit : Type 0
MovesKeepFit = (L : Layout) (m : Meta) → IsTrue (fits_meta L m) → MetadataStaysFit L m

-- ---- from a ready flash, with each loss

-- a store of the metadata of a move does this move
pub record StoresDo (result : CallResult) (E : Setting) (s t : Told) (state : State) : Type 0 where
  pub free : IsTrue (is_accepted (bank state state.active).state)
      → Stores result E.layout (meta_after (meta_in state) (Free (update_bank state))) s t
      → Does result E state (Free (update_bank state) ∷ []) t
  pub accept : (image : ℕ) → Stores result E.layout (meta_after (meta_in state) (Accept image)) s t
      → Does result E state (Accept image ∷ []) t
  pub back : IsTrue (is_accepted (bank state state.previous).state)
      → IsTrue (holds_permitted E state.counter (bank state state.previous).held)
      → Stores result E.layout (meta_after (meta_in state) Back) s t → Does result E state (Back ∷ []) t
  -- The update bank holds the package and is quiet, as after a barrier.
  -- Where the new state is valid, so that trials count, the marks are clear.
  pub switch : (p : List (List ℕ)) (bits : List Bool) → IsTrue (is_accepted (bank state state.active).state)
      → Quiet (block_bytes * start E.layout (update_bank state) 0) (block_bytes * start E.layout (update_bank state + 1) 0) s
      → package_in E.layout s.now (update_bank state) ≡ Some p
      → length bits ≡ length E.layout.rows → IsTrue (is_complete E.layout.rows p) → IsTrue (is_permitted E state.counter p)
      → (IsTrue (is_valid (state_by bits)) → (marks s.now 3 trial_limit ≡ 0) × IsTrue (is_tidy s.now 3 trial_limit))
      → Stores result E.layout (meta_after (meta_in state) (Switch (update_bank state) p bits)) s t
      → Does result E state (Switch (update_bank state) p bits ∷ []) t

-- so every store
abbrev pub StoresDoMoves : Type 0
StoresDoMoves = (result : CallResult) (E : Setting) (s t : Told) (state : State) → IsReady E s state → state.form ≡ 2
    → StoresDo result E s t state

-- The whole way to a switch, from a flash that shows a state:
-- the marks are cleared, or that is stopped, and then the metadata is stored.
pub record EndsBy (L : Layout) (state : State) (p : List (List ℕ)) (bits : List Bool) (s : Told) : Type 0 where
  -- stopped as the marks are cleared
  pub unclear : (given result : CallResult) (E : Setting) (t : Told) → IsErr result → E.layout ≡ L → IsCalm E s state → Guards 1 7 s
      → Clears given 3 s t → Does result E state (Switch (update_bank state) p bits ∷ []) t
  -- on a calm flash, with each loss
  pub does : (result : CallResult) (E : Setting) (m t : Told) → E.layout ≡ L → IsTrue (is_permitted E state.counter p)
      → IsCalm E s state → Guards 1 7 s → Clears {T = Unit {0}} (Ok tt) 3 s m
      → Stores result L (meta_after (meta_in state) (Switch (update_bank state) p bits)) m t
      → Does result E state (Switch (update_bank state) p bits ∷ []) t
  -- on any flash, when done
  pub shows : (result : CallResult) (m t : Told) → Clears {T = Unit {0}} (Ok tt) 3 s m
      → Stores result L (meta_after (meta_in state) (Switch (update_bank state) p bits)) m t
      → ShowsAfter result L state (Switch (update_bank state) p bits ∷ []) t
  -- on any flash at rest
  pub guarded : (result : CallResult) (m t : Told) → IsAtRest s → Clears {T = Unit {0}} (Ok tt) 3 s m
      → Stores result L (meta_after (meta_in state) (Switch (update_bank state) p bits)) m t → GuardedBy result t

-- so where both replicas hold the metadata, the active bank is accepted, and the slots of the update bank begin with the images of
-- a complete package and are quiet
abbrev pub EndsSwitch : Type 0
EndsSwitch =
    (L : Layout) (state : State) (p : List (List ℕ)) (bits : List Bool) (s : Told) → IsShown L s.now state → state.form ≡ 2
    → BothHold L (in_version 2 (meta_in state)) s.now
    → IsTrue (is_accepted (bank state state.active).state) → 1 ≤ length L.rows → length bits ≡ length L.rows
    → IsTrue (is_complete L.rows p)
    → ((i : ℕ) → i < length p → take (length (slice_index_or p i [])) (slot L s.now (update_bank state) i) ≡ slice_index_or p i [])
    → Quiet (block_bytes * start L (update_bank state) 0) (block_bytes * start L (update_bank state + 1) 0) s
    → EndsBy L state p bits s

-- a barrier leaves a ready flash ready
abbrev pub BarriersKeepReady : Type 0
BarriersKeepReady = (E : Setting) (s : Told) (state : State) → IsReady E s state → IsReady E (settle s) state

-- the trial marks cleared while the active bank is accepted are no move
abbrev pub ClearsDo : Type 0
ClearsDo = (result : CallResult) (s t : Told) (state : State) → IsTrue (is_accepted (bank state state.active).state)
    → Clears result 3 s t → (E : Setting) → IsReady E s state → Does result E state [] t

-- whatever is written in an invalid bank, and whatever the exit
abbrev pub StagingKeepsReady : Type 0
StagingKeepsReady =
    (E : Setting) (s t : Told) (state : State) (u : ℕ) → IsReady E s state → IsTrue (is_invalid (bank state u).state)
    → Keeps (block_bytes * start E.layout u 0) (block_bytes * start E.layout (u + 1) 0) s t → IsReady E t state

-- ---- on any flash that shows a state

-- a store that is done shows the state after the move
pub record StoresShow (result : CallResult) (L : Layout) (s t : Told) (state : State) : Type 0 where
  pub free : Stores result L (meta_after (meta_in state) (Free (update_bank state))) s t
      → ShowsAfter result L state (Free (update_bank state) ∷ []) t
  pub accept : (image : ℕ) → IsFalse (is_invalid (bank state state.active).state)
      → Stores result L (meta_after (meta_in state) (Accept image)) s t → ShowsAfter result L state (Accept image ∷ []) t
  pub back : IsTrue (is_accepted (bank state state.previous).state) → Stores result L (meta_after (meta_in state) Back) s t
      → ShowsAfter result L state (Back ∷ []) t
  pub switch : (p : List (List ℕ)) (bits : List Bool) → package_in L s.now (update_bank state) ≡ Some p
      → (IsTrue (is_valid (state_by bits)) → marks s.now 3 trial_limit ≡ 0)
      → Stores result L (meta_after (meta_in state) (Switch (update_bank state) p bits)) s t
      → ShowsAfter result L state (Switch (update_bank state) p bits ∷ []) t

-- so every store
abbrev pub StoresShowMoves : Type 0
StoresShowMoves = (result : CallResult) (L : Layout) (s t : Told) (state : State) → IsShown L s.now state → state.form ≡ 2
    → StoresShow result L s t state

-- what else is no move, at any exit
pub record OthersShowNothing : Type 0 where
  pub clear : (result : CallResult) (s t : Told) (state : State) → IsTrue (is_accepted (bank state state.active).state)
      → Clears result 3 s t → (L : Layout) → IsShown L s.now state → IsShown L t.now state
  pub staging : (L : Layout) (s t : Told) (state : State) (u : ℕ) → IsTrue (is_invalid (bank state u).state)
      → Keeps (block_bytes * start L u 0) (block_bytes * start L (u + 1) 0) s t → IsShown L s.now state → IsShown L t.now state

-- a bank whose slots begin with the images of a complete package holds it
abbrev pub SlotsHold : Type 0
SlotsHold =
    (L : Layout) (image : List ℕ) (b : ℕ) (p : List (List ℕ)) → 1 ≤ length L.rows → IsTrue (is_complete L.rows p)
    → ((i : ℕ) → i < length p → take (length (slice_index_or p i [])) (slot L image b i) ≡ slice_index_or p i [])
    → package_in L image b ≡ Some p

-- ---- on any flash at rest

-- the banks that the metadata calls valid or accepted are quiet
abbrev pub QuietBy : Layout → Meta → Told → Type 0
QuietBy L m t = (b : ℕ) → b < L.banks → IsFalse (is_invalid (state_at m b))
    → Quiet (block_bytes * start L b 0) (block_bytes * start L (b + 1) 0) t

-- a stop harms nothing in use, and an answer leaves the flash at rest
pub record OthersStayGuarded : Type 0 where
  -- where replica 1 holds what decides, and the banks in use by the new metadata are quiet
  pub store : (result : CallResult) (L : Layout) (s t : Told) → layout_seen s.now ≡ Ok L → IsAtRest s
      → (old : MetaRead) (new : Meta)
      → deciding L s.now ≡ Some old → meta_read L (block 2 s.now) ≡ Some old → Stores result L new s t
      → QuietBy L new s → GuardedBy result t
  pub clear : (result : CallResult) (L : Layout) (s t : Told) → layout_seen s.now ≡ Ok L → IsAtRest s → Clears result 3 s t
      → GuardedBy result t
  pub staging : (L : Layout) (s t : Told) (state : State) (u : ℕ) → IsShown L s.now state → IsAtRest s
      → IsTrue (is_invalid (bank state u).state) → Keeps (block_bytes * start L u 0) (block_bytes * start L (u + 1) 0) s t
      → IsAtRest t

-- which banks are in use by the metadata of a move: those before, and the one that it switches to
pub record UsedAfterMoves (L : Layout) (m : Meta) (t : Told) : Type 0 where
  pub before : QuietBy L m t
  pub free : (b : ℕ) → b < L.banks → QuietBy L (meta_after m (Free b)) t
  pub accept : (image : ℕ) → IsFalse (is_invalid (state_at m m.active)) → QuietBy L (meta_after m (Accept image)) t
  pub back : QuietBy L (meta_after m Back) t
  pub switch : (b : ℕ) (p : List (List ℕ)) (bits : List Bool)
      → Quiet (block_bytes * start L b 0) (block_bytes * start L (b + 1) 0) t → QuietBy L (meta_after m (Switch b p bits)) t

-- on any flash at rest
abbrev pub MovesKeepQuiet : Type 0
MovesKeepQuiet = (L : Layout) (t : Told) (r : MetaRead) → layout_seen t.now ≡ Ok L → IsAtRest t → deciding L t.now ≡ Some r
    → UsedAfterMoves L r.meta t
