-- How a bank that an earlier boot started is taken up, by the bytes of the flash and by the machine.
use Rattle.std.specs.Prelude.{◌≡◌, ◌⊎◌, ℕ, ◌*◌, ◌==◌, ◌&&◌, ◌||◌, not, nat_lt, if◌then◌else◌, Bool, false, List, length, map, None, Option, Some, ⊤, Result, Ok, Err, is_ok, IsTrue, slice_index_or}
use Rattle.base_core.specs.Block.{block_bytes}
use Rattle.flash_core.specs.{declared.flash.FlashStop.FlashStop, declared.flash.Flash.Ghosts, declared.flash.Arming.Arming}
use Rattle.flash_core.specs.{declared.flash.Counts.Counts, Told.Told, Touches.TouchesOnly, May.Guards, May.Keeps}
use Rattle.flash_core.specs.Counts.{Spends, StaysUnarmed}
use Rattle.fwu_formats.specs.{Layout.Layout, Metadata.MetaRead, Metadata.state_at, Manifest.version, Image.layout_seen}
use Rattle.fwu_formats.specs.{Image.deciding, declared.kinds.BankState.BankState, declared.kinds.LayoutFault.LayoutFault}
use Rattle.fwu_formats.specs.declared.kinds.BankState.TheVariants.{Invalid}
use Rattle.fwu_model.specs.{Sound.Setting, Sound.choice, Sound.holds_permitted, Seen.seen, Session.On, Session.no_handles}
use Rattle.fwu_model.specs.{Calm.IsCalm, Calm.IsAtRest, Run.prefixes, Headline.LeavesOneOf}
use Rattle.fwu_model.specs.State.{State, Numbers, bank, is_valid, is_accepted, numbers_of, after}
use Rattle.fwu_model.specs.Answer.{booted_package, boot_moves, migrate_moves}
use Rattle.replicas.specs.{Stores.Repairs, Stores.TakesRepair, declared.which.Which.Which}
use Rattle.moves.specs.Moved.{Does, IsShown, GuardedBy}
use Rattle.early_boot.specs.{declared.choosing.Chosen.Chosen, declared.showing.Shown.Shown, declared.showing.Unshown.Unshown}
use Rattle.early_boot.specs.{declared.taking_up.TakeUpEnd.TakeUpEnd, Choosing.MayStart, Choosing.found_in, Starting.MendsReplicas}
use Rattle.early_boot.specs.{Starting.TakesMending, Numbers.AreNumbers, EndsBy.Renewed, EndsBy.TakesLoaded, EndsBy.WroteNothing}
use Rattle.early_boot.specs.Started.{Started, started, device, started_session, started_numbers}
use Rattle.early_boot.specs.declared.showing.Unshown.TheVariants as unshown
use Rattle.early_boot.specs.declared.taking_up.TakeUpEnd.TheVariants as take_up_end

-- ---- which bank a boot may have started

-- a bank in this state whose start a boot may have counted: it is accepted, or on trial with one start at least
abbrev pub was_started : BankState → ℕ → Bool
was_started state trials = is_accepted state || (is_valid state && nat_lt 0 trials)

-- by the numbers that are shown since: the active bank, or the previous one, to which boot falls back
abbrev pub may_run : ℕ → ℕ → ℕ → BankState → ℕ → Bool
may_run b active previous state trials = if b == active then was_started state trials else b == previous && is_accepted state

-- and by the package that the bank holds, which is permitted
abbrev pub runs_from : Setting → State → ℕ → Bool
runs_from E s b = may_run b s.active s.previous (bank s b).state s.trials && holds_permitted E s.counter (bank s b).held

-- The bank that a boot chose is one of these in the state that the boot leaves.
abbrev pub BootedRuns : Type 0
BootedRuns = (E : Setting) (s : State) (b : ℕ) → choice E s ≡ Some b → IsTrue (runs_from E (after s (boot_moves s b)) b)

-- the bank, where a boot may have started it by what is shown
abbrev pub running_bank : Shown → ℕ → Option ℕ
running_bank shown b =
    let m = shown.meta.meta in
    if may_run b m.active m.previous (state_at m b) shown.trials then Some b else None

-- with what is told of its package, by the bytes of a flash that shows this
abbrev pub running_in : (List ℕ → Bool) → List ℕ → Shown → ℕ → Option Chosen
running_in passes image shown b = found_in passes image shown (running_bank shown b)

-- ---- the check and the repair

-- on every device: another bank is refused before anything is written, and this one costs the repair
abbrev pub SpendsFound : Shown → Option Chosen → Option Arming → Option Arming → Counts → Counts → Type 0
SpendsFound shown None armed arming old new = WroteNothing (Ok tt) armed arming old new
SpendsFound shown (Some c) armed arming old new = TakesRepair shown.which armed arming

abbrev pub OnceFound : Shown → List ℕ → Option Chosen → Option Arming → Option Arming → Type 0
OnceFound shown image None armed arming = ⊤
OnceFound shown image (Some c) armed arming = TakesMending shown.layout shown.which shown.meta image armed arming

-- a stop comes before the repair or in it
abbrev pub MendsFound : Result (Option Chosen) FlashStop → Shown → Told → Told → Type 0
MendsFound (Ok None) shown s t = t ≡ s
MendsFound (Ok (Some c)) shown s t = MendsReplicas {T = Unit {0}} (Ok tt) shown s t
MendsFound (Err stop) shown s t = (t ≡ s) ⊎ MendsReplicas {T = Unit {0}} (Err stop) shown s t

-- ---- how it ends

-- what an end tells beside its device
pub data TakenUp : Type 0 where
  taken : Started → TakenUp
  bad_layout : LayoutFault → TakenUp
  no_metadata : TakenUp
  not_started : TakenUp
  stopped : FlashStop → TakenUp

abbrev pub taken_as : {D : Type 0} {F : Ghosts D} → TakeUpEnd D F → TakenUp
taken_as (take_up_end.Taken b) = taken (started b)
taken_as (take_up_end.BadLayout flash f) = bad_layout f
taken_as (take_up_end.NoMetadata flash) = no_metadata
taken_as (take_up_end.NotStarted flash) = not_started
taken_as (take_up_end.Stopped flash stop) = stopped stop

abbrev pub device_left : {D : Type 0} {F : Ghosts D} → TakeUpEnd D F → D
device_left (take_up_end.Taken b) = device b
device_left (take_up_end.BadLayout flash f) = flash
device_left (take_up_end.NoMetadata flash) = flash
device_left (take_up_end.NotStarted flash) = flash
device_left (take_up_end.Stopped flash stop) = flash

-- as the flash's own calls tell it
abbrev pub stop_in_end : TakenUp → Result (Unit {0}) FlashStop
stop_in_end (stopped stop) = Err stop
stop_in_end other = Ok tt

-- nothing was shown
abbrev pub unshown_as : Unshown → TakenUp
unshown_as (unshown.Layout f) = bad_layout f
unshown_as unshown.Metadata = no_metadata
unshown_as (unshown.Flash stop) = stopped stop

-- ---- by the bytes, whatever a flash has

-- The bank is one that a boot may have started, the metadata is renewed, and nothing but the replicas changed: no start was
-- counted, and no counter raised.
pub record TakesBank (passes : List ℕ → Bool) (b : ℕ) (old : Told) (told : Started) (t : Told) : Type 0 where
  pub state : State
  pub has_layout : layout_seen old.now ≡ Ok told.layout
  pub shows : seen old.now ≡ Some state
  pub runs : (E : Setting) → E.passes ≡ passes → IsTrue (runs_from E state b)
  pub bank_is : told.bank ≡ b
  pub version_is : told.version ≡ version (booted_package state b)
  pub lengths_are : told.lengths ≡ map (λ (bytes : List ℕ). length bytes) (booted_package state b)
  -- it shows the same state in version 2, whose numbers are told
  pub shown : IsShown told.layout t.now (after state (migrate_moves state))
  pub numbers : started_numbers told ≡ numbers_of (after state (migrate_moves state))
  pub renewed : Renewed told.layout old.now told.meta t
  pub repairs : Repairs {T = Unit {0}} (Ok tt) told.layout renewed.decided old t
  pub others : Keeps (block_bytes * 1) (block_bytes * 3) old t

-- No boot that left this state started the bank.
pub record RunsNot (passes : List ℕ → Bool) (b : ℕ) (image : List ℕ) : Type 0 where
  pub layout : Layout
  pub state : State
  pub has_layout : layout_seen image ≡ Ok layout
  pub shows : seen image ≡ Some state
  pub runs_not : (E : Setting) → E.passes ≡ passes → runs_from E state b ≡ false

-- A stop in the repair.
pub record StopsRepair (stop : FlashStop) (old t : Told) : Type 0 where
  pub layout : Layout
  pub has_layout : layout_seen old.now ≡ Ok layout
  pub decided : MetaRead
  pub decides : deciding layout old.now ≡ Some decided
  pub repairs : Repairs {T = Unit {0}} (Err stop) layout decided old t
  pub others : Keeps (block_bytes * 1) (block_bytes * 3) old t

-- a refusal wrote nothing
abbrev pub TakesByBytes : (List ℕ → Bool) → ℕ → Told → TakenUp → Told → Type 0
TakesByBytes passes b old (taken told) t = TakesBank passes b old told t
TakesByBytes passes b old (bad_layout f) t = (layout_seen old.now ≡ Err f) × (t ≡ old)
TakesByBytes passes b old no_metadata t = (L : Layout) × (layout_seen old.now ≡ Ok L) × (deciding L old.now ≡ None) × (t ≡ old)
TakesByBytes passes b old not_started t = RunsNot passes b old.now × (t ≡ old)
TakesByBytes passes b old (stopped stop) t = (t ≡ old) ⊎ StopsRepair stop old t

-- ---- by the machine, on a calm flash

-- the flash is ready for an agent's calls, in the session behind a boot of this bank
pub record TakesReady (E : Setting) (s : State) (b : ℕ) (told : Started) (t : Told) : Type 0 where
  pub session : started_session told ≡ On b None no_handles
  -- each loss leaves the state as it was or migrated, and then it is ready
  pub does : Does {T = Unit {0}} (Ok tt) E s (migrate_moves s) t
  pub numbers : started_numbers told ≡ numbers_of (after s (migrate_moves s))

-- at a stop each image of a power-on shows the state as it was or migrated
abbrev pub TakesByMachine : Setting → State → ℕ → TakenUp → Told → Type 0
TakesByMachine E s b (taken told) t = TakesReady E s b told t
TakesByMachine E s b not_started t = (runs_from E s b ≡ false) × IsCalm E t s
TakesByMachine E s b (stopped stop) t = LeavesOneOf E (prefixes s (migrate_moves s)) t
TakesByMachine E s b other t = ⊥

-- ---- on any device

-- how much nearer an armed loss it comes: by the repair where the bank is taken up, and by nothing where it is refused
abbrev pub TakesTakeUp : TakenUp → Option Arming → Option Arming → Counts → Counts → Type 0
TakesTakeUp (taken told) armed arming old new = (which : Which) × TakesRepair which armed arming
TakesTakeUp (stopped stop) armed arming old new = ⊤
TakesTakeUp refused armed arming old new = WroteNothing (Ok tt) armed arming old new

-- what is refused erases and programs nothing
abbrev pub RefusalIsIdle : TakenUp → (ℕ → ℕ) → (ℕ → ℕ) → Type 0
RefusalIsIdle (taken told) old new = ⊤
RefusalIsIdle (stopped stop) old new = ⊤
RefusalIsIdle refused old new = new ≡ old

-- where the device tells its content: by what is loaded from the replicas
abbrev pub TakesOnce : List ℕ → TakenUp → Option Arming → Option Arming → Type 0
TakesOnce image (taken told) armed arming = TakesLoaded image armed arming
TakesOnce image other armed arming = ⊤

-- The bank that is told is the one that was asked for, and may have been started by the numbers that are told. Some complete
-- package of its version has a manifest that passes, with images of the lengths that are told.
pub record RunsByNumbers (passes : List ℕ → Bool) (b : ℕ) (told : Started) (n : Numbers) : Type 0 where
  pub numbers : AreNumbers n
  pub bank_is : told.bank ≡ b
  pub runs : IsTrue (may_run b n.active n.previous (slice_index_or n.states b Invalid) n.trials)
  pub fallback_is : told.fallback ≡ not (b == n.active)
  pub form_two : n.form ≡ 2
  pub permitted : MayStart passes told.layout.rows n.counter told.version told.lengths

abbrev pub TakenByNumbers : (List ℕ → Bool) → ℕ → TakenUp → Type 0
TakenByNumbers passes b (taken told) = RunsByNumbers passes b told (started_numbers told)
TakenByNumbers passes b other = ⊤

-- ---- all of it

-- How taking up a bank ends, by what its device told at entry and tells then, with the manifests that pass.
pub record TakeUpEnds (passes : List ℕ → Bool) (b : ℕ) (old : Told) (e : TakenUp) (t : Told) : Type 0 where
  -- on any flash, sound or not
  pub by_bytes : TakesByBytes passes b old e t
  -- on a calm flash
  pub by_machine : (E : Setting) (s : State) → E.passes ≡ passes → IsCalm E old s → Guards 1 7 old → TakesByMachine E s b e t
  -- from a flash at rest, sound or not: no loss may harm what is in use, and an answer leaves it at rest
  pub guarded : IsAtRest old → GuardedBy (stop_in_end e) t

-- What taking up promises of a flash that is on: how it ends, and the device that it gives back.
pub record IsTakeUp {D : Type 0} (g : Ghosts D) (passes : List ℕ → Bool) (b : ℕ) (flash : D) (e : TakenUp) (left : D) : Type 0 where
  pub power : g.on left ≡ is_ok (stop_in_end e)
  pub size : g.blocks left ≡ g.blocks flash
  pub costs : Spends (stop_in_end e) (g.counts flash) (g.counts left)
  pub unarmed : StaysUnarmed (stop_in_end e) (g.arming flash) (g.arming left) (g.counts flash) (g.counts left)
  pub spent : TakesTakeUp e (g.arming flash) (g.arming left) (g.counts flash) (g.counts left)
  pub once : IsTrue g.tells → TakesOnce (g.told flash).now e (g.arming flash) (g.arming left)
  -- on any device: no block but those of the replicas, 1 and 2, is erased or programmed
  pub touches : TouchesOnly (block_bytes * 1) (block_bytes * 3) (g.writes flash) (g.writes left)
  pub refused : RefusalIsIdle e (g.writes flash) (g.writes left)
  -- on any device, by the numbers that are told
  pub numbers : TakenByNumbers passes b e
  -- on one that tells its content
  pub ends : IsTrue g.tells → TakeUpEnds passes b (g.told flash) e (g.told left)
