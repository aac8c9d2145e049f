-- The plans of begin, accept and previous, which may store metadata: which of them may be carried out, and what that leaves.
use Rattle.std.specs.Prelude.{◌≡◌, ◌⊎◌, ℕ, ◌<◌, Bool, true, false, ◌&&◌, if◌then◌else◌, [], length, Option, Result, OnOk, is_ok, IsTrue}
use Rattle.flash_core.specs.{declared.flash.Arming.Arming, declared.flash.FlashStop.FlashStop, Counts.lowered, Told.Told}
use Rattle.fwu_formats.specs.{Layout.Layout, Metadata.Meta, Metadata.MetaRead, Metadata.state_at}
use Rattle.fwu_model.specs.{Session.Session, Sound.Setting, Sound.holds_permitted, Calm.IsAtRest, MoveMetas.bits_in}
use Rattle.fwu_model.specs.State.{State, bank, is_invalid, all_set, after}
use Rattle.replicas.specs.Stores.{Stores}
use Rattle.moves.specs.Moved.{Does, GuardedBy, IsReady}
use Rattle.agent_kept.specs.{declared.kinds.Decision.Decision, declared.kinds.Plan.Plan, Kept.Kept, Plans.planned_in}
use Rattle.agent_kept.specs.declared.kinds.Decision.TheVariants as decision
use Rattle.agent_kept.specs.declared.kinds.Plan.TheVariants as plan
use Rattle.agent_state.specs.Decides.{cannot_begin_kept, may_leave_kept, has_other_kept}
use Rattle.agent_machine.specs.{Deciding.KeepsOldOrNew, Fields.Fields, Fields.target, Meets.Stays, Moment.Moment, Moment.Shows}
use Rattle.agent_machine.specs.Beside.{KeepsSpared, SparesBlocks}

-- ---- which plans may be carried out

-- A staging may begin. Nothing is to be stored where the update bank is invalid.
pub record MayBegin (f : Fields) (store : Bool) : Type 0 where
  pub begins : cannot_begin_kept f.meta.meta f.session f.boot ≡ false
  pub free : store ≡ false → IsTrue (is_invalid (state_at f.meta.meta (target f)))

-- nothing is staged, and the active bank was started
pub record MayAccept (f : Fields) (image : ℕ) : Type 0 where
  pub idle : f.session.staging ≡ false
  pub booted : f.boot ≡ f.meta.meta.active
  pub within : image < length f.layout.rows

-- nothing is staged, and another bank is the previous one and accepted
pub record MayGoBack (f : Fields) : Type 0 where
  pub idle : f.session.staging ≡ false
  pub other : IsTrue (has_other_kept f.meta.meta)

-- a partial begin is carried out as a begin, and then its copies
abbrev pub MayCarryOut : Fields → Plan → Type 0
MayCarryOut f (plan.Begin store) = MayBegin f store
MayCarryOut f (plan.Accept image store) = MayAccept f image
MayCarryOut f plan.Back = MayGoBack f
MayCarryOut f other = ⊥

-- the session and the numbers of the banks allow to go back, whatever any bank holds
abbrev pub may_try_kept : Meta → Kept → ℕ → Bool
may_try_kept m k boot = may_leave_kept m k boot && has_other_kept m

-- a decision that is a plan
abbrev pub is_to_do : Decision → Bool
is_to_do (decision.Do p) = true
is_to_do other = false

-- ---- what is spent of an armed loss

-- an arming after the two erases and two programs of a store
abbrev pub stored_arming : Option Arming → Option Arming
stored_arming armed = lowered (lowered (lowered (lowered armed)))

abbrev pub TakesIf : Bool → Option Arming → Option Arming → Type 0
TakesIf stores armed arming = arming ≡ (if stores then stored_arming armed else armed)

-- metadata was stored; or it is as it was, and nothing was written
abbrev pub TakesStore : MetaRead → MetaRead → Option Arming → Option Arming → Type 0
TakesStore old new armed arming = (arming ≡ stored_arming armed) ⊎ ((new ≡ old) × (arming ≡ armed))

-- ---- what is stored, and what is kept then

-- whether metadata is stored
abbrev pub is_stored : Plan → Bool
is_stored (plan.Begin store) = store
is_stored (plan.BeginPartial store named) = store
is_stored (plan.Accept image store) = store
is_stored plan.Back = true
is_stored other = false

-- whether the update bank is made invalid
abbrev pub frees : Plan → Bool
frees (plan.Begin store) = store
frees (plan.BeginPartial store named) = store
frees other = false

-- the trials with the metadata after the plan: none once the bank is accepted with its last image, or another one is active
abbrev pub trials_planned : Plan → Meta → ℕ → ℕ
trials_planned (plan.Accept image store) m trials = if store && all_set (bits_in m m.active) then 0 else trials
trials_planned plan.Back m trials = 0
trials_planned other m trials = trials

-- the metadata is stored, or nothing is done
abbrev pub StoresIf : {T : Type 0} → Bool → Result T FlashStop → Layout → Meta → Told → Told → Type 0
StoresIf true result L m s t = Stores result L m s t
StoresIf false result L m s t = IsTrue (is_ok result) × (t ≡ s)

-- ---- a plan carried out

-- the bank that is gone back to holds a package that may be started
abbrev pub MayBeDone : Setting → State → Plan → Type 0
MayBeDone E s plan.Back = IsTrue (holds_permitted E s.counter (bank s s.previous).held)
MayBeDone E s other = Unit {0}

-- From a moment that shows a machine, to one that shows it after the plan, or stopped on the way.
pub record CarriesOut (result : Result (Unit {0}) FlashStop) (p : Plan) (old new : Moment) : Type 0 where
  -- on any device, when done
  pub shows : (E : Setting) (s : State) (x : Session) → E.layout ≡ old.fields.layout → Shows old s x
      → OnOk result (Shows new (after s (planned_in E s x [] p).moves) (planned_in E s x [] p).next)
  -- on a flash that is ready, with each loss
  pub does : (E : Setting) (s : State) (x : Session) → E.layout ≡ old.fields.layout → Shows old s x → MayBeDone E s p
      → IsTrue old.tells → IsReady E old.told s → Does result E s (planned_in E s x [] p).moves new.told
  -- on any flash at rest
  pub guarded : IsTrue old.tells → IsAtRest old.told → GuardedBy result new.told
  -- on any flash
  pub keeps : IsTrue old.tells → KeepsSpared old.fields old.told new.told
  -- on every device
  pub touches : SparesBlocks old.fields old.writes new.writes
  pub decides : IsTrue old.tells → KeepsOldOrNew old.fields.layout old.fields.meta new.fields.meta old.told new.told
  pub stays : Stays old new
