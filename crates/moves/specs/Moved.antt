-- What a call leaves of a flash, in the words of the machine.
use Rattle.std.specs.Prelude.{◌≡◌, ℕ, List, [], ◌∷◌, Some, Ok, Err, Result, OnOk}
use Rattle.base_core.specs.Block.{block}
use Rattle.flash_core.specs.{declared.flash.FlashStop.FlashStop, Told.Told, May.Guards}
use Rattle.fwu_formats.specs.{Layout.Layout, Metadata.MetaRead, Metadata.meta_read, Image.layout_seen, Image.deciding}
use Rattle.fwu_model.specs.{State.State, State.Move, State.Migrate, State.after, Sound.Setting, Seen.seen, Calm.IsCalm}
use Rattle.fwu_model.specs.{Calm.IsGuarded, Calm.IsAtRest, Run.prefixes, Headline.LeavesOneOf}
use Rattle.replicas.specs.declared.which.Which.{Which}
use Rattle.replicas.specs.declared.which.Which.TheVariants.{MigrateZero, MigrateOne}

-- ---- on a calm flash

-- Between two calls: the flash calmly shows the state, guards the blocks at the front, and replica 1 holds what decides,
-- so that replica 0 may be written.
pub record IsReady (E : Setting) (t : Told) (s : State) : Type 0 where
  pub calm : IsCalm E t s
  pub guarded : Guards 1 7 t
  pub one : (r : MetaRead) → deciding E.layout t.now ≡ Some r → meta_read E.layout (block 2 t.now) ≡ Some r

-- What a call with these moves leaves, from a state:
-- each image of a power-on shows a prefix of them, and when done, the flash is ready after all.
pub record Does {T : Type 0} (result : Result T FlashStop) (E : Setting) (s : State) (ms : List Move) (t : Told) : Type 0 where
  pub each : LeavesOneOf E (prefixes s ms) t
  pub all : OnOk result (IsReady E t (after s ms))

-- ---- on any flash, sound or not

-- the image has the layout and shows the state
pub record IsShown (L : Layout) (image : List ℕ) (s : State) : Type 0 where
  pub layout : layout_seen image ≡ Ok L
  pub shows : seen image ≡ Some s

-- what a call with these moves shows when done
abbrev pub ShowsAfter : {T : Type 0} → Result T FlashStop → Layout → State → List Move → Told → Type 0
ShowsAfter result L s ms t = OnOk result (IsShown L t.now (after s ms))

-- an answer leaves the flash at rest, and a stop leaves it guarded
abbrev pub GuardedBy : {T : Type 0} → Result T FlashStop → Told → Type 0
GuardedBy (Ok x) t = IsAtRest t
GuardedBy (Err stop) t = IsGuarded t

-- ---- repairs

-- what a repair is to the machine
abbrev pub repair_moves : Which → List Move
repair_moves MigrateZero = Migrate ∷ []
repair_moves MigrateOne = Migrate ∷ []
repair_moves other = []
