-- What a boot's reply says of the bytes of a flash, sound or not, and what a boot does.
use Rattle.std.specs.Prelude.{◌≡◌, ℕ, Bool, List, Some, None, ⊤, Ok, Err, ◌⊎◌, Option, IsTrue}
use Rattle.fwu_model.specs.{State.State, State.Numbers, Answer.booted_package, Reply.Reply}
use Rattle.fwu_model.specs.Reply.{Turn}
use Rattle.fwu_model.specs.declared.kinds.NoBoot.TheVariants as no_boot
use Rattle.fwu_formats.specs.{Layout.Layout, Manifest.version, Image.layout_seen, Image.deciding}
use Rattle.fwu_model.specs.Reply as reply
use Rattle.early_boot.specs.EndsBy.{Chose, BootEnds, IdleEnd, StartedBy, StartsPermitted, TakesBoot, TakesByBytes, TouchesBoot}
use Rattle.flash_core.specs.{Counts.Rose, Counts.Idles, Told.fresh, May.Leaves, May.NoChance}
use Rattle.agent_machine.specs.Fields.{Fields}
use Rattle.agent_calls.specs.Started.{StartsFrom}
use Rattle.early_boot.specs.Started.{started_reply}
use Rattle.early_boot.specs.Ends.{Ended, booted, bad_layout, no_metadata, no_bank, lost, failed}
use Rattle.script_turns.specs.Powered.{TurnMoment, SameDevice}

-- this bank is chosen, and the version is that of the package that it holds
pub record ChoseBank (passes : List ℕ → Bool) (image : List ℕ) (bank v : ℕ) : Type 0 where
  pub layout : Layout
  pub state : State
  pub chose : Chose passes image layout state (Some bank)
  pub version_is : v ≡ version (booted_package state bank)

-- none is chosen
pub record ChoseNone (passes : List ℕ → Bool) (image : List ℕ) (active previous : ℕ) : Type 0 where
  pub layout : Layout
  pub state : State
  pub chose : Chose passes image layout state None
  pub active_is : active ≡ state.active
  pub previous_is : previous ≡ state.previous

-- by the layout, the metadata that decides, and the choice; a stop says nothing of them, and a boot has no other reply
abbrev pub BootsFrom : (List ℕ → Bool) → List ℕ → Reply → Type 0
BootsFrom passes image (reply.Booted bank v trials counter fallback) = ChoseBank passes image bank v
BootsFrom passes image (reply.NotBooted (no_boot.Layout f)) = layout_seen image ≡ Err f
BootsFrom passes image (reply.NotBooted no_boot.Metadata) = (L : Layout) × (layout_seen image ≡ Ok L) × (deciding L image ≡ None)
BootsFrom passes image (reply.NotBooted (no_boot.Bank active previous)) = ChoseNone passes image active previous
BootsFrom passes image reply.Lost = ⊤
BootsFrom passes image reply.Fault = ⊤
BootsFrom passes image other = ⊥

-- ---- what a boot does, by how it ended

abbrev pub reply_of_end : Ended → Reply
reply_of_end (booted b n) = started_reply b
reply_of_end (bad_layout f) = reply.NotBooted (no_boot.Layout f)
reply_of_end no_metadata = reply.NotBooted no_boot.Metadata
reply_of_end (no_bank active previous) = reply.NotBooted (no_boot.Bank active previous)
reply_of_end (lost n) = reply.Lost
reply_of_end (failed n) = reply.Fault

-- the numbers that the flash held as the boot began, where the boot tells them
abbrev pub numbers_of_end : Ended → Option Numbers
numbers_of_end (booted b n) = Some n
numbers_of_end (lost n) = n
numbers_of_end (failed n) = n
numbers_of_end other = None

-- what the agent keeps afterwards: what it started from, where a bank was booted
abbrev pub IsOnAfter : Ended → Option Fields → Type 0
IsOnAfter (booted b n) (Some f) = StartsFrom b f
IsOnAfter (booted b n) None = ⊥
IsOnAfter other on = on ≡ None

-- ---- a flash that is to boot has power

-- No bank is on: power came back, or was there with nothing dirty.
pub record PowersOn (tells : Bool) (old new : TurnMoment) : Type 0 where
  pub writes : new.writes ≡ old.writes
  pub idles : Idles old.counts new.counts
  pub made : new.counts.made ≡ old.counts.made
  pub armed : new.armed ≡ old.armed
  pub clean : IsTrue tells → new.told ≡ fresh old.told.guard new.told.now
  pub leaves : IsTrue tells → Leaves old.told new.told.now
  pub chance : IsTrue tells → Rose old.counts.chances new.counts.chances ⊎ NoChance old.told new.told.now

-- by what its agent kept: a flash on which a bank was started is as it was
abbrev pub GetsPower : Bool → Option Fields → TurnMoment → TurnMoment → Type 0
GetsPower tells None old new = PowersOn tells old new
GetsPower tells (Some f) old new = SameDevice old new

-- ---- all of it

-- The flash had power, and its boot ended so. On any device, where it wasn't stopped, an armed loss came nearer by the repair and
-- the count of the start alone. Where the boot found no layout or no metadata it came no nearer. What was started may be, by the
-- numbers at entry, with the counter and the trials that they make. It is of a version that some complete package has whose
-- manifest passes, not below the counter, with images of the lengths that are told. These numbers, also those of a stop, are
-- numbers of a flash. Where the content is told, the end is that of the bytes, sound or not, and so are what was written and how
-- much nearer an armed loss came.
pub record BootsAs (passes : List ℕ → Bool) (tells : Bool) (old : TurnMoment) (t : Turn) (new : TurnMoment) : Type 0 where
  pub mid : TurnMoment
  pub has : GetsPower tells old.on old mid
  pub end : Ended
  pub reply_is : t.reply ≡ reply_of_end end
  pub numbers_are : t.numbers ≡ numbers_of_end end
  pub on_is : IsOnAfter end new.on
  pub idle : IdleEnd end mid.armed new.armed mid.counts new.counts
  -- by the repair of the metadata, and by what the start is counted as; a loss that is armed stays so while power comes back
  pub spent : TakesBoot end old.armed new.armed
  -- on any device that counts its writes: no block was erased or programmed but these, which are of blocks 1 to 3, 5 and 6
  pub touches : TouchesBoot end mid.writes new.writes
  pub started : StartedBy end
  pub permitted : StartsPermitted passes end
  pub once : IsTrue tells → TakesByBytes mid.told.now end mid.armed new.armed
  pub ends : IsTrue tells → BootEnds passes mid.told end new.told
