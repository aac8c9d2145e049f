-- What a run of turns did so far.
use Rattle.std.specs.List.{list_all}
use Rattle.std.specs.Prelude.{not, ◌≡◌, ◌⊎◌, ℕ, ◌+◌, ◌*◌, ◌%◌, ◌≤◌, Bool, List, ◌∷◌, length, map, sum_by, count_by, Option, Some}
use Rattle.std.specs.Prelude.{None, IsTrue, Contains, slice_get, []}
use Rattle.base_core.specs.Block.{block_bytes}
use Rattle.flash_core.specs.{declared.flash.Arming.Arming, Told.NothingDirty, May.Guards}
use Rattle.flash_core.specs.Counts.{Rose, all_stops, stops_in}
use Rattle.host_io.specs.Contents.{Directory}
use Rattle.fwu_formats.specs.Places.{counter_block, layout_block}
use Rattle.fwu_model.specs.{State.State, Sound.Setting, Seen.seen, Seen.SoundFlash, Call.Call, Reply.Turn, Run.Condition, Run.Runs}
use Rattle.fwu_model.specs.{Run.ends_run, Run.is_boot, Run.is_send, Headline.ArmedBy, Headline.made_after, Causes.FileNotRead}
use Rattle.fwu_model.specs.Causes.{LossesAreCounted, cuts_in, greatest, losses_in}
use Rattle.fwu_model.specs.Call as call
use Rattle.fwu_model.specs.Reply as reply
use Rattle.agent_machine.specs.{Beside.IsBesideBank, Fields.Fields}
use Rattle.script_turns.specs.Powered.{FitsMachine, TurnMoment, IsAt, IsSafe}
use Rattle.script_turns.specs.{Boots.BootsFrom, Replies.power_after, Takes.stop_told, Turning.NoneFalls, Turning.Turns}

abbrev pub calls_of : List Turn → List Call
calls_of journal = map (λ (t : Turn). t.call) journal

-- no call reads a file
abbrev pub sends_none : List Call → Bool
sends_none script = list_all (λ c. not (is_send c)) script

-- how many turns of a journal tell a stop of the flash
abbrev pub stops_of : List Turn → ℕ
stops_of journal = sum_by (λ (t : Turn). stops_in (stop_told t.reply)) journal

-- whether the device has power after the turns of a journal
abbrev pub power_left : Bool → List Turn → Bool
power_left power [] = power
power_left power (t ∷ turns) = power_left (power_after power t.reply) turns

-- The turns of a journal, one after the other, from a device and the files' faults to those that they leave.
-- After each of them an agent that is there fits some machine, on any device.
abbrev pub Follows : (List ℕ → Bool) → Bool → Option Directory → List Turn → TurnMoment → TurnMoment → ℕ → ℕ → Type 0
Follows passes tells files [] old new from to = (new ≡ old) × (to ≡ from)
Follows passes tells files (t ∷ turns) old new from to =
    (mid : TurnMoment) × (n : ℕ) × Turns passes tells files t.call t old mid from n × FitsMachine tells mid
    × Follows passes tells files turns mid new n to

-- a flash from which the headline holds: sound, with nothing dirty, and guarded at the front
pub record StartsSound (E : Setting) (start : State) (passes : List ℕ → Bool)
    (old : TurnMoment) : Type 0 where
  pub clean : NothingDirty old.told
  pub sound : SoundFlash E old.told.now
  pub shows : seen old.told.now ≡ Some start
  pub guarded : Guards 1 7 old.told
  pub passes_are : E.passes ≡ passes

-- the machine's run leads to a condition that the flash is at
pub record RunsTo (E : Setting) (start : State) (journal : List Turn)
    (old new : TurnMoment) : Type 0 where
  pub last : Condition
  pub runs : Runs E start journal last
  pub is_at : IsAt E last new.on new.told
  pub armed : ArmedBy last journal old.counts new.counts new.armed

-- No loss was armed and no turn is a `cut`: none is armed, none was reached, and a turn is lost only to a loss that none armed.
pub record RunsFree (journal : List Turn) (old new : TurnMoment) : Type 0 where
  pub armed : new.armed ≡ None
  pub reached : new.counts.reached ≡ old.counts.reached
  pub lost : (t : Turn) → Contains journal t → t.reply ≡ reply.Lost → Rose old.counts.cuts new.counts.cuts

-- how many losses a device has armed
abbrev pub armings_left : Option Arming → ℕ
armings_left None = 0
armings_left (Some arming) = 1

-- There are no more lost turns than lines `cut`, a loss that was armed at first, and losses that no arming made. The device counts
-- these, unless their count stands at the greatest number. A loss that is still armed is one lost turn less.
abbrev pub LossesAreDue : List Turn → TurnMoment → TurnMoment → Type 0
LossesAreDue journal old new =
    (losses_in journal + armings_left new.armed + old.counts.cuts ≤ cuts_in journal + armings_left old.armed + new.counts.cuts)
    ⊎ (greatest ≤ new.counts.cuts)

-- how many turns of a journal are a boot
abbrev pub boots_in : List Turn → ℕ
boots_in journal = count_by (λ (t : Turn). is_boot t.call) journal

-- No block is erased or programmed but blocks 1 to 6, and those of the bank behind the one that was started.
abbrev pub SparesBanks : Fields → (ℕ → ℕ) → (ℕ → ℕ) → Type 0
SparesBanks f old new = (b : ℕ) → (block_bytes * b + block_bytes ≤ block_bytes) ⊎ (block_bytes * 7 ≤ block_bytes * b)
    → IsBesideBank f.layout ((f.boot + 1) % f.layout.banks) (block_bytes * b) → new b ≡ old b

-- Which blocks a run erases or programs, on every device that counts its writes, whatever its reads give.
pub record RunTouches (journal : List Turn) (old new : TurnMoment) : Type 0 where
  -- never block 0, which has the layout, nor block 4, which has the counter's marks
  pub layout_still : new.writes layout_block ≡ old.writes layout_block
  pub marks_still : new.writes counter_block ≡ old.writes counter_block
  -- none without a boot, and nothing is on
  pub unbooted : boots_in journal ≡ 0 → (new.on ≡ None) × (new.writes ≡ old.writes)
  -- where one boot started a bank, whose agent is there at the end
  pub banks : boots_in journal ≤ 1 → (f : Fields) → new.on ≡ Some f → SparesBanks f old.writes new.writes

-- The turns of the journal were done, one after the other. The files' faults were some, and are some.
pub record Ran (passes : List ℕ → Bool) (tells : Bool) (files : Option Directory)
    (journal : List Turn) (old new : TurnMoment) (from to : ℕ) : Type 0 where
  pub counts : NoneFalls old.counts new.counts
  -- no failure and no loss is counted but those that the turns tell
  pub once : all_stops new.counts ≤ all_stops old.counts + stops_of journal
  -- each `cut` is an arming, and there are no others
  pub made : new.counts.made ≡ made_after old.counts.made (cuts_in journal)
  pub free : old.armed ≡ None → cuts_in journal ≡ 0 → RunsFree journal old new
  pub lost_turns : LossesAreCounted journal old.counts new.counts
  pub due : LossesAreDue journal old new
  pub fault_turns : (t : Turn) → Contains journal t → t.reply ≡ reply.Fault → Rose old.counts.faults new.counts.faults
  pub unread_turns : (t : Turn) → Contains journal t → t.reply ≡ reply.ReadFault → FileNotRead files from to t.call
  pub later : from ≤ to
  -- on any device that counts its writes: which blocks were erased or programmed
  pub touches : RunTouches journal old new
  -- what each of them did, on any device
  pub follows : Follows passes tells files journal old new from to
  pub power : new.power ≡ power_left old.power journal
  pub guard : IsTrue tells → new.told.guard ≡ old.told.guard
  -- a turn that ends the run is the last
  pub ends : (n : ℕ) (t : Turn) → slice_get journal n ≡ Some t → IsTrue (ends_run t.reply) → n + 1 ≡ length journal
  pub run : IsTrue tells → (E : Setting) (start : State) → StartsSound E start passes old → files ≡ Some E.files
      → (Rose old.counts.chances new.counts.chances → ⊥) → RunsTo E start journal old new
  pub safe : IsTrue tells → NothingDirty old.told → Guards 1 7 old.told → IsSafe new.power new.told
  -- until the first turn nothing is done, and where it is a boot it goes by the bytes
  pub untouched : journal ≡ [] → (new ≡ old)
  pub first : IsTrue tells → NothingDirty old.told → (t : Turn) → slice_get journal 0 ≡ Some t
      → t.call ≡ call.Boot → BootsFrom passes old.told.now t.reply
