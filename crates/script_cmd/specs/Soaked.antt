-- What the command `soak` promises, whichever way it ends.
use Rattle.std.specs.Prelude.{◌≡◌, ◌≢◌, ◌⊎◌, ℕ, ◌||◌, ◌==◌, List, Some, None, IsSome, IsTrue, IsFalse, [], Result, Err}
use Rattle.std.specs.Prelude.{Bool, IfOk, IfErr}
use Rattle.flash_core.specs.{Counts.Rose, May.Guards}
use Rattle.fwu_formats.specs.{Digests.passes_any, declared.kinds.LayoutFault.TheVariants.BeyondFlash}
use Rattle.flash_format.specs.{Formatted.IsFormatted, Formatted.first_state, declared.formatting.Formatted.Formatted}
use Rattle.flash_format.specs.{declared.stops.FormatStop.FormatStop, declared.stops.InputFault.InputFault}
use Rattle.flash_format.specs.declared.stops.FormatStop.TheVariants.{Input}
use Rattle.flash_format.specs.declared.stops.InputFault.TheVariants as fault
use Rattle.fwu_model.specs.{Reply.Turn, Seen.seen, Sound.Setting, Headline.Headline, Headline.IsPrefixOf, Headline.made_after}
use Rattle.fwu_model.specs.{Causes.LacksList, Causes.cuts_in, Causes.may_fail_before, Allow.list_bytes, Wrote.IsBadList}
use Rattle.fwu_model.specs.{declared.kinds.NoBoot.NoBoot, Wrote.bad_list_line, Wrote.not_read_line}
use Rattle.fwu_model.specs.Text as text
use Rattle.fwu_model.specs.Reply as reply
use Rattle.gen_core.specs.{Calls.file_name, Calls.soak_calls, Generated.generated_images, Line.soak_line, Line.too_small_line}
use Rattle.gen_core.specs.{Rounds.sizes_in_round, Setup.is_too_small, Setup.soak_layout}
use Rattle.host_io.specs.Printed.{Prints}
use Rattle.serving.specs.Holds.{EndsWith}
use Rattle.script_turns.specs.{Powered.TurnMoment, Turning.NoneFalls, Runs.calls_of}
use Rattle.script_runs.specs.{Ending.Device, Ending.Ending, Ending.PutsNone, Ending.World, Ending.is_beyond_model, Ending.noted}
use Rattle.script_runs.specs.{ByTable.StopHasCause, ByTable.flash_fault_line, Ways.Given, Ways.HasGoodList, declared.done.Note.Note}
use Rattle.script_runs.specs.declared.done.Note.TheVariants as note
use Rattle.flash_commands.specs.{Formatting.Tries, Formatting.format_note, Formatting.format_text, Soaking.first_files}
use Rattle.flash_commands.specs.Soaking.{soak_files}
use Rattle.script_cmd.specs.{Promises.EndsByLast, Promises.RanHolds, Promises.outcome, Handed.HasReadList, Handed.RefusesBadList}

-- the packages of all rounds are the files, and any manifest passes
abbrev pub soak_setting : ℕ → ℕ → Setting
soak_setting seed n = record { layout = soak_layout; files = soak_files seed n; passes = passes_any }

-- the images that the flash is formatted with
abbrev pub first_images : ℕ → List (List ℕ)
first_images seed = generated_images soak_layout.rows (sizes_in_round seed) 0 1

-- The flash was formatted with the first package. From there on the turns are a run of the machine, of the first calls of the
-- soak, all of them at the status 0.
pub record RunsSoak (seed n : ℕ) (journal : List Turn) (status : ℕ) (new : TurnMoment) : Type 0 where
  pub start : TurnMoment
  pub formatted : IsFormatted passes_any soak_layout 1 start.told
  -- it shows the state from which the machine runs
  pub shows : seen start.told.now ≡ Some (first_state soak_layout (first_images seed))
  pub run : Headline (soak_setting seed n) (first_state soak_layout (first_images seed))
      (outcome (soak_calls seed n) journal status start new)

-- ---- what it did to the flash

-- Nothing was done: for a list, for want of memory, or since the flash is too small.
pub record IsIdleSoak (device : Device) (g : Given) (ending : Ending Note) (old new : World) : Type 0 where
  pub no_turns : ending.journal ≡ []
  pub same : new.flash ≡ old.flash
  pub status_is : IsTrue ((ending.status == 7) || (may_fail_before ending.status || (ending.status == 13)))
  pub why : HasReadList g old.faults new.faults → IsFalse (is_too_small device.blocks)
      → (ending.status ≡ 9) × (ending.noted ≡ note.Nothing)

-- a soak whose flash is so, and whose own files never fail
abbrev pub soak_world : TurnMoment → World
soak_world flash = record { flash = flash; taken = None; faults = record { files = 0; source = 0; sink = 0 } }

-- The flash was formatted with the first package, or was not, and the turns ran from there on.
pub record SoaksFlash (device : Device) (g : Given) (seed rounds : ℕ) (ending : Ending Note) (old new : World) : Type 0 where
  pub good : HasGoodList g.list g.files
  pub large : IsFalse (is_too_small device.blocks)
  -- no call of the files failed, as the list was read or later
  pub files : new.faults.files ≡ old.faults.files
  pub result : Result Formatted FormatStop
  pub start : TurnMoment
  pub tries : Tries passes_any device.tells (Some (first_files seed)) (file_name 0) soak_layout device.blocks
      old.flash start 0 0 result
  -- where it was not formatted no turn ran, and why is noted
  pub stopped : IfErr result (λ stop. (ending.journal ≡ []) × (ending.noted ≡ format_note (Err stop)))
  pub formatted : IfOk result (λ done. (start.on ≡ None) × IsFalse (is_beyond_model ending.noted))
  -- what each turn did, by any manifest, with the packages of all rounds as files
  pub turns : RanHolds passes_any device.tells (Some (soak_files seed rounds)) ending.journal
      (soak_world start) (soak_world new.flash)

-- ---- why it ended

-- these may be planned
abbrev pub may_end_soak : ℕ → Bool
may_end_soak planned =
    (planned == 0) || (planned == 2) || (planned == 5) || (planned == 6) || (planned == 7) || (planned == 9) || (planned == 13)

-- The statuses by their causes, with their notes and lines, on any device. The sink took the line, failed at it (3), or found no
-- memory for it (9). Want of memory, 9, has no other cause.
pub record SoakedEnds (device : Device) (g : Given) (seed rounds : ℕ) (ending : Ending Note) (old new : World) : Type 0 where
  pub planned : ℕ
  pub line : List ℕ
  pub prints : Prints line planned ending.status old.taken new.taken old.faults.sink new.faults.sink
  -- there is no other status
  pub no_other : IsTrue (may_end_soak planned)
  -- the calls are the first ones of the soak, and a turn that ends a run is the last
  pub calls : IsPrefixOf (calls_of ending.journal) (soak_calls seed rounds)
  pub by_last : EndsByLast ending.journal planned (noted ending.noted)
  -- all calls were done, and the line is that of their totals
  pub done : planned ≡ 0 → (calls_of ending.journal ≡ soak_calls seed rounds) × (line ≡ soak_line rounds ending.journal)
  -- a list of digests was not read, and the flash is as it was
  pub not_read : planned ≡ 2 → (ending.journal ≡ []) × (new.flash ≡ old.flash) × IsSome g.list
      × (Rose old.faults.files new.faults.files ⊎ LacksList g.files g.list) × (line ≡ not_read_line)
  -- the flash failed at the last turn, or it stopped while it was formatted
  pub flash_fault : planned ≡ 5 → (line ≡ flash_fault_line)
      × ((EndsWith ending.journal reply.Fault × Rose old.flash.counts.faults new.flash.counts.faults)
      ⊎ ((ending.journal ≡ []) × StopHasCause old.flash.counts new.flash.counts))
  -- the last turn is a boot that started no bank, by its line, and why is noted
  pub not_booted : planned ≡ 6 → (why : NoBoot) × (ending.noted ≡ note.Boot why)
      × (by : EndsWith ending.journal (reply.NotBooted why)) × (line ≡ text.line by.last.call (reply.NotBooted why))
  -- the flash is too small, or was refused as it was formatted, and why is noted
  pub refused : planned ≡ 7 → (ending.journal ≡ []) × (why : InputFault) × (ending.noted ≡ note.Input why)
      × (IsTrue (is_too_small device.blocks) → (why ≡ fault.Layout BeyondFlash) × (line ≡ too_small_line))
      × (IsFalse (is_too_small device.blocks) → line ≡ format_text (Err (Input why)))
  -- the list of digests has a bad line, which is noted, and the flash is as it was
  pub not_list : planned ≡ 13 → (ending.journal ≡ []) × (new.flash ≡ old.flash) × IsSome g.list
      × (n : ℕ) × (ending.noted ≡ note.BadList n) × IsBadList (list_bytes g.list g.files) n × (line ≡ bad_list_line n)
  -- and nothing else is noted; for want of memory nothing is put
  pub quiet : IsFalse ((planned == 6) || (planned == 7) || (planned == 13)) → ending.noted ≡ note.Nothing
  pub none : planned ≡ 9 → (ending.status ≡ 9) × PutsNone old new

-- All that `soak` promises.
pub record SoakedBy (device : Device) (g : Given) (seed rounds : ℕ) (ending : Ending Note) (old new : World) : Type 0 where
  -- for every device and sink, told or not: why it ended, and by which line
  pub ends : SoakedEnds device g seed rounds ending old new
  -- for every device: nothing was done, or the flash was formatted, and what each turn did from there on
  pub flash : IsIdleSoak device g ending old new ⊎ SoaksFlash device g seed rounds ending old new
  pub refuses_list : RefusesBadList g old.flash new.flash ending.status old.faults new.faults
  -- on a told device that guards the blocks at the front, where no torn block was sealed by chance:
  -- a run of the machine, unless nothing ran
  pub machine : IsTrue device.tells → Guards 1 7 old.flash.told
      → (Rose old.flash.counts.chances new.flash.counts.chances → ⊥) → ending.journal ≢ []
      → RunsSoak seed rounds ending.journal ending.status new.flash
  -- on a told flash 7 is one that is too small
  pub seven : ending.status ≡ 7 → IsTrue device.tells → IsTrue (is_too_small device.blocks)
  -- the program arms no loss but by its calls, and no count falls
  pub made : new.flash.counts.made ≡ made_after old.flash.counts.made (cuts_in ending.journal)
  pub counts : NoneFalls old.flash.counts new.flash.counts
  pub guard : IsTrue device.tells → new.flash.told.guard ≡ old.flash.told.guard
  -- a flash with room for it does it all, where nothing failed and no loss came while it was formatted, unless memory was wanting
  pub complete : IsTrue device.tells → Guards 1 7 old.flash.told → IsFalse (is_too_small device.blocks)
      → (Rose old.flash.counts.chances new.flash.counts.chances → ⊥)
      → (Rose old.flash.counts.faults new.flash.counts.faults → ⊥)
      → (ending.journal ≡ [] → Rose old.flash.counts.cuts new.flash.counts.cuts → ⊥)
      → HasReadList g old.faults new.faults → (Rose old.faults.sink new.faults.sink → ⊥)
      → (ending.status ≡ 0) ⊎ (ending.status ≡ 9)
