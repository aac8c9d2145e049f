-- The ways that a soak may end.
use Rattle.std.specs.Prelude.{◌≡◌, ◌≢◌, ℕ, true, List, ◌∷◌, ◌++◌, Option, Some, None, Ok, Err, IsTrue, IsFalse, []}
use Rattle.fwu_formats.specs.{Digests.passes_any, declared.kinds.LayoutFault.TheVariants.BeyondFlash}
use Rattle.fwu_model.specs.{Call.Call, Reply.Turn, Run.ends_run, Headline.IsPrefixOf, Causes.status_by, Causes.note_by}
use Rattle.fwu_model.specs.Causes.{Faults}
use Rattle.fwu_model.specs.Reply as reply
use Rattle.fwu_model.specs.declared.kinds.Note as model
use Rattle.fwu_model.specs.declared.kinds.Note.TheVariants as model_note
use Rattle.fwu_words.specs.Order as ask
use Rattle.agent_machine.specs.Fields.{Fields}
use Rattle.flash_format.specs.{declared.formatting.Formatted.Formatted, declared.stops.FormatStop.FormatStop}
use Rattle.flash_format.specs.declared.stops.InputFault.TheVariants as fault
use Rattle.gen_core.specs.{Calls.file_name, Calls.soak_calls, Line.soak_line, Line.too_small_line, Setup.is_too_small}
use Rattle.gen_core.specs.Setup.{soak_layout}
use Rattle.script_turns.specs.{Powered.TurnMoment, Runs.Ran, Runs.calls_of}
use Rattle.script_runs.specs.Ending.{Device, Ending, PutsNone, World, ending, in_model, is_beyond_model, noted}
use Rattle.flash_core.specs.declared.flash.Flash as flash
use Rattle.host_io.specs.declared.sink.Sink as sink
use Rattle.host_io.specs.Printed.{Prints}
use Rattle.script_runs.specs.{Ways.Given, Ways.HasGoodList, Ways.described, Ways.moment_world, declared.done.Done.Done}
use Rattle.script_runs.specs.declared.done.Note.{Note}
use Rattle.script_runs.specs.declared.done.Note.TheVariants as note
use Rattle.flash_commands.specs.Formatting.{Tries, format_note, format_status, format_text}
use Rattle.flash_commands.specs.{Showing.RefusedList, Soaking.EndsNone, Soaking.first_files, Soaking.soak_files, Soaking.stop_line}

-- How the turns of a soak of these calls ended, and which line was put into the sink. All calls were done, and the line is that of
-- the totals. Or memory was wanting, for more calls or for the line, and there is none. Or the last turn ended it, and the line is
-- that turn's.
pub data SoakEnds (rounds : ℕ) (calls : List Call) (ending : Ending model.Note) (taken_before taken_after : Option (List ℕ))
    (faults_before faults_after : ℕ) : Type 0 where
  all_done : calls_of ending.journal ≡ calls → EndsNone ending.journal → ending.noted ≡ model_note.Nothing
      → Prints (soak_line rounds ending.journal) 0 ending.status taken_before taken_after faults_before faults_after
      → SoakEnds rounds calls ending taken_before taken_after faults_before faults_after
  lacking : IsPrefixOf (calls_of ending.journal) calls → EndsNone ending.journal → ending.noted ≡ model_note.Nothing
      → ending.status ≡ 9 → taken_after ≡ taken_before → faults_after ≡ faults_before
      → SoakEnds rounds calls ending taken_before taken_after faults_before faults_after
  stopped : IsPrefixOf (calls_of ending.journal) calls → (front : List Turn) (t : Turn)
      → ending.journal ≡ front ++ t ∷ [] → EndsNone front
      → IsTrue (ends_run t.reply) → t.reply ≢ reply.ReadFault → ending.noted ≡ note_by t.reply
      → Prints (stop_line t) (status_by t.reply) ending.status taken_before taken_after faults_before faults_after
      → SoakEnds rounds calls ending taken_before taken_after faults_before faults_after

-- Nothing was done, since a list of digests was not read or is none, or for want of memory, or on a flash that is too small. Or the
-- flash was not formatted. Or it was, and the turns ran from there on, with the packages of all rounds as files, by any manifest.
pub data SoakWay (device : Device) (g : Given) (seed rounds : ℕ) (ending : Ending Note) (old new : World) : Type 0 where
  list_refused : ending.journal ≡ [] → new.flash ≡ old.flash → IsFalse (is_beyond_model ending.noted)
      → RefusedList (ask.soak seed rounds) g ending.status (noted ending.noted) old new
      → SoakWay device g seed rounds ending old new
  starved : ending.journal ≡ [] → new.flash ≡ old.flash → ending.status ≡ 9 → ending.noted ≡ note.Nothing → PutsNone old new
      → SoakWay device g seed rounds ending old new
  too_small : HasGoodList g.list g.files → IsTrue (is_too_small device.blocks) → ending.journal ≡ [] → new.flash ≡ old.flash
      → ending.noted ≡ note.Input (fault.Layout BeyondFlash)
      → Prints too_small_line 7 ending.status old.taken new.taken old.faults.sink new.faults.sink
      → SoakWay device g seed rounds ending old new
  not_formatted : HasGoodList g.list g.files → IsFalse (is_too_small device.blocks) → ending.journal ≡ [] → (stop : FormatStop)
      → Tries passes_any device.tells (Some (first_files seed)) (file_name 0) soak_layout device.blocks
      old.flash new.flash 0 0 (Err stop)
      → ending.noted ≡ format_note (Err stop) → new.faults.files ≡ old.faults.files
      → Prints (format_text (Err stop)) (format_status (Err stop)) ending.status
      old.taken new.taken old.faults.sink new.faults.sink
      → SoakWay device g seed rounds ending old new
  ran : HasGoodList g.list g.files → IsFalse (is_too_small device.blocks)
      → (done : Formatted) (start : TurnMoment) (on : Option Fields)
      → Tries passes_any device.tells (Some (first_files seed)) (file_name 0) soak_layout device.blocks
      old.flash start 0 0 (Ok done)
      → start.on ≡ None → start.power ≡ true
      → Ran passes_any device.tells (Some (soak_files seed rounds)) ending.journal start (record new.flash { on = on }) 0 0
      → SoakEnds rounds (soak_calls seed rounds) (in_model ending) old.taken new.taken old.faults.sink new.faults.sink
      → IsFalse (is_beyond_model ending.noted) → new.faults.files ≡ old.faults.files
      → SoakWay device g seed rounds ending old new

-- one of these ways, of the device and the sink, whatever the files and the source had counted, which are not asked
abbrev pub SoaksWay : {D O : Type 0} → flash.Ghosts D → sink.Ghosts O → Given → ℕ → ℕ → Faults → D → O → Done D → O → Type 0
SoaksWay d o g seed rounds faults flash sink done sink_after =
    SoakWay (described d flash) g seed rounds (ending done) (moment_world d o faults flash sink)
    (moment_world d o faults done.flash sink_after)
