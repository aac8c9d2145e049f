-- The ways that `run --gpt` or `boot --gpt` may end.
use Rattle.std.specs.Prelude.{◌≡◌, ◌≢◌, ℕ, Bool, List, Option, Some, IsTrue, IsFalse, []}
use Rattle.gpt_core.specs.{declared.layout.Places.Places, Beside.Beside, Beside.TouchesPlaces}
use Rattle.fwu_model.specs.Call.{Call}
use Rattle.agent_machine.specs.Fields.{Fields}
use Rattle.fwu_words.specs.{Order.Asked, declared.orders.Place.Place}
use Rattle.fwu_words.specs.declared.orders.Place.TheVariants as place
use Rattle.script_turns.specs.{Powered.TurnMoment, Runs.Ran}
use Rattle.flash_core.specs.declared.flash.Flash as flash
use Rattle.host_io.specs.declared.files.Files as files
use Rattle.host_io.specs.declared.sink.Sink as sink
use Rattle.host_io.specs.Printed.{Prints}
use Rattle.script_runs.specs.{declared.done.Done.Done, declared.done.Note.Note, declared.done.NoTable.NoTable}
use Rattle.script_runs.specs.Ending.{ScriptEnded, Printed}
use Rattle.script_runs.specs.declared.done.Note.TheVariants as note
use Rattle.script_runs.specs.ByTable.{Looks, Starts, StopsBefore, flash_fault_line, lacked_in, no_table_line, seen_at}
use Rattle.script_runs.specs.Ending.{Device, Ending, PutsNone, World, ending, in_model, is_beyond_model, noted}
use Rattle.script_runs.specs.Ways.{AsksTurns, Given, HasCalls, HasGoodList, Way, described, world_at}

-- the script was read whole, and has these calls
pub record ReadsScript (asked : Option Asked) (g : Given) (calls : List Call) : Type 0 where
  pub good : HasGoodList g.list g.files
  pub asks : AsksTurns asked
  pub has : HasCalls g.script calls

-- It ended before the device was touched, as without a table. Or power came, and before the first turn memory was
-- wanting, or the table gave no flash, or the device stopped. Or the turns ran on the flash that the device has at
-- the table's places, and no fault of the files was counted but by them.
pub data WayByTable (passes : List ℕ → Bool) (device : Device) (asked : Option Asked) (g : Given)
    (ending : Ending Note) (old new : World) : Type 0 where
  untouched : ending.journal ≡ [] → new.flash ≡ old.flash → ending.status ≢ 0 → IsFalse (is_beyond_model ending.noted)
      → Way passes device.tells asked g (in_model ending) old new
      → WayByTable passes device asked g ending old new
  starved : (calls : List Call) → ReadsScript asked g calls → ending.journal ≡ [] → Looks device.tells old.flash new.flash
      → ending.status ≡ 9 → ending.noted ≡ note.Nothing → PutsNone old new
      → WayByTable passes device asked g ending old new
  lacked : (calls : List Call) (why : NoTable) → ReadsScript asked g calls → ending.journal ≡ []
      → Looks device.tells old.flash new.flash
      → (IsTrue device.tells → lacked_in device.blocks new.flash.told.now ≡ Some why)
      → ending.noted ≡ note.NoTable why
      → Prints (no_table_line why) 10 ending.status old.taken new.taken old.faults.sink new.faults.sink
      → WayByTable passes device asked g ending old new
  stopped : (calls : List Call) → ReadsScript asked g calls → ending.journal ≡ []
      → StopsBefore device.tells device.blocks old.flash new.flash → ending.noted ≡ note.Nothing
      → Prints flash_fault_line 5 ending.status old.taken new.taken old.faults.sink new.faults.sink
      → WayByTable passes device asked g ending old new
  ran : (calls : List Call) (p : Places) (start : TurnMoment) (on : Option Fields)
      → ReadsScript asked g calls → Starts device.tells device.blocks old.flash p start
      → Ran passes device.tells g.files ending.journal (seen_at p start) (seen_at p (record new.flash { on = on }))
      old.faults.files new.faults.files
      → (IsTrue device.tells → Beside p start.told new.flash.told)
      → TouchesPlaces p start.writes new.flash.writes
      → ScriptEnded calls ending.journal ending.status (noted ending.noted) → IsFalse (is_beyond_model ending.noted)
      → Printed ending.journal ending.status old.taken new.taken old.faults.sink new.faults.sink
      → WayByTable passes device asked g ending old new

-- The ways that a run may end at the place that was asked for.
abbrev pub WayAt : Place → (List ℕ → Bool) → Device → Option Asked → Given → Ending Note → World → World → Type 0
WayAt place.Flash passes device asked g ending old new = Way passes device.tells asked g (in_model ending) old new
WayAt place.Partitions passes device asked g ending old new = WayByTable passes device asked g ending old new

-- one of these ways, of the device, the files and the sink, where the source had failed so often before and after
abbrev pub GoesAt : {D H O : Type 0} → Place → flash.Ghosts D → files.Ghosts H → sink.Ghosts O → (List ℕ → Bool) → Option Asked
    → Given → ℕ → ℕ → D → H → O → Done D → H → O → Type 0
GoesAt at d h o passes asked g before after flash files sink done files_after sink_after =
    WayAt at passes (described d flash) asked g (ending done) (world_at d h o before flash files sink)
    (world_at d h o after done.flash files_after sink_after)
