-- The ways that `run` or `boot` may end: before the first turn, or by the turns of a script.
use Rattle.std.specs.Prelude.{◌≡◌, ◌⊎◌, ℕ, Bool, false, List, Option, Some, None, Ok, Err, IfSome, IsTrue, IsSome, []}
use Rattle.flash_core.specs.Counts.{Rose}
use Rattle.fwu_model.specs.{Call.Call, Script.script_of, Script.is_too_long, Causes.Faults, Causes.LacksList, Allow.list_bytes}
use Rattle.fwu_model.specs.declared.kinds.Note.{Note}
use Rattle.agent_machine.specs.Fields.{Fields}
use Rattle.fwu_model.specs.Wrote.{usage_line, not_read_line, too_long_line, bad_script_line, bad_list_line, IsBadScript, IsBadList}
use Rattle.fwu_formats.specs.Digests.{digests_of}
use Rattle.fwu_model.specs.declared.kinds.Note.TheVariants as note
use Rattle.fwu_words.specs.Order.{Asked}
use Rattle.fwu_words.specs.Order as ask
use Rattle.script_turns.specs.{Powered.moment, Runs.Ran}
use Rattle.flash_core.specs.declared.flash.Flash as flash
use Rattle.host_io.specs.declared.files.Files as files
use Rattle.host_io.specs.declared.source.Source as source
use Rattle.host_io.specs.declared.sink.Sink as sink
use Rattle.host_io.specs.Printed.{Prints}
use Rattle.script_runs.specs.{Ending.Device, Ending.Ending, Ending.PutsNone, Ending.World, Ending.ScriptEnded, Ending.Printed}

-- what the program was given to read: the list's name, the told files, and the script that is told
pub record Given : Type 0 where
  pub list : Option (List ℕ)
  pub files : Option (List ℕ → Option (List ℕ))
  pub script : Option (List ℕ)

-- what a command was given that names no list, with this script
abbrev pub without_list : {H : Type 0} → files.Ghosts H → Option (List ℕ) → H → Given
without_list h script files = record { list = None; files = h.contents files; script = script }

-- `run` or `boot` is asked for
abbrev pub AsksTurns : Option Asked → Type 0
AsksTurns asked = (asked ≡ Some ask.run) ⊎ (asked ≡ Some ask.boot)

-- the named list, where the files are told, is there and has no bad line
pub record HasGoodList (list : Option (List ℕ))
    (files : Option (List ℕ → Option (List ℕ))) : Type 0 where
  pub there : LacksList files list → ⊥
  pub good : IfSome (list_bytes list files) (λ bytes. (n : ℕ) → digests_of bytes ≡ Err n → ⊥)

-- Why nothing ran, with the status, the note and the line of that. A fault of the list comes before the others.
pub data Refuses (asked : Option Asked) (g : Given) (faults_before faults_after : Faults) : ℕ → Note → List ℕ → Type 0 where
  usage : HasGoodList g.list g.files → asked ≡ None → Refuses asked g faults_before faults_after 1 note.Nothing usage_line
  not_read : HasGoodList g.list g.files → asked ≡ Some ask.run → Rose faults_before.source faults_after.source
      → Refuses asked g faults_before faults_after 2 note.Nothing not_read_line
  list_not_read : IsSome g.list → Rose faults_before.files faults_after.files ⊎ LacksList g.files g.list
      → Refuses asked g faults_before faults_after 2 note.Nothing not_read_line
  too_long : HasGoodList g.list g.files → asked ≡ Some ask.run → IfSome g.script (λ bytes. IsTrue (is_too_long bytes))
      → Refuses asked g faults_before faults_after 8 note.Nothing too_long_line
  bad_script : (n : ℕ) → HasGoodList g.list g.files → AsksTurns asked → IfSome g.script (λ bytes. is_too_long bytes ≡ false)
      → IsBadScript g.script n
      → Refuses asked g faults_before faults_after 4 (note.BadLine n) (bad_script_line n)
  bad_list : (n : ℕ) → IsSome g.list → (LacksList g.files g.list → ⊥) → IsBadList (list_bytes g.list g.files) n
      → Refuses asked g faults_before faults_after 13 (note.BadList n) (bad_list_line n)

-- the asked script, where it is told, was read whole, within the limits, and has these calls
abbrev pub HasCalls : Option (List ℕ) → List Call → Type 0
HasCalls script calls = IfSome script (λ bytes. (is_too_long bytes ≡ false) × (script_of bytes ≡ Ok calls))

-- what is compared before and after a command: what it looks at besides the files and the source, and what those count
abbrev pub moment_world : {D O : Type 0} → flash.Ghosts D → sink.Ghosts O → Faults → D → O → World
moment_world d o faults flash sink =
    record {
      flash = moment d flash;
      taken = o.taken sink;
      faults = record faults { sink = o.faults sink };
    }

-- the same, of files that count so, where the source counts this many failures
abbrev pub world_at : {D H O : Type 0} → flash.Ghosts D → files.Ghosts H → sink.Ghosts O → ℕ → D → H → O → World
world_at d h o source flash files sink = moment_world d o (record { files = h.faults files; source = source; sink = 0 }) flash sink

-- and of a source
abbrev pub world : {D H I O : Type 0} → flash.Ghosts D → files.Ghosts H → source.Ghosts I → sink.Ghosts O → D → H → I → O → World
world d h i o flash files source sink = world_at d h o (i.faults source) flash files sink

-- what a line that was put into this sink makes of a status
abbrev pub PrintsTo : {O : Type 0} → sink.Ghosts O → List ℕ → ℕ → ℕ → O → O → Type 0
PrintsTo o piece planned status old new = Prints piece planned status (o.taken old) (o.taken new) (o.faults old) (o.faults new)

-- what a device is
abbrev pub described : {D : Type 0} → flash.Ghosts D → D → Device
described d flash = record { tells = d.tells; blocks = d.blocks flash }

-- Nothing ran for want of memory; or for a cause, whose line was put into the sink; or the turns of the script ran, and no fault of
-- the files was counted but by them.
pub data Way (passes : List ℕ → Bool) (tells : Bool) (asked : Option Asked) (g : Given)
    (ending : Ending Note) (old new : World) : Type 0 where
  starved : ending.journal ≡ [] → new.flash ≡ old.flash → ending.status ≡ 9 → ending.noted ≡ note.Nothing → PutsNone old new
      → Way passes tells asked g ending old new
  refused : (planned : ℕ) (line : List ℕ) → ending.journal ≡ [] → new.flash ≡ old.flash
      → Refuses asked g old.faults new.faults planned ending.noted line
      → Prints line planned ending.status old.taken new.taken old.faults.sink new.faults.sink
      → Way passes tells asked g ending old new
  ran : (calls : List Call) (on : Option Fields) → HasGoodList g.list g.files → AsksTurns asked → HasCalls g.script calls
      → Ran passes tells g.files ending.journal old.flash (record new.flash { on = on }) old.faults.files new.faults.files
      → ScriptEnded calls ending.journal ending.status ending.noted
      → Printed ending.journal ending.status old.taken new.taken old.faults.sink new.faults.sink
      → Way passes tells asked g ending old new
