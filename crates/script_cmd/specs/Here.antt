-- What is done for what the words ask for, by each command.
use Rattle.std.specs.Prelude.{◌≡◌, ℕ, Bool, List, Option, Some, None, IsFalse, []}
use Rattle.fwu_formats.specs.Layout.{ImageRow}
use Rattle.fwu_words.specs.Order.{Asked}
use Rattle.fwu_words.specs.Order as ask
use Rattle.script_runs.specs.Ending.{Device, Ending, PutsNone, World, in_model, is_beyond_model}
use Rattle.script_runs.specs.{Ways.Given, Ways.HasGoodList, Ways.Way, WaysByTable.WayByTable, declared.done.Note.Note}
use Rattle.flash_commands.specs.{Showing.RefusedList, SoakWays.SoakWay}
use Rattle.host_io.specs.Contents.{Directory}
use Rattle.fwu_model.specs.Reply.{Turn}
use Rattle.fwu_model.specs.declared.kinds.Note as model
use Rattle.fwu_model.specs.declared.kinds.Note.TheVariants as note
use Rattle.agent_machine.specs.Fields.{Fields}
use Rattle.wire_frames.specs.Exchange.{LastAnswer}
use Rattle.serving.specs.{Ends.status_of, Holds.ServingHolds, Scene.At, Scene.Port, Scene.port, Scene.scene, Going.ServesFrom}
use Rattle.serving.specs.declared.ends.ServeEnd.{ServeEnd}
use Rattle.serving.specs.declared.ends.ServeEnd.TheVariants as end
use Rattle.script_cmd.specs.Handed.{asks_beyond, RunsOrNone, over_table, Inputs, given_all}
use Rattle.script_cmd.specs.{NoTurns.FormattedBy, NoTurns.ShowedBy, Promises.given_to, ServedBy.Unread, Serves.ReadsInputs}

-- ---- the ways that `serve` may end

-- only a boot that started no bank is noted
abbrev pub note_of : ServeEnd → model.Note
note_of (end.NotBooted why) = note.Boot why
note_of other = note.Nothing

abbrev pub sink_of : World → Port
sink_of w = port w.taken w.faults.sink

-- what a serving leaves: what the agent keeps at last, and the last reply, come to the turns and the world
abbrev pub left_by_serving : Option Fields → LastAnswer → List Turn → World → At
left_by_serving on exchange journal new =
    record { run = record { moment = record new.flash { on = on }; journal = journal }; exchange = exchange; sink = sink_of new }

-- The flash was booted and the requests of the source were served, up to this end. `rest` is what the source has left then.
pub record ServesSource (passes : List ℕ → Bool) (tells : Bool) (files : Option Directory) (stream : Option (List ℕ))
    (e : ServeEnd) (journal : List Turn) (old new : World) (rest : Option (List ℕ)) : Type 0 where
  pub on : Option Fields
  pub exchange : LastAnswer
  -- what was taken, done and written
  pub serves : ServesFrom (scene passes tells files old.faults.files) old.flash (sink_of old)
      (left_by_serving on exchange journal new) e (port stream old.faults.source) (port rest new.faults.source)
  -- that its turns are a run, and why it ended so
  pub holds : ServingHolds (scene passes tells files old.faults.files) old.flash (sink_of old)
      (left_by_serving on exchange journal new) e (port stream old.faults.source) (port rest new.faults.source)

-- Nothing was done, since a list of digests was not read or is none, or for want of memory; or requests were served. No loss of
-- power was armed at first.
pub data ServeWay (passes : List ℕ → Bool) (tells : Bool) (g : Given) (ending : Ending model.Note) (old new : World)
    (rest : Option (List ℕ)) : Type 0 where
  list_refused : ending.journal ≡ [] → new.flash ≡ old.flash → Unread g old new rest
      → RefusedList ask.serve g ending.status ending.noted old new → ServeWay passes tells g ending old new rest
  starved : ending.journal ≡ [] → new.flash ≡ old.flash → Unread g old new rest → ending.status ≡ 9
      → ending.noted ≡ note.Nothing → PutsNone old new → ServeWay passes tells g ending old new rest
  served : HasGoodList g.list g.files → old.flash.armed ≡ None → new.faults.files ≡ old.faults.files → (e : ServeEnd)
      → ending.status ≡ status_of e → ending.noted ≡ note_of e
      → ServesSource passes tells g.files g.script e ending.journal old new rest
      → ServeWay passes tells g ending old new rest

-- ---- by each command

-- What was done for the words behind a list, or without one. `rest` is what the source tells afterwards.
pub record Answered {H I : Type 0} (passes : List ℕ → Bool) (device : Device) (inputs : Inputs)
    (ending : Ending Note) (old new : World) (rest : Option (List ℕ)) (files_before files_after : H)
    (source_before source_after : I) : Type 0 where
  pub way : RunsOrNone inputs.asked → Way passes device.tells inputs.asked (given_to inputs) (in_model ending) old new
  pub by_table : (plain : Asked) → over_table inputs.asked ≡ Some plain
      → WayByTable passes device (Some plain) (given_to (record inputs { asked = Some plain })) ending old new
  pub shows : inputs.asked ≡ Some ask.show → ShowedBy device.tells (given_all inputs) (in_model ending) old new
  pub formats : (banks : ℕ) (rows : List ImageRow) (file : List ℕ) → inputs.asked ≡ Some (ask.format banks rows file)
      → FormattedBy passes device (given_all inputs) file (record { banks = banks; rows = rows }) ending old new
  pub soaks : (seed rounds : ℕ) → inputs.asked ≡ Some (ask.soak seed rounds)
      → SoakWay device (given_all inputs) seed rounds ending old new
  pub serves : inputs.asked ≡ Some ask.serve → ServeWay passes device.tells (given_all inputs) (in_model ending) old new rest
  pub note : IsFalse (asks_beyond inputs.asked) → IsFalse (is_beyond_model ending.noted)
  -- what it takes of its files and its source, where these tell it, and which failures they count: of the files, where nothing was
  -- sent, and but for `format`
  pub reads : ReadsInputs inputs ending old.faults new.faults rest files_before files_after source_before source_after
