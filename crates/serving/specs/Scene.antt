-- What does not change in a serving, and what is known of it between two requests.
use Rattle.std.specs.Prelude.{ℕ, Bool, List, Option, ◌≡◌, Result, OnOk, []}
use Rattle.flash_core.specs.declared.flash.Flash.{Ghosts}
use Rattle.host_io.specs.Contents.{Directory}
use Rattle.host_io.specs.declared.files.Files as files
use Rattle.host_io.specs.declared.sink.Sink as sink
use Rattle.host_io.specs.declared.source.Source as source
use Rattle.verify_core.specs.declared.verifier.Verifier as verifier
use Rattle.fwu_model.specs.Reply.{Turn}
use Rattle.fwu_journal.specs.Shown.{turns}
use Rattle.script_turns.specs.{Powered.TurnMoment, Powered.moment_of, Powered.device, Powered.has_power, Runs.Ran}
use Rattle.wire_frames.specs.Exchange.{LastAnswer, none_yet}
use Rattle.serving.specs.{declared.serving.Serving.Serving, declared.ends.ServeEnd.ServeEnd}

-- The verifier's test of a manifest, whether the device tells its content, the files where they are told, and how many of their
-- calls have failed.
pub record Scene : Type 0 where
  pub passes : List ℕ → Bool
  pub tells : Bool
  pub files : Option Directory
  pub faults : ℕ

abbrev pub scene : (List ℕ → Bool) → Bool → Option Directory → ℕ → Scene
scene passes tells files faults = record { passes = passes; tells = tells; files = files; faults = faults }

abbrev pub scene_of : {V D H : Type 0} → verifier.Ghosts V → Ghosts D → files.Ghosts H → V → H → Scene
scene_of v d h by of = scene (v.passes by) d.tells (h.contents of) (h.faults of)

-- a run of such turns: no call of the files fails
abbrev pub RanIn : Scene → List Turn → TurnMoment → TurnMoment → Type 0
RanIn E journal old new = Ran E.passes E.tells E.files journal old new E.faults E.faults

-- A sink, or a source: the bytes that it took, or has left, where they are told, and how many of its calls have failed.
pub record Port : Type 0 where
  pub bytes : Option (List ℕ)
  pub faults : ℕ

abbrev pub port : Option (List ℕ) → ℕ → Port
port bytes faults = record { bytes = bytes; faults = faults }

abbrev pub sink_port : {O : Type 0} → sink.Ghosts O → O → Port
sink_port o s = port (o.taken s) (o.faults s)

abbrev pub source_port : {I : Type 0} → source.Ghosts I → I → Port
source_port i s = port (i.left s) (i.faults s)

-- a run between two turns: the flash, and its turns so far
pub record RunAt : Type 0 where
  pub moment : TurnMoment
  pub journal : List Turn

abbrev pub run_of : {D : Type 0} {F : Ghosts D} → Serving D F → RunAt
run_of s = record { moment = moment_of s.powered; journal = turns s.journal }

-- one without turns
abbrev pub begin_at : TurnMoment → RunAt
begin_at start = record { moment = start; journal = [] }

-- A serving between two requests: its run, the number and the reply of the last request that acted, and the sink.
pub record At : Type 0 where
  pub run : RunAt
  pub exchange : LastAnswer
  pub sink : Port

abbrev pub at : {D : Type 0} {F : Ghosts D} → Serving D F → Port → At
at s sink = record { run = run_of s; exchange = s.exchange; sink = sink }

-- one whose run is so, and to which no request came
abbrev pub unasked : RunAt → Port → At
unasked run sink = record { run = run; exchange = none_yet; sink = sink }

-- ---- how a part of a serving leaves its flash and its files

pub record LeavesServing {D H T : Type 0} {F : Ghosts D} (result : Result T ServeEnd) (old new : Serving D F)
    (from to : H) : Type 0 where
  -- where the serving goes on, the device has power exactly where an agent or a flash that is on is there
  pub powered : OnOk result (F.on (device new.powered) ≡ has_power new.powered)
  -- the device has as many blocks as before
  pub size : F.blocks (device new.powered) ≡ F.blocks (device old.powered)
  -- the files are as they were
  pub files : to ≡ from
