-- The requests of a source so far, and how a serving ends.
use Rattle.std.specs.Prelude.{◌≡◌, ◌≤◌, ℕ, List, ◌∷◌, ◌++◌, Option, None, Err, IsFalse, length, Result, Ok, [], All}
use Rattle.std.specs.{List.list_any, Io.KnownBytes.Appends, Io.KnownBytes.Consumes}
use Rattle.fwu_model.specs.{Causes.cuts_in, Reply.Turn, Run.ends_run}
use Rattle.script_turns.specs.Powered.{TurnMoment}
use Rattle.wire_frames.specs.{Frames.AreBodies, Frames.frames, declared.stream.FrameStop.FrameStop, Exchange.none_yet}
use Rattle.wire_frames.specs.Stream.{StopsReading, most_bytes, stop_faults}
use Rattle.fwu_model.specs.Call as call
use Rattle.serving.specs.{Ends.IsEarlyEnd, Ends.end_of_stop, Ends.end_by, Serving.ServesOne, Serving.OneStop, Serving.OneTurn}
use Rattle.serving.specs.declared.ends.ServeEnd.{ServeEnd}
use Rattle.serving.specs.Scene.{At, Port, RanIn, Scene, port, RunAt, begin_at, unasked}
use Rattle.serving.specs.Written.{AnswersRequests, answered_numbers, messages_of, all_frames}

-- These requests were served, behind the first turns of the journal, and none of them ended the serving. The turns are a run from
-- the start. The requests that act have one turn each, and its reply was written for each of them, and again for each repeat.
pub record ServesRequests (E : Scene) (first : List Turn) (start : TurnMoment) (bodies : List (List ℕ))
    (old new : At) : Type 0 where
  pub turns : List Turn
  pub journal_is : new.run.journal ≡ first ++ turns
  -- behind each turn it went on: none is a loss of power
  pub goes : All (λ t. end_by t.reply ≡ Ok tt) new.run.journal
  pub ran : RanIn E new.run.journal start new.run.moment
  pub none : IsFalse (list_any (λ (t : Turn). ends_run t.reply) new.run.journal)
  -- no turn armed a loss of power
  pub uncut : cuts_in new.run.journal ≡ 0
  pub answers : AnswersRequests bodies turns new.exchange
  pub took : Appends old.sink.bytes new.sink.bytes (all_frames (messages_of turns) (answered_numbers 0 bodies))
  pub quiet : new.sink.faults ≡ old.sink.faults

-- the frames of these bodies, and no other byte, were taken from a source
pub record TakesFrames (bodies : List (List ℕ)) (old new : Option (List ℕ)) : Type 0 where
  pub each : AreBodies bodies
  pub consumed : Consumes old new (frames bodies)
  pub few : length (frames bodies) ≤ most_bytes

-- No further frame was read, behind so many bytes: why, how many bytes were taken at last, and how often the source has failed.
pub record StopsThere (why : FrameStop) (read : ℕ) (old new : Port) : Type 0 where
  pub taken : ℕ
  pub stops : StopsReading why read taken old.bytes new.bytes
  pub few : taken ≤ most_bytes
  pub count : new.faults ≡ stop_faults {T = ℕ} (Err why) old.faults
  pub later : old.faults ≤ new.faults

-- How a serving ends: these requests were served, and no further frame could be read; or they were, and the next one ended it.
pub data ServeEnds (E : Scene) (first : List Turn) (start : TurnMoment) (old new : At) (e : ServeEnd)
    (from to : Port) : Type 0 where
  at_the_end : (bodies : List (List ℕ)) (mid : Option (List ℕ)) (why : FrameStop)
      → ServesRequests E first start bodies old new → TakesFrames bodies from.bytes mid
      → StopsThere why (length (frames bodies)) (port mid from.faults) to → e ≡ end_of_stop why
      → ServeEnds E first start old new e from to
  at_a_request : (bodies : List (List ℕ)) (body : List ℕ) (mid : At)
      → ServesRequests E first start bodies old mid → TakesFrames (bodies ++ body ∷ []) from.bytes to.bytes
      → to.faults ≡ from.faults
      → ServesOne E body mid new (Err e) → IsEarlyEnd e
      → ServeEnds E first start old new e from to

-- The requests of a source are served: so of every run that was begun on a flash on which no bank was started.
abbrev pub GoesOn : Scene → At → At → ServeEnd → Port → Port → Type 0
GoesOn E old new e from to = (first : List Turn) (start : TurnMoment) → start.on ≡ None → ServesRequests E first start [] old old
    → ServeEnds E first start old new e from to

-- ---- a serving from its boot

-- A bank was started; or none was, and why.
abbrev pub ServeBoots : Scene → RunAt → RunAt → Result (Unit {0}) ServeEnd → Type 0
ServeBoots E old new (Ok value) = (t : Turn) × OneTurn E call.Boot t old new × (end_by t.reply ≡ Ok tt)
ServeBoots E old new (Err e) = OneStop E call.Boot e old new

-- The first turn is a boot. Where it ends the serving, or there is no memory for it, nothing is read and nothing written; else the
-- requests of the source are served, behind it.
pub data ServesFrom (E : Scene) (start : TurnMoment) (sink : Port) (new : At) (e : ServeEnd) (from to : Port) : Type 0 where
  not_started : OneStop E call.Boot e (begin_at start) new.run → new.exchange ≡ none_yet → new.sink ≡ sink → to ≡ from
      → ServesFrom E start sink new e from to
  started : (t : Turn) (mid : RunAt) → OneTurn E call.Boot t (begin_at start) mid → end_by t.reply ≡ Ok tt
      → ServeEnds E (t ∷ []) start (unasked mid sink) new e from to
      → ServesFrom E start sink new e from to
