-- What holds of a serving however it ended.
use Rattle.std.specs.Prelude.{◌≡◌, ◌≢◌, ◌⊎◌, ◌↔◌, ◌≤◌, ◌<◌, ◌+◌, ◌++◌, ℕ, List, ◌∷◌, Option, None, Some, length, slice_get, ⊤, []}
use Rattle.std.specs.Io.KnownBytes.{Consumes}
use Rattle.flash_core.specs.Counts.{Rose}
use Rattle.host_io.specs.{Calls.raised, Printed.FailsAtThree}
use Rattle.fwu_model.specs.Call as call
use Rattle.fwu_model.specs.{Causes.cuts_in, Reply.Reply, Reply.Turn, declared.kinds.NoBoot.NoBoot}
use Rattle.fwu_model.specs.Reply as reply
use Rattle.script_turns.specs.Powered.{TurnMoment}
use Rattle.wire_frames.specs.{Frames.Splits, Stream.StopsStream, Stream.most_bytes, declared.stream.FrameStop.FrameStop}
use Rattle.wire_frames.specs.declared.stream.FrameStop.TheVariants as stop
use Rattle.serving.specs.{Ends.status_of, Scene.At, Scene.Port, Scene.RanIn, Scene.Scene, declared.ends.ServeEnd.ServeEnd}
use Rattle.serving.specs.declared.ends.ServeEnd.TheVariants as end

-- ---- why it ended so

-- Reading stopped, by the bytes where the source tells them: behind some frames. (`TooLong`: the stream is longer than the most
-- bytes.)
abbrev pub StopsBy : FrameStop → Port → Type 0
StopsBy why from = (stream : List ℕ) → from.bytes ≡ Some stream → (bodies : List (List ℕ)) × StopsStream why stream bodies

-- the last turn has this reply
pub record EndsWith (journal : List Turn) (r : Reply) : Type 0 where
  pub before : List Turn
  pub last : Turn
  pub journal_is : journal ≡ before ++ last ∷ []
  pub reply_is : last.reply ≡ r

-- the one turn is a boot that started no bank
pub record RefusesBoot (journal : List Turn) (why : NoBoot) : Type 0 where
  pub turn : Turn
  pub only : journal ≡ turn ∷ []
  pub call_is : turn.call ≡ call.Boot
  pub reply_is : turn.reply ≡ reply.NotBooted why

-- A loss of power is counted. Where none was armed at first, it is none that was armed.
pub record IsLost (old new : TurnMoment) : Type 0 where
  pub counted : Rose old.counts.cuts new.counts.cuts ⊎ Rose old.counts.reached new.counts.reached
  pub unarmed : old.armed ≡ None → Rose old.counts.cuts new.counts.cuts

-- For want of memory no cause is said.
abbrev pub Cause : ServeEnd → TurnMoment → Port → At → Port → Port → Type 0
Cause end.End start sink new from to = StopsBy stop.End from
Cause end.ReadFailed start sink new from to = Rose from.faults to.faults
Cause end.SinkFailed start sink new from to = Rose sink.faults new.sink.faults
Cause end.FlashFault start sink new from to =
    EndsWith new.run.journal reply.Fault × Rose start.counts.faults new.run.moment.counts.faults
Cause (end.NotBooted why) start sink new from to = RefusesBoot new.run.journal why
Cause end.TooLong start sink new from to = StopsBy stop.TooLong from
Cause end.NoMemory start sink new from to = ⊤
Cause end.BadFrame start sink new from to = StopsBy stop.BadFrame from
Cause end.PowerLost start sink new from to = EndsWith new.run.journal reply.Lost × IsLost start new.run.moment

-- ---- where nothing fails

-- A bank was started, none of the flash, the source and the sink failed, no loss was armed, and no power was lost.
pub record IsQuietServing (start : TurnMoment) (sink : Port) (new : At) (e : ServeEnd) (from to : Port) : Type 0 where
  pub booted : (why : NoBoot) → e ≢ end.NotBooted why
  pub no_fault : Rose start.counts.faults new.run.moment.counts.faults → ⊥
  pub no_cut : Rose start.counts.cuts new.run.moment.counts.cuts → ⊥
  pub unarmed : start.armed ≡ None
  pub no_failed_read : Rose from.faults to.faults → ⊥
  pub no_failed_put : Rose sink.faults new.sink.faults → ⊥

-- how a stream within the most bytes ends, by what stands behind its last frame
abbrev pub end_behind : List ℕ → ServeEnd
end_behind [] = end.End
end_behind (b ∷ rest) = end.BadFrame

-- Where nothing fails, a serving ends as the bytes of the source say, or memory was wanting.
abbrev pub IsCompleteServing : TurnMoment → Port → At → ServeEnd → Port → Port → Type 0
IsCompleteServing start sink new e from to = IsQuietServing start sink new e from to
    → (stream : List ℕ) (bodies : List (List ℕ)) (rest : List ℕ) → from.bytes ≡ Some stream → Splits stream bodies rest
    → length stream ≤ most_bytes → (e ≡ end_behind rest) ⊎ (e ≡ end.NoMemory)

-- ---- in one

-- the source failed once where the serving ended by that, and else not at all
pub record FailsAtRead (e : ServeEnd) (before after : ℕ) : Type 0 where
  pub failed : e ≡ end.ReadFailed → after ≡ raised before
  pub quiet : e ≢ end.ReadFailed → after ≡ before
  pub later : before ≤ after

-- These bytes were taken of the source: one more than the most at last, and so many exactly where the serving ended by that one.
pub record TakesWithin (e : ServeEnd) (old new : Option (List ℕ)) : Type 0 where
  pub given : List ℕ
  pub consumed : Consumes old new given
  pub few : length given ≤ most_bytes + 1
  pub too_long : (e ≡ end.TooLong) ↔ (most_bytes < length given)

-- Its turns are a run from the start, on any device, and the first of them is a boot. Its end has a cause.
pub record ServingHolds (E : Scene) (start : TurnMoment) (sink : Port) (new : At) (e : ServeEnd) (from to : Port) : Type 0 where
  pub ran : RanIn E new.run.journal start new.run.moment
  pub boots : (t : Turn) → slice_get new.run.journal 0 ≡ Some t → t.call ≡ call.Boot
  pub uncut : cuts_in new.run.journal ≡ 0
  pub cause : Cause e start sink new from to
  pub sink_count : FailsAtThree (status_of e) sink.faults new.sink.faults
  pub source_count : FailsAtRead e from.faults to.faults
  pub given : TakesWithin e from.bytes to.bytes
  pub complete : IsCompleteServing start sink new e from to
