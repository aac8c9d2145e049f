-- What the command `serve` promises, whichever way it ends.
use Rattle.std.specs.Prelude.{◌≡◌, ℕ, Bool, List, Option, ◌≢◌, ◌≤◌, ◌<◌, ◌⊎◌, ◌||◌, ◌==◌, ◌++◌, Some, IfSome, IsSome, ◌↔◌, []}
use Rattle.std.specs.Prelude.{◌+◌, All, Err, IsTrue, IsFalse, drop, length, take, slice_get, Ok}
use Rattle.fwu_model.specs.{Reply.Turn, declared.kinds.Note.Note, declared.kinds.NoBoot.NoBoot, Allow.list_bytes, Causes.LacksList}
use Rattle.fwu_model.specs.{Causes.cuts_in, Contract.Premises, Headline.Headline, Headline.IsPrefixOf, Headline.made_after}
use Rattle.fwu_model.specs.{Sound.Setting, State.State, Wrote.IsBadList}
use Rattle.fwu_model.specs.declared.kinds.Note.TheVariants as note
use Rattle.fwu_model.specs.Call as call
use Rattle.fwu_words.specs.Order as ask
use Rattle.host_io.specs.{Contents.Directory, Calls.raised}
use Rattle.script_turns.specs.{Powered.TurnMoment, Runs.calls_of}
use Rattle.wire_frames.specs.{Frames.AreBodies, Frames.Splits, Frames.frames, Stream.StopsReading, Stream.most_bytes}
use Rattle.wire_frames.specs.declared.stream.FrameStop.{FrameStop}
use Rattle.serving.specs.{Ends.end_by, Ends.end_of_stop, Ends.status_of, Holds.EndsWith, Holds.RefusesBoot}
use Rattle.serving.specs.declared.ends.ServeEnd.{ServeEnd}
use Rattle.script_runs.specs.{Ending.Ending, Ending.World, Ways.Given, Ways.HasGoodList}
use Rattle.flash_commands.specs.Showing.{RefusedList}
use Rattle.std.specs.Io.KnownBytes.{Appends, Consumes}
use Rattle.flash_core.specs.Counts.{Rose}
use Rattle.serving.specs.Written.{answered_numbers, calls_for, frame_of, messages_of, all_frames}
use Rattle.fwu_model.specs.Reply as reply
use Rattle.script_cmd.specs.{Promises.EndsByLast, Promises.RanHolds, Promises.outcome, Handed.IsGranted, Handed.RefusesBadList}

-- ---- the turns

-- from a sound flash the turns are those of the machine
abbrev pub ServedHeadline : (List ℕ → Bool) → Bool → Option Directory → Ending Note → TurnMoment → TurnMoment → Type 0
ServedHeadline passes tells files ending old new =
    IsTrue tells → (E : Setting) (start : State) → Premises E start old.told files passes old.counts new.counts
    → Headline E start (outcome (calls_of ending.journal) ending.journal ending.status old new)

-- what the source has left is as it was, and so is its count of failures
abbrev pub Unread : Given → World → World → Option (List ℕ) → Type 0
Unread g old new rest = (rest ≡ g.script) × (new.faults.source ≡ old.faults.source)

-- ---- why it ended

-- these end a serving
abbrev pub may_end_serving : ℕ → Bool
may_end_serving status =
    (status == 0) || (status == 2) || (status == 3) || (status == 5) || (status == 6) || (status == 8) || (status == 9)
    || (status == 11) || (status == 12) || (status == 13)

-- The statuses by their causes, on any device, files, source and sink. Want of memory, 9, has no other cause.
pub record ServedEnds (g : Given) (ending : Ending Note) (old new : World) (rest : Option (List ℕ)) : Type 0 where
  -- there is no other status
  pub no_other : IsTrue (may_end_serving ending.status)
  -- the source is at its end
  pub at_end : ending.status ≡ 0 → IfSome rest (λ left. left ≡ [])
  -- and it had whole frames, and nothing behind them
  pub whole : ending.status ≡ 0 → IfSome g.script (λ stream. (bodies : List (List ℕ)) × Splits stream bodies [])
  -- a read of the source failed, once, or a list of digests was not read
  pub not_read : ending.status ≡ 2 → ((ending.journal ≢ []) × (new.faults.source ≡ raised old.faults.source))
      ⊎ ((ending.journal ≡ []) × IsSome g.list × (Rose old.faults.files new.faults.files ⊎ LacksList g.files g.list))
  -- and else no read of the source failed
  pub read_all : (ending.status ≡ 2 → ending.journal ≡ []) → new.faults.source ≡ old.faults.source
  -- the sink failed
  pub sink_fault : ending.status ≡ 3 → Rose old.faults.sink new.faults.sink
  -- the last turn is a fault of the flash
  pub flash_fault : ending.status ≡ 5 → EndsWith ending.journal reply.Fault × Rose old.flash.counts.faults new.flash.counts.faults
  -- the one turn is a boot that started no bank, and why is noted
  pub not_booted : ending.status ≡ 6 → (why : NoBoot) × RefusesBoot ending.journal why × (ending.noted ≡ note.Boot why)
  -- byte 1,073,741,825 was taken of the source at 8, as the last one, and at no other status
  pub taken : (given : List ℕ) × Consumes g.script rest given × (length given ≤ most_bytes + 1)
      × ((ending.status ≡ 8) ↔ (most_bytes < length given))
  -- and so it has more than 1 GiB
  pub too_long : ending.status ≡ 8 → IfSome g.script (λ stream. most_bytes < length stream)
  -- a length that no body has, or an end inside a frame, stands behind whole frames
  pub bad_frame : ending.status ≡ 11
      → IfSome g.script (λ stream. (bodies : List (List ℕ)) × (left : List ℕ) × Splits stream bodies left × (left ≢ []))
  -- the last turn is a loss of power, which none armed
  pub lost : ending.status ≡ 12 → EndsWith ending.journal reply.Lost × Rose old.flash.counts.cuts new.flash.counts.cuts
  -- the list of digests has a bad line, which is noted
  pub not_list : ending.status ≡ 13
      → IsSome g.list × (n : ℕ) × (ending.noted ≡ note.BadList n) × IsBadList (list_bytes g.list g.files) n

-- ---- what was written

-- the frame of the last turn's reply
abbrev pub last_frame : List Turn → List ℕ
last_frame turns = frame_of (messages_of turns) (length turns)

-- no further request is there to be answered: the source is at its end, or no whole frame could be read of it
abbrev pub reads_no_more : ℕ → Bool
reads_no_more status = (status == 0) || (status == 2) || (status == 8) || (status == 11)

-- Behind a boot the requests of a stream were served by the frames of their replies. There is one for each request that acts, and
-- again for each repeat.
pub record WroteFrames (stream rest : Option (List ℕ)) (ending : Ending Note) (before after : Option (List ℕ)) : Type 0 where
  -- the requests that were answered, their turns behind the boot's, and a part of one more frame
  pub bodies : List (List ℕ)
  pub turns : List Turn
  pub part : List ℕ
  -- the request that ended it, or none
  pub more : List (List ℕ)
  pub one : length more ≤ 1
  -- they stand at the front of the stream, and are all of it where all was done
  pub each : AreBodies (bodies ++ more)
  pub come : IfSome stream (λ s. IsPrefixOf (frames (bodies ++ more)) s)
  pub all : ending.status ≡ 0 → IfSome stream (λ s. s ≡ frames bodies)
  -- where one of them ended it, no byte behind its frame was taken
  pub taken : IsFalse (reads_no_more ending.status) → Consumes stream rest (frames (bodies ++ more))
  -- where no further frame could be read, only what stood in its place was taken
  pub stops : (why : FrameStop) → ending.status ≡ status_of (end_of_stop why)
      → (mid : Option (List ℕ)) × (now : ℕ) × Consumes stream mid (frames bodies)
      × StopsReading why (length (frames bodies)) now mid rest
  -- the turns are the first of the journal, and all of them where none of the requests ended the serving
  pub begin : IsPrefixOf turns (drop 1 ending.journal)
  pub all_turns : IsTrue (reads_no_more ending.status) → turns ≡ drop 1 ending.journal
  -- none of them ends the serving: a request whose turn does has no frame
  pub goes : All (λ (t : Turn). end_by t.reply ≡ Ok tt) turns
  -- each request that acts has its turn, and no other turn is there; want of memory alone may leave none at all
  pub calls : calls_of turns ≡ calls_for bodies
  pub all_calls : IsPrefixOf (calls_of (drop 1 ending.journal)) (calls_for (bodies ++ more))
  pub some : ending.status ≢ 9 → ending.journal ≢ []
  -- and each frame has the reply of its number's turn
  pub took : Appends before after (all_frames (messages_of turns) (answered_numbers 0 bodies) ++ part)
  -- where the sink failed, a front of the frame of the last turn stands behind them
  pub none : ending.status ≢ 3 → part ≡ []
  pub front : ending.status ≡ 3 → (n : ℕ) × (part ≡ take n (last_frame (drop 1 ending.journal)))
  -- only a boot that started no bank is noted
  pub quiet : ending.status ≢ 6 → ending.noted ≡ note.Nothing

-- ---- all is served

-- From a sound flash all requests are served, where the source has whole frames within the limit, and nothing was lacking and
-- nothing failed, unless memory was wanting.
abbrev pub ServedComplete : (List ℕ → Bool) → Bool → Given → Ending Note → World → World → Type 0
ServedComplete passes tells g ending old new =
    IsTrue tells → (E : Setting) (start : State) (bodies : List (List ℕ))
    → Premises E start old.flash.told g.files passes old.flash.counts new.flash.counts
    → g.script ≡ Some (frames bodies) → AreBodies bodies → length (frames bodies) ≤ most_bytes
    → IsGranted g old.flash.counts new.flash.counts old.faults new.faults
    → (Rose old.faults.source new.faults.source → ⊥)
    → (ending.status ≡ 0) ⊎ (ending.status ≡ 9)

-- ---- in one

-- All that `serve` promises. `rest` is what the source has left.
pub record ServedBy (passes : List ℕ → Bool) (tells : Bool) (g : Given) (ending : Ending Note) (old new : World)
    (rest : Option (List ℕ)) : Type 0 where
  pub refuses_list : RefusesBadList g old.flash new.flash ending.status old.faults new.faults
  -- From a sound flash the turns are those of the machine. Every image that a loss may leave shows a state that they lead to, and
  -- each boot selects a complete and permitted package.
  pub headline : ServedHeadline passes tells g.files ending old.flash new.flash
  -- For every device: what each turn did, and how the device is left. On a told flash with nothing dirty, whose front is guarded,
  -- no loss harms what is in use.
  pub turns : RanHolds passes tells g.files ending.journal old new
  -- For every device: the first turn is a boot, no turn arms a loss, and one that ends a run is the last.
  pub boots : (t : Turn) → slice_get ending.journal 0 ≡ Some t → t.call ≡ call.Boot
  pub uncut : cuts_in ending.journal ≡ 0
  pub made : new.flash.counts.made ≡ made_after old.flash.counts.made (cuts_in ending.journal)
  pub by_last : EndsByLast ending.journal ending.status ending.noted
  -- So is one that ends the serving, as a loss of power does, and the status is by it: nothing was put behind it.
  pub by_end : (n : ℕ) (t : Turn) (e : ServeEnd) → slice_get ending.journal n ≡ Some t → end_by t.reply ≡ Err e
      → (n + 1 ≡ length ending.journal) × (ending.status ≡ status_of e)
  -- A turn is done only behind a good list, and no call of the files fails then.
  pub listed : ending.journal ≢ [] → HasGoodList g.list g.files × (new.faults.files ≡ old.faults.files)
  -- Without a turn, and where the first one ends the serving, the source has left what it had, and counts no further failure.
  pub unread : ending.journal ≡ [] → Unread g old new rest
  pub first : (t : Turn) (e : ServeEnd) → slice_get ending.journal 0 ≡ Some t → end_by t.reply ≡ Err e → Unread g old new rest
  -- For every device, files, source and sink: each status has its cause.
  pub ends : ServedEnds g ending old new rest
  -- For every device, files, source and sink: what was answered, by which turns, and what the sink took, at every status.
  -- These are frames, or the line of a list that was refused.
  pub wrote : WroteFrames g.script rest ending old.taken new.taken
      ⊎ ((ending.journal ≡ []) × RefusedList ask.serve g ending.status ending.noted old new)
  -- From a sound flash all requests are served, where nothing was lacking and nothing failed, unless memory was wanting.
  pub complete : ServedComplete passes tells g ending old new
