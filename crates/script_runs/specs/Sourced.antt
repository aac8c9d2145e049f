-- Why a run has no first turn, with the status, the line and the note of that. And what a run takes of the source, how often that
-- failed, and what comes of making its script.
use Rattle.std.specs.Prelude.{◌≡◌, ◌≢◌, ◌≤◌, ◌⊎◌, ◌++◌, ◌==◌, ◌||◌, ℕ, List, Bool, false, Option, Some, Result, Ok, Err, IsTrue, []}
use Rattle.std.specs.Prelude.{IsFalse, length, IfErr, IfOk}
use Rattle.std.specs.Io.KnownBytes.{Consumes, IsAtEnd}
use Rattle.host_io.specs.{Calls.raised, Once.ReadsOnce}
use Rattle.host_io.specs.declared.source.Source as source
use Rattle.fwu_model.specs.Asked as model
use Rattle.fwu_model.specs.{Asked.script_asked, Call.Call, Causes.Faults, Causes.may_fail_before, Reply.Turn, Script.is_too_long}
use Rattle.fwu_model.specs.Wrote.{bad_list_line, bad_script_line, may_lack, not_read_line, too_long_line, usage_line}
use Rattle.fwu_words.specs.{Order.Asked, declared.orders.ScriptFrom.ScriptFrom}
use Rattle.fwu_words.specs.Order as ask
use Rattle.fwu_words.specs.declared.orders.ScriptFrom.TheVariants as origin
use Rattle.script_runs.specs.{ByTable.flash_fault_line, ByTable.no_table_line, Ending.noted, Ways.Given, Ways.HasCalls, Ways.HasGoodList}
use Rattle.script_runs.specs.{Ways.Refuses, declared.done.Note.Note, declared.reading.SourceStop.SourceStop}
use Rattle.script_runs.specs.declared.refusing.Refusal.{Refusal}
use Rattle.script_runs.specs.declared.done.Note.TheVariants as note
use Rattle.script_runs.specs.declared.reading.SourceStop.TheVariants as stop
use Rattle.script_runs.specs.declared.refusing.Refusal.TheVariants as why

-- what is planned where a run has no first turn
pub record RefusalPlan : Type 0 where
  pub status : ℕ
  pub line : List ℕ
  pub note : Note

-- where memory is wanting there is no line
abbrev pub plan_of : Refusal → RefusalPlan
plan_of why.Usage = record { status = 1; line = usage_line; note = note.Nothing }
plan_of why.Unread = record { status = 2; line = not_read_line; note = note.Nothing }
plan_of why.TooLong = record { status = 8; line = too_long_line; note = note.Nothing }
plan_of (why.BadScript n) = record { status = 4; line = bad_script_line n; note = note.BadLine n }
plan_of (why.BadList n) = record { status = 13; line = bad_list_line n; note = note.BadList n }
plan_of (why.NoTable lack) = record { status = 10; line = no_table_line lack; note = note.NoTable lack }
plan_of why.Stopped = record { status = 5; line = flash_fault_line; note = note.Nothing }
plan_of why.NoMemory = record { status = 9; line = []; note = note.Nothing }

-- what is asked, as the definitions of a run have it
abbrev pub in_short : Option Asked → model.ScriptAsked
in_short (Some ask.run) = model.Source
in_short (Some ask.run_partitioned) = model.Source
in_short (Some ask.boot) = model.Boot
in_short (Some ask.boot_partitioned) = model.Boot
in_short other = model.NoScript

-- ---- the script

-- the command on a plain flash
abbrev pub plain_of : ScriptFrom → Asked
plain_of origin.Source = ask.run
plain_of origin.Boot = ask.boot

-- the text of the script, where it is told: what the source tells, or that of one boot
abbrev pub text_of : ScriptFrom → Option (List ℕ) → Option (List ℕ)
text_of from left = script_asked (in_short (Some (plain_of from))) left

-- There is no script to run, of a source that told this and counted these failures. Unless memory was wanting, a run with no list
-- or a good one is refused so.
abbrev pub LacksScript : ScriptFrom → Option (List ℕ) → ℕ → ℕ → Refusal → Type 0
LacksScript from left before after met = met ≢ why.NoMemory → (g : Given) (was are : Faults) → HasGoodList g.list g.files
    → Refuses (Some (plain_of from)) (record g { script = text_of from left }) (record was { source = before })
    (record are { source = after }) (plan_of met).status (noted (plan_of met).note) (plan_of met).line

-- ---- what is taken of the source

-- But for the last read, of at most 4096 bytes, the bytes that were taken are no script that is too long. They end at byte
-- 4,194,305 at the latest, the first with which each script is too long.
pub record ReadsInTime (left_before left_after : Option (List ℕ)) : Type 0 where
  pub before : List ℕ
  pub last : List ℕ
  pub taken : Consumes left_before left_after (before ++ last)
  pub short : length last ≤ 4096
  pub within : is_too_long before ≡ false
  pub few : length (before ++ last) ≤ 4194305

-- the statuses of a run whose script was read to the end of its source: all was done, a line is bad, the flash failed, nothing was
-- booted, or the partition table gives no flash
abbrev pub reads_all : ℕ → Bool
reads_all status = (status == 0) || (status == 4) || (status == 5) || (status == 6) || (status == 10)

-- What a run takes of the source that has its script, by its turns and its status.
pub record TakesScript (journal : List Turn) (status : ℕ) (left_before left_after : Option (List ℕ)) : Type 0 where
  pub in_time : ReadsInTime left_before left_after
  -- at 8 what was taken is too long
  pub too_long : status ≡ 8 → IsTrue (is_too_long (in_time.before ++ in_time.last))
  -- and at no other status is it, but where the sink may have cut the line of that, or memory was wanting for it
  pub within : status ≢ 8 → IsFalse (may_lack status) → IsFalse (is_too_long (in_time.before ++ in_time.last))
  -- behind a turn it is not, and nothing is left of the source
  pub ran : journal ≢ [] → IsFalse (is_too_long (in_time.before ++ in_time.last)) × IsAtEnd left_after
  -- nor is anything left at these statuses: so at 4, a bad line, the whole source was read
  pub to_end : IsTrue (reads_all status) → IsAtEnd left_after

-- At most one call of the source failed, and then no turn ran. The line of that may be cut by the sink, or find no memory.
pub record FailsOnce (journal : List Turn) (status before after : ℕ) : Type 0 where
  pub once : (after ≡ before) ⊎ (after ≡ raised before)
  pub ran : journal ≢ [] → after ≡ before
  pub none : IsFalse (may_fail_before status) → after ≡ before

-- ---- what comes of making the script of a run, and what that leaves of the source

-- the status that is planned for a run whose source was read so
abbrev pub status_read : {X : Type 0} → Result X SourceStop → ℕ
status_read (Ok text) = 0
status_read (Err stop.Failed) = 2
status_read (Err stop.TooLong) = 8
status_read (Err stop.NoMemory) = 9

-- the status that is planned for a run whose script was made so
abbrev pub status_made : {R : Type 0} → Result R Refusal → ℕ
status_made (Ok made) = 0
status_made (Err met) = (plan_of met).status

-- Where memory was wanting, no read of the source failed, and what was taken of it is not too long.
pub record StarvesScript (left_before left_after : Option (List ℕ)) (before after : ℕ) : Type 0 where
  pub in_time : ReadsInTime left_before left_after
  pub within : IsFalse (is_too_long (in_time.before ++ in_time.last))
  pub quiet : after ≡ before

-- A value with these calls was made, or there is no script to run. Only words that ask for a script of the source have it read.
pub record MakesScript {I R : Type 0} (s : source.Ghosts I) (from : ScriptFrom) (calls : R → List Call) (result : Result R Refusal)
    (old new : I) : Type 0 where
  -- the calls are those of the text, which was read whole and is within the limits
  pub script : IfOk result (λ made. HasCalls (text_of from (s.left old)) (calls made))
  -- why there is no script
  pub lacks : IfErr result (LacksScript from (s.left old) (s.faults old) (s.faults new))
  -- for one boot the source is not read
  pub boot_alone : from ≡ origin.Boot → new ≡ old
  -- what was taken of the source, and how often that failed, as of a run that ends so before its first turn
  pub takes : from ≡ origin.Source → TakesScript [] (status_made result) (s.left old) (s.left new)
  pub count : FailsOnce [] (status_made result) (s.faults old) (s.faults new)
  -- and how it was read where memory was wanting
  pub starved : result ≡ Err why.NoMemory → StarvesScript (s.left old) (s.left new) (s.faults old) (s.faults new)
  -- the count of reads that failed doesn't fall
  pub later : s.faults old ≤ s.faults new
  -- no read is made behind one that gave no bytes or failed
  pub once : ReadsOnce s old new
