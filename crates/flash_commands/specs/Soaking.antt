-- What the turns of a soak do, and the line of one that ends it.
use Rattle.std.specs.Prelude.{◌≡◌, ◌≢◌, ◌≤◌, ℕ, ◌+◌, Bool, List, ◌∷◌, ◌++◌, Some, IsSome, IsTrue, IsFalse, ◌<◌, slice_index_or, []}
use Rattle.std.specs.List.{list_any}
use Rattle.host_io.specs.Contents.{Directory, bytes_in}
use Rattle.fwu_model.specs.{Call.Call, Reply.Reply, Reply.Turn, Run.ends_run, Text.line, Headline.IsPrefixOf, Causes.status_by}
use Rattle.fwu_model.specs.{Causes.note_by, declared.kinds.Note.Note}
use Rattle.fwu_model.specs.Reply as reply
use Rattle.fwu_model.specs.declared.kinds.Note.TheVariants as note
use Rattle.fwu_formats.specs.Digests.{passes_any}
use Rattle.gen_core.specs.{Calls.file_name, Calls.first_package, Calls.packages_of, Calls.round_package, Rounds.soak_rounds}
use Rattle.gen_core.specs.{Rounds.rounds_from, declared.line.Totals.Totals, declared.rounds.Round.Round}
use Rattle.script_turns.specs.{Powered.TurnMoment, Powered.moment_of, Runs.Ran, Runs.calls_of}
use Rattle.script_runs.specs.{ByTable.flash_fault_line, Ending.noted, declared.running.End.End, declared.running.Run.Run}
use Rattle.flash_core.specs.declared.flash.Flash.{Ghosts}
use Rattle.fwu_journal.specs.Shown.{turns}

-- ---- the totals so far

-- no count is above that of the turns
pub record AreWithin (t : Totals) : Type 0 where
  pub boots : t.boots ≤ t.turns
  pub losses : t.losses ≤ t.turns
  pub fallbacks : t.fallbacks ≤ t.turns
  pub sends : t.sends ≤ t.turns

-- ---- files

-- the one file of this name
abbrev pub only_file_of : List ℕ → List ℕ → Directory
only_file_of name bytes = bytes_in ((name, bytes) ∷ [])

-- the file that the flash is formatted with
abbrev pub first_files : ℕ → Directory
first_files seed = only_file_of (file_name 0) (first_package seed)

-- the packages of all rounds
abbrev pub soak_files : ℕ → ℕ → Directory
soak_files seed n = packages_of (soak_rounds seed n)

-- the file of this name is there, and it is the same among all
abbrev pub AgreeAt : Directory → Directory → List ℕ → Type 0
AgreeAt one all name = (one name ≡ all name) × IsSome (one name)

-- the line of a turn that ends a soak
abbrev pub stop_text : Call → Reply → List ℕ
stop_text c reply.Fault = flash_fault_line
stop_text c other = line c other

abbrev pub stop_line : Turn → List ℕ
stop_line t = stop_text t.call t.reply

-- ---- the turns so far

-- none of the turns ends a run
abbrev pub EndsNone : List Turn → Type 0
EndsNone journal = IsFalse (list_any (λ (t : Turn). ends_run t.reply) journal)

-- These calls were done, in their order, and none of them ended the soak.
pub record GoesSoaking (tells : Bool) (all : Directory) (calls : List Call) (journal : List Turn)
    (old new : TurnMoment) : Type 0 where
  pub ran : Ran passes_any tells (Some all) journal old new 0 0
  pub calls_are : calls_of journal ≡ calls
  pub none : EndsNone journal

-- How a soak that does these calls stands. All were done, or memory was wanting for more than the first of them. Or a
-- turn ended it, whose line is in the text.
pub data SoakReached (tells : Bool) (all : Directory) (calls : List Call) (journal : List Turn) (old new : TurnMoment) (status : ℕ)
    (noted : Note) (text : List ℕ) : Type 0 where
  goes : status ≡ 0 → noted ≡ note.Nothing → GoesSoaking tells all calls journal old new
      → SoakReached tells all calls journal old new status noted text
  starved : status ≡ 9 → noted ≡ note.Nothing → (front : List Call) → IsPrefixOf front calls
      → GoesSoaking tells all front journal old new
      → SoakReached tells all calls journal old new status noted text
  ended : (front : List Turn) (t : Turn) → journal ≡ front ++ t ∷ [] → IsPrefixOf (calls_of journal) calls
      → Ran passes_any tells (Some all) journal old new 0 0 → EndsNone front → IsTrue (ends_run t.reply) → t.reply ≢ reply.ReadFault
      → status ≡ status_by t.reply → noted ≡ note_by t.reply → text ≡ line t.call t.reply
      → SoakReached tells all calls journal old new status noted text

-- ---- how a soak stands between two turns, of what the code keeps of it

-- these calls were done from here on, and none of them ended it
abbrev pub GoesHere : {D : Type 0} {F : Ghosts D} → Directory → List Call → TurnMoment → Run D F → Type 0
GoesHere {F = F} all calls old run = GoesSoaking F.tells all calls (turns run.journal) old (moment_of run.powered)

-- it does these calls from here on, and stands so
abbrev pub StandsHere : {D : Type 0} {F : Ghosts D} → Directory → List Call → TurnMoment → Run D F → End → Type 0
StandsHere {F = F} all calls old run end =
    SoakReached F.tells all calls (turns run.journal) old (moment_of run.powered) end.status (noted end.note)
    run.text.items

-- the packages of so many rounds, drawn from this register, are among the files
abbrev pub HasPackages : Directory → ℕ → ℕ → Type 0
HasPackages all register n = (k : ℕ) (d : Round) → k < n
    → all (file_name (k + 1)) ≡ Some (round_package (slice_index_or (rounds_from register 1 n) k d))
