-- How a command ended, what it noted, and what is compared before and after it; what a run of a script did so far.
use Rattle.std.specs.Prelude.{◌≡◌, ◌≢◌, ℕ, ◌≤◌, Bool, true, false, List, ◌∷◌, ◌++◌, Option, Some, None, Contains, IsTrue, IsFalse, []}
use Rattle.host_io.specs.{Access.Access, Contents.Directory, Printed.FailsAtThree}
use Rattle.host_io.specs.declared.files.Files as files
use Rattle.host_io.specs.declared.sink.Sink as sink
use Rattle.fwu_model.specs.{Call.Call, Causes.Faults, Causes.note_by, Causes.status_by, Headline.IsPrefixOf, Reply.Turn, Text.line}
use Rattle.fwu_model.specs.{Text.text, Wrote.LacksLast, Wrote.StopsInLast, Wrote.may_lack}
use Rattle.fwu_model.specs.declared.kinds.Note as model
use Rattle.fwu_model.specs.declared.kinds.Note.TheVariants as model_note
use Rattle.script_turns.specs.{Powered.FitsMachine, Powered.TurnMoment, Sending.IsUnnamed, Turning.Turns, Runs.calls_of}
use Rattle.script_turns.specs.Runs.{sends_none}
use Rattle.fwu_journal.specs.Shown.{turns}
use Rattle.script_runs.specs.{declared.done.Note.Note, declared.done.Done.Done}
use Rattle.script_runs.specs.declared.done.Note.TheVariants as note

-- ---- what a run met, as the definitions have it

abbrev pub noted : Note → model.Note
noted (note.BadLine n) = model_note.BadLine n
noted (note.BadList n) = model_note.BadList n
noted (note.Boot why) = model_note.Boot why
-- what the definitions note is of runs alone
noted other = model_note.Nothing

-- what the definitions don't note: only `format` and `soak` note what was given, and only `--gpt` what a partition table lacks
abbrev pub is_beyond_model : Note → Bool
is_beyond_model (note.Input fault) = true
is_beyond_model (note.NoTable why) = true
is_beyond_model other = false

-- ---- how a command ended, and what is compared before and after it

-- How a command ended: its turns, its status, and what it noted, in the words of the program or in those of the definitions.
pub record Ending (Noted : Type 0) : Type 0 where
  pub journal : List Turn
  pub status : ℕ
  pub noted : Noted

-- as the definitions have it
abbrev pub in_model : Ending Note → Ending model.Note
in_model ending = record { journal = ending.journal; status = ending.status; noted = noted ending.noted }

-- What is compared before and after a command: the flash, what the sink took, where it tells that, and what the files, the source
-- and the sink count.
pub record World : Type 0 where
  pub flash : TurnMoment
  pub taken : Option (List ℕ)
  pub faults : Faults

-- nothing was put into the sink
abbrev pub PutsNone : World → World → Type 0
PutsNone old new = (new.taken ≡ old.taken) × (new.faults.sink ≡ old.faults.sink)

-- What a device is: whether it tells its contents, and how many blocks it has.
pub record Device : Type 0 where
  pub tells : Bool
  pub blocks : ℕ

-- ---- how a command ended, of what is left of it

abbrev pub ending : {D : Type 0} → Done D → Ending Note
ending done = record { journal = turns done.journal; status = done.status; noted = done.note }

-- ---- one turn

-- What one turn leaves: it does the call c, it is kept, its line is in the text, and the status and the note are by its reply.
pub record DoesTurn (passes : List ℕ → Bool) (tells : Bool) (files : Option Directory) (c : Call)
    (before after : List Turn) (old new : TurnMoment) (from to : ℕ) (status : ℕ) (noted : model.Note) (text : List ℕ) : Type 0 where
  pub turn : Turn
  pub turns : Turns passes tells files c turn old new from to
  pub fits : FitsMachine tells new
  pub kept : after ≡ before ++ turn ∷ []
  pub status_is : status ≡ status_by turn.reply
  pub noted_is : noted ≡ note_by turn.reply
  pub text_is : text ≡ line turn.call turn.reply

-- ---- how a run ended

-- the last turn, or none
abbrev pub status_of_last : Option Turn → ℕ
status_of_last None = 0
status_of_last (Some t) = status_by t.reply

abbrev pub note_of_last : Option Turn → model.Note
note_of_last None = model_note.Nothing
note_of_last (Some t) = note_by t.reply

abbrev pub last_turn : List Turn → Option Turn
last_turn [] = None
last_turn (t ∷ []) = Some t
last_turn (t ∷ u ∷ turns) = last_turn (u ∷ turns)

-- Its turns are those of the script up to one that ended it, and of the whole script at status 0.
pub record ScriptEnded (script : List Call) (journal : List Turn) (status : ℕ)
    (noted : model.Note) : Type 0 where
  pub calls : IsPrefixOf (calls_of journal) script
  pub all_calls : status ≡ 0 → calls_of journal ≡ script
  pub status_is : IsFalse (may_lack status) → status ≡ status_of_last (last_turn journal)
  pub noted_is : noted ≡ note_of_last (last_turn journal)
  -- where the sink failed at a line, there was a turn
  pub some : IsTrue (may_lack status) → journal ≢ []

-- what was written: the lines of all turns, or where the sink failed or found no memory those of all but the last
pub record WritesLines (journal : List Turn) (status : ℕ) (w : List ℕ) : Type 0 where
  pub whole : IsFalse (may_lack status) → w ≡ text journal
  pub front : status ≡ 3 → StopsInLast journal w
  pub none : status ≡ 9 → LacksLast journal w
  pub less : status ≡ 9 → w ≢ text journal

-- what the sink took, and its faults, before and after
pub record Printed (journal : List Turn) (status : ℕ) (old new : Option (List ℕ))
    (faults_before faults_after : ℕ) : Type 0 where
  pub bytes : (before : List ℕ) → old ≡ Some before → (w : List ℕ) × (new ≡ Some (before ++ w)) × WritesLines journal status w
  pub later : faults_before ≤ faults_after
  pub count : FailsAtThree status faults_before faults_after

-- How a run of a script ended, and what the sink took of its lines.
pub record EndsRun {O : Type 0} (o : sink.Ghosts O) (script : List Call) (ending : Ending Note) (old new : O) : Type 0 where
  pub ended : ScriptEnded script ending.journal ending.status (noted ending.noted)
  -- it notes nothing that the definitions don't
  pub plain : IsFalse (is_beyond_model ending.noted)
  pub printed : Printed ending.journal ending.status (o.taken old) (o.taken new) (o.faults old) (o.faults new)

-- an access that no turn of the journal makes
abbrev pub IsUnnamedIn : List Turn → Access → Type 0
IsUnnamedIn journal access = (t : Turn) → Contains journal t → IsUnnamed t.call access

-- What a run of a script leaves of the files: what they tell, and that none is written.
pub record KeepsFiles {H : Type 0} (h : files.Ghosts H) (journal : List Turn) (old new : H) : Type 0 where
  pub same : h.contents new ≡ h.contents old
  pub unwritten : h.writes new ≡ h.writes old
  -- where no turn is a `send`, no file was read
  pub unsent : IsTrue (sends_none (calls_of journal)) → new ≡ old
  -- where no turn names a file, no call asks for it
  pub spares : (access : Access) → IsUnnamedIn journal access → h.spares old new access
