-- What a command does, and what is there after it.
use Rattle.std.specs.Prelude.{◌≡◌, ◌≢◌, ◌⊎◌, ◌+◌, ◌≤◌, ⊤, ℕ, List, [], ◌∷◌, ◌++◌, Option, Some, None, Result, Ok, Err, if◌then◌else◌, take, drop}
use Rattle.std.specs.Str.{bytes_eq}
use Rattle.std.specs.Io.KnownBytes.{Appends}
use Rattle.base_core.specs.Counts.{Rose}
use Rattle.host_io.specs.{Calls.raised, Contents.Directory}
use Rattle.host_io.specs.declared.writes.Writes as count
use Rattle.fip_making.specs.{declared.stops.Stop.Stop, Answers.NoneFailed}
use Rattle.fip_making.specs.declared.stops.Stop.TheVariants.{FileFault, SinkFault, NoMemory}

-- a file is written whole, or a text is printed
pub data CommandStep : Type 0 where
  Writes : List ℕ → List ℕ → CommandStep
  Prints : List ℕ → CommandStep

-- what a command does in order, or why it does nothing
pub data CommandPlan : Type 0 where
  Makes : List CommandStep → CommandPlan
  Refuses : Stop → CommandPlan

abbrev pub steps_in_plan : CommandPlan → List CommandStep
steps_in_plan (Makes steps) = steps
steps_in_plan (Refuses stop) = []

-- the files with one written over
abbrev pub with_file : List ℕ → List ℕ → Directory → Directory
with_file name bytes files other = if bytes_eq name other then Some bytes else files other

-- the files after these steps
abbrev pub with_steps : List CommandStep → Directory → Directory
with_steps [] files = files
with_steps (Writes name bytes ∷ steps) files = with_steps steps (with_file name bytes files)
with_steps (Prints text ∷ steps) files = with_steps steps files

-- the text that these steps print
abbrev pub printed : List CommandStep → List ℕ
printed [] = []
printed (Writes name bytes ∷ steps) = printed steps
printed (Prints text ∷ steps) = text ++ printed steps

-- the told contents are these
abbrev pub Are : Option Directory → Directory → Type 0
Are None files = ⊥
Are (Some now) files = (name : List ℕ) → now name ≡ files name

abbrev pub AreBut : List ℕ → Option Directory → Directory → Type 0
AreBut but None files = ⊥
AreBut but (Some now) files = (name : List ℕ) → name ≢ but → now name ≡ files name

-- and where the first of these steps is a writing, it failed, and nothing is said of its file
abbrev pub AreUpTo : List CommandStep → Option Directory → Directory → Type 0
AreUpTo [] now files = Are now files
AreUpTo (Writes name bytes ∷ steps) now files = AreBut name now files
AreUpTo (Prints text ∷ steps) now files = Are now files

-- so many bytes of what the first of these steps prints
abbrev pub half_printed : ℕ → List CommandStep → List ℕ
half_printed k [] = []
half_printed k (Writes name bytes ∷ steps) = []
half_printed k (Prints text ∷ steps) = take k text

-- the first of these steps is to print
abbrev pub IsPrinting : List CommandStep → Type 0
IsPrinting [] = ⊥
IsPrinting (Writes name bytes ∷ steps) = ⊥
IsPrinting (Prints text ∷ steps) = ⊤

-- The files after the first n steps. Only where a writing may have torn its file may that of the next step be another.
abbrev pub StandAfter : ℕ → CommandPlan → Directory → Option Directory → Type 0 → Type 0
StandAfter n outcome files now spoiled =
    Are now (with_steps (take n (steps_in_plan outcome)) files)
    ⊎ (spoiled × AreUpTo (drop n (steps_in_plan outcome)) now (with_steps (take n (steps_in_plan outcome)) files))

-- What was done of a command, by its result. The files were `files` and the told contents are `now`; the sink's text was `was`
-- and is `text`. Nothing but the command's steps was done, in their order. A call of the files failed where `files-rose`, and a
-- writing that may have torn its file where `spoiled`. A call of the sink failed where `sink-rose`, which was a step that prints.
abbrev pub Did : CommandPlan → Directory → Option Directory → Option (List ℕ) → Option (List ℕ) → Type 0 → Type 0 → Type 0
    → Result (Unit {0}) Stop → Type 0
Did outcome files now was text files-rose spoiled sink-rose (Ok done) =
    (outcome ≡ Makes (steps_in_plan outcome)) × Are now (with_steps (steps_in_plan outcome) files)
    × Appends was text (printed (steps_in_plan outcome))
Did outcome files now was text files-rose spoiled sink-rose (Err NoMemory) =
    (n : ℕ) × Are now (with_steps (take n (steps_in_plan outcome)) files)
    × Appends was text (printed (take n (steps_in_plan outcome)))
Did outcome files now was text files-rose spoiled sink-rose (Err SinkFault) =
    sink-rose × (n : ℕ) × Are now (with_steps (take n (steps_in_plan outcome)) files)
    × (k : ℕ) × Appends was text (printed (take n (steps_in_plan outcome)) ++ half_printed k (drop n (steps_in_plan outcome)))
    × IsPrinting (drop n (steps_in_plan outcome))
Did outcome files now was text files-rose spoiled sink-rose (Err FileFault) =
    ((outcome ≡ Refuses FileFault) ⊎ files-rose) × (n : ℕ) × StandAfter n outcome files now spoiled
    × Appends was text (printed (take n (steps_in_plan outcome)))
Did outcome files now was text files-rose spoiled sink-rose (Err stop) =
    (outcome ≡ Refuses stop) × Are now files × Appends was text []

-- the outcome of a command whose steps are made of a value
abbrev pub outcome_by : {X : Type 0} → (X → List CommandStep) → Result X Stop → CommandPlan
outcome_by steps (Ok x) = Makes (steps x)
outcome_by steps (Err s) = Refuses s

-- At most one call of the files failed, and none but where a file's fault ended it.
pub record FaultsOnce {X : Type 0} (before after : ℕ) (result : Result X Stop) : Type 0 where
  pub once : after ≤ before + 1
  pub quiet : NoneFailed result before after

-- what the sink took of a text
abbrev pub PrintedText : Option (List ℕ) → Option (List ℕ) → Type 0 → List ℕ → Result (Unit {0}) Stop → Type 0
PrintedText was text sink-rose piece (Ok done) = Appends was text piece
PrintedText was text sink-rose piece (Err SinkFault) = sink-rose × (k : ℕ) × Appends was text (take k piece)
PrintedText was text sink-rose piece (Err NoMemory) = text ≡ was
PrintedText was text sink-rose piece (Err stop) = ⊥

-- how many calls of the sink have failed after a command that ended so:
-- one more where the sink took no more, and else as many as before
abbrev pub sink_failed : Stop → ℕ → ℕ
sink_failed SinkFault before = raised before
sink_failed s before = before

abbrev pub sink_failures : {X : Type 0} → Result X Stop → ℕ → ℕ
sink_failures (Ok x) before = before
sink_failures (Err s) before = sink_failed s before

-- and after the line of a stop: where the sink took no more, it isn't asked again
abbrev pub line_failures : Stop → Stop → ℕ → ℕ
line_failures SinkFault now before = before
line_failures s now before = sink_failed now before

-- ---- one writing

-- a write failed that may have torn its file
abbrev pub MayTear : count.Writes → count.Writes → Type 0
MayTear before after = Rose before.failed after.failed × Rose before.torn after.torn

-- no write failed
abbrev pub NoneUnwritten : count.Writes → count.Writes → Type 0
NoneUnwritten before after = (after.failed ≡ before.failed) × (after.torn ≡ before.torn)

-- what the writing of a file leaves: one that failed, all as it was, or its file torn
abbrev pub Written : Directory → Option Directory → Type 0 → Type 0 → List ℕ → List ℕ → Result (Unit {0}) Stop → Type 0
Written files now files-rose spoiled name bytes (Ok done) = Are now (with_file name bytes files)
Written files now files-rose spoiled name bytes (Err FileFault) =
    files-rose × (Are now files ⊎ (spoiled × AreBut name now files))
Written files now files-rose spoiled name bytes (Err NoMemory) = Are now files
Written files now files-rose spoiled name bytes (Err stop) = ⊥
