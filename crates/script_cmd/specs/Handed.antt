-- What the words ask for, what the program was handed, whose manifests pass, and what a command that runs no script is granted.
use Rattle.std.specs.Prelude.{◌≡◌, ◌⊎◌, ℕ, ⊤, Bool, true, false, ◌||◌, ◌==◌, List, Option, Some, None, Ok, Err, IfSome, IsSome, IsTrue, []}
use Rattle.flash_core.specs.{Counts.Rose, declared.flash.Counts.Counts}
use Rattle.fwu_model.specs.{Allow.after_list, Allow.asks_list, Allow.list_bytes, Allow.list_name, Causes.Faults, Causes.LacksList}
use Rattle.fwu_model.specs.{Causes.RefusesList, Causes.may_fail_before, Reply.Turn, Wrote.IsBadList}
use Rattle.fwu_formats.specs.Digests.{digests_of, passes_any, passes_listed}
use Rattle.fwu_words.specs.Order.{Asked, asked}
use Rattle.fwu_words.specs.Order as ask
use Rattle.host_io.specs.declared.files.Files as files
use Rattle.host_io.specs.declared.source.Source as source
use Rattle.script_turns.specs.Powered.{TurnMoment}
use Rattle.script_runs.specs.Ways.{Given}

-- the words that follow a list, where they begin with one that has a name
abbrev pub asked_after : Bool → Option (List ℕ) → List (List ℕ) → Option Asked
asked_after false name words = asked words
asked_after true None words = None
asked_after true (Some name) words = asked (after_list words)

-- what the words ask for, with a list or without
abbrev pub asked_with_list : List (List ℕ) → Option Asked
asked_with_list words = asked_after (asks_list words) (list_name words) words

-- those that read the source: a script, or requests
abbrev pub asks_source : Option Asked → Bool
asks_source (Some ask.run) = true
asks_source (Some ask.run_partitioned) = true
asks_source (Some ask.serve) = true
asks_source other = false

-- those that may read a file: what is sent, or a package that a flash is formatted with
abbrev pub asks_files : Option Asked → Bool
asks_files (Some ask.run) = true
asks_files (Some ask.run_partitioned) = true
asks_files (Some (ask.format banks rows file)) = true
asks_files other = false

-- the one command that reads a package
abbrev pub asks_package : Option Asked → Bool
asks_package (Some (ask.format banks rows file)) = true
asks_package other = false

-- those whose notes the definitions of runs don't have
abbrev pub asks_beyond : Option Asked → Bool
asks_beyond (Some ask.run_partitioned) = true
asks_beyond (Some ask.boot_partitioned) = true
asks_beyond (Some (ask.format banks rows file)) = true
asks_beyond (Some (ask.soak seed rounds)) = true
asks_beyond other = false

-- the words ask for the turns of a script, or for nothing
abbrev pub RunsOrNone : Option Asked → Type 0
RunsOrNone None = ⊤
RunsOrNone (Some ask.run) = ⊤
RunsOrNone (Some ask.boot) = ⊤
RunsOrNone other = ⊥

-- The command that is run on the flash behind the table. None where the words ask for no such command.
abbrev pub over_table : Option Asked → Option Asked
over_table (Some ask.run_partitioned) = Some ask.run
over_table (Some ask.boot_partitioned) = Some ask.boot
over_table other = None

-- ---- what the program was handed: what its words ask for, the list that they name, and what the files and the source tell

-- what the program was asked for, and given to read: the list's name, the told files, and what the source tells
pub record Inputs : Type 0 where
  pub asked : Option Asked
  pub list : Option (List ℕ)
  pub files : Option (List ℕ → Option (List ℕ))
  pub source : Option (List ℕ)

-- what the program was given to read, with all that the source tells
abbrev pub given_all : Inputs → Given
given_all inputs = record { list = inputs.list; files = inputs.files; script = inputs.source }

-- what was asked for, with a list's name or without, and given to read
abbrev pub inputs_of : {H I : Type 0} → files.Ghosts H → source.Ghosts I → Option Asked → Option (List ℕ) → H → I → Inputs
inputs_of h i asked list files source = record { asked = asked; list = list; files = h.contents files; source = i.left source }

-- by words that name no list
abbrev pub unlisted : {H I : Type 0} → files.Ghosts H → source.Ghosts I → List (List ℕ) → H → I → Inputs
unlisted h i words files source = inputs_of h i (asked words) None files source

-- by words that may begin with a list
abbrev pub by_list : {H I : Type 0} → files.Ghosts H → source.Ghosts I → List (List ℕ) → H → I → Inputs
by_list h i words files source = inputs_of h i (asked_with_list words) (list_name words) files source

-- ---- the list of digests that the words may name

-- the file of this name has these bytes, where the files are told
abbrev pub StandsIn : Option (List ℕ → Option (List ℕ)) → List ℕ → List ℕ → Type 0
StandsIn (Some files) name bytes = files name ≡ Some bytes
StandsIn None name bytes = ⊤

-- A list of digests was read from the file that is named, and the manifests that it lists pass.
pub record ReadsList (list : Option (List ℕ)) (files : Option (List ℕ → Option (List ℕ)))
    (passes : List ℕ → Bool) : Type 0 where
  pub name : List ℕ
  pub named : list ≡ Some name
  pub bytes : List ℕ
  pub stands : StandsIn files name bytes
  pub digests : List (List ℕ)
  pub is_list : digests_of bytes ≡ Ok digests
  pub passes_are : passes ≡ passes_listed digests

-- Whose manifests pass: any where no list is asked for, and else those of the list.
pub record HasPasses (asks : Bool) (list : Option (List ℕ))
    (files : Option (List ℕ → Option (List ℕ))) (passes : List ℕ → Bool) : Type 0 where
  pub any : asks ≡ false → passes ≡ passes_any
  pub listed : asks ≡ true → ReadsList list files passes

-- these end a command whose list of digests was not read: by usage, the list, the sink, or want of memory
abbrev pub may_lack_list : ℕ → Bool
may_lack_list status = (status == 1) || ((status == 2) || ((status == 3) || ((status == 9) || (status == 13))))

-- nothing was done
pub record IsIdle (journal : List Turn) (status : ℕ) (old new : TurnMoment) : Type 0 where
  pub no_turns : journal ≡ []
  pub same : new ≡ old
  pub status_is : IsTrue (may_lack_list status)

-- The promise holds for the manifests that pass, by the list that was read.
-- Where one is named and none was read nothing was done, and it holds whichever pass.
abbrev pub ByList : (HasPasses : (List ℕ → Bool) → Type 0) → (Idle : Type 0) → (Promise : (List ℕ → Bool) → Type 0) → Type 0
ByList Has Idle Promise = ((passes : List ℕ → Bool) × Has passes × Promise passes)
    ⊎ (Idle × ((passes : List ℕ → Bool) → Promise passes))

-- A list that told files lack is answered by 2, and one with a bad line by 13, or 2 where it could not be read. The sink may fail
-- at that line, or memory be wanting. And the flash is as it was.
pub record RefusesBadList (g : Given) (old new : TurnMoment) (status : ℕ)
    (faults_before faults_after : Faults) : Type 0 where
  pub lacking : LacksList g.files g.list → (new ≡ old) × IsTrue (may_fail_before status)
  pub bad : IfSome (list_bytes g.list g.files) (λ bytes. (n : ℕ) → digests_of bytes ≡ Err n
      → (new ≡ old) × RefusesList status faults_before faults_after)

-- where a list of digests is named, it is there, was read and has no bad line
pub record HasReadList (g : Given) (faults_before faults_after : Faults) : Type 0 where
  pub there : LacksList g.files g.list → ⊥
  pub good : (n : ℕ) → IsSome g.list → IsBadList (list_bytes g.list g.files) n → ⊥
  pub read : Rose faults_before.files faults_after.files → ⊥

-- A command that runs no script is given what it asks for: such a list, where one is named. And nothing failed, of the files
-- either, and no power was lost.
pub record IsGranted (g : Given) (before after : Counts)
    (faults_before faults_after : Faults) : Type 0 where
  pub list : HasReadList g faults_before faults_after
  pub no_fault : Rose before.faults after.faults → ⊥
  pub no_cut : Rose before.cuts after.cuts → ⊥
  pub no_sink_fault : Rose faults_before.sink faults_after.sink → ⊥
