-- What the program promises of what its words ask for, by each command. It is the contract of both top calls.
use Rattle.std.specs.Prelude.{◌≡◌, ◌≢◌, ◌≤◌, ℕ, Bool, List, Option, Some, None, IsTrue, IsFalse}
use Rattle.fwu_formats.specs.Layout.{ImageRow}
use Rattle.fwu_model.specs.Asked as model
use Rattle.fwu_model.specs.{Allow.asks_list, Causes.Faults, Causes.may_fail_before, Reply.Turn}
use Rattle.fwu_words.specs.Order.{Asked}
use Rattle.fwu_words.specs.Order as ask
use Rattle.host_io.specs.{Access.Access, Access.Asks, Printed.FailsAtThree}
use Rattle.script_turns.specs.Runs.{calls_of, sends_none}
use Rattle.script_runs.specs.Ending.{Device, Ending, World, in_model, is_beyond_model}
use Rattle.script_runs.specs.{Sourced.in_short, Ending.IsUnnamedIn, Sourced.FailsOnce, Sourced.TakesScript, Ways.HasGoodList}
use Rattle.script_runs.specs.declared.done.Note.{Note}
use Rattle.script_cmd.specs.Handed.{asks_beyond, asks_files, asks_package, asks_source, RunsOrNone, over_table, Inputs, given_all}
use Rattle.script_cmd.specs.{NoTurns.FormattedBy, NoTurns.ShowedBy, Promises.Promised, Promises.PromisedByTable, ServedBy.ServedBy}
use Rattle.script_cmd.specs.{Soaked.SoakedBy, Handed.ByList, Handed.HasPasses, Handed.IsIdle}

-- What a command reads of its files and its source, and which failures it counts. Of the files' failures in `format`, and where
-- something is sent, it says no more than that their count does not fall. `rest` is what the source tells afterwards; the files and
-- the source are those before and after.
pub record ReadsInputs {H I : Type 0} (inputs : Inputs) (ending : Ending Note) (old new : Faults) (rest : Option (List ℕ))
    (files_before files_after : H) (source_before source_after : I) : Type 0 where
  -- but for `run` and `serve` the source is as it was, and for these where the list is lacking in told files, or is none
  pub source : IsFalse (asks_source inputs.asked) → source_after ≡ source_before
  pub list_first : (HasGoodList inputs.list inputs.files → ⊥) → source_after ≡ source_before
  -- Of a script that tells its bytes: how much was taken. 8 is of a text that is too long. Behind a turn, and at 0, 4, 5, 6 and 10,
  -- nothing is left of it.
  pub takes : in_short inputs.asked ≡ model.Source → TakesScript ending.journal ending.status inputs.source rest
  -- the source failed once at most, and then no turn ran, and the status is 2, 3 or 9
  pub source_count : in_short inputs.asked ≡ model.Source → FailsOnce ending.journal ending.status old.source new.source
  -- without a list, a command other than `run` and `format` leaves the files as they were; so does a `run` in which no turn sends
  pub files : inputs.list ≡ None → IsFalse (asks_files inputs.asked) → files_after ≡ files_before
  pub unsent : inputs.list ≡ None → IsFalse (asks_package inputs.asked)
      → IsTrue (sends_none (calls_of ending.journal)) → files_after ≡ files_before
  -- but for `format`: where nothing was sent no call of the files failed, except at 2, 3 and 9, which may be of an unread list
  pub list_alone : IsFalse (asks_package inputs.asked) → IsTrue (sends_none (calls_of ending.journal))
      → IsFalse (may_fail_before ending.status) → new.files ≡ old.files
  -- no count of failures falls
  pub later_files : old.files ≤ new.files
  pub later_source : old.source ≤ new.source
  pub later_sink : old.sink ≤ new.sink

-- ---- which files a command doesn't ask for

-- The words name no list and no package that this access is for, and no turn sends the file that it is for. What a soak sends it
-- makes itself.
pub record IsUnasked (inputs : Inputs) (journal : List Turn) (access : Access) : Type 0 where
  -- the list of digests
  pub list : (name : List ℕ) → inputs.list ≡ Some name → access ≢ Asks name
  -- the package that a flash is formatted with, but where told files lack the list or show it to be bad
  pub wanted : (banks : ℕ) (rows : List ImageRow) (file : List ℕ) → inputs.asked ≡ Some (ask.format banks rows file)
      → HasGoodList inputs.list inputs.files → access ≢ Asks file
  -- what is sent
  pub sent : ((seed rounds : ℕ) → inputs.asked ≡ Some (ask.soak seed rounds) → ⊥) → IsUnnamedIn journal access

-- ---- in one

-- What it promises of a run for what was asked. `rest` is what the source tells afterwards.
pub record Serves {H I : Type 0} (passes : List ℕ → Bool) (device : Device) (inputs : Inputs)
    (ending : Ending Note) (old new : World) (rest : Option (List ℕ)) (files_before files_after : H)
    (source_before source_after : I) : Type 0 where
  -- `run`, `boot`, and words that ask for nothing. On any device: what each turn did, and why it ended. On a sound flash that is
  -- told, with told files and a told script: the machine's run.
  pub promises : RunsOrNone inputs.asked → Promised passes device.tells inputs (in_model ending) old new
  -- `run --gpt` and `boot --gpt`: why no run began, or all that `promises` says, of the flash behind the partition table
  pub by_table : (plain : Asked) → over_table inputs.asked ≡ Some plain
      → PromisedByTable passes device (record inputs { asked = Some plain }) ending old new
  -- `show`: no turn, nothing armed, nothing counted as written. Where the flash tells, the numbers are its own. With nothing dirty
  -- it is as it was.
  pub shows : inputs.asked ≡ Some ask.show → ShowedBy device.tells (given_all inputs) (in_model ending) old new
  -- `format`: formatted, refused or stopped, with the line of that, and what a loss leaves. Of a told file exactly what is refused;
  -- of any, nothing counted as written behind the last bank.
  pub formats : (banks : ℕ) (rows : List ImageRow) (file : List ℕ) → inputs.asked ≡ Some (ask.format banks rows file)
      → FormattedBy passes device (given_all inputs) file (record { banks = banks; rows = rows }) ending old new
  -- `soak`: at the status 0 all its calls were done, and the line is that of their totals. On a told flash whose front is guarded,
  -- with no seal by chance, they are a run of the machine from the flash as it was formatted.
  pub soaks : (seed rounds : ℕ) → inputs.asked ≡ Some (ask.soak seed rounds)
      → SoakedBy device (given_all inputs) seed rounds ending old new
  -- `serve`: the first turn is a boot, and each other one is of a request that acts, as those of `run`. A told sink has the frames
  -- of the replies. On a sound flash that is told, with told files, the turns are a run of the machine.
  pub serves : inputs.asked ≡ Some ask.serve → ServedBy passes device.tells (given_all inputs) (in_model ending) old new rest
  -- no command but `format`, `soak` and those with `--gpt` notes an input, or what a partition table lacks
  pub note : IsFalse (asks_beyond inputs.asked) → IsFalse (is_beyond_model ending.noted)
  -- what it takes of its files and its source, where these tell it, and which failures they count: of the files, where nothing was
  -- sent, and but for `format`
  pub reads : ReadsInputs inputs ending old.faults new.faults rest files_before files_after source_before source_after
  -- the sink failed once where the status is 3, and else not at all
  pub sink_count : FailsAtThree ending.status old.faults.sink new.faults.sink

-- The same by the manifests that the list has which is named, if one is asked for. Where none was read nothing was done, and it
-- holds whichever pass.
abbrev pub ServesFor : {H I : Type 0} → Bool → Device → Inputs → Ending Note → World → World → Option (List ℕ)
    → H → H → I → I → Type 0
ServesFor asks device inputs ending old new rest files_before files_after source_before source_after =
    ByList (HasPasses asks inputs.list inputs.files) (IsIdle ending.journal ending.status old.flash new.flash)
    (λ passes. Serves passes device inputs ending old new rest files_before files_after source_before source_after)

-- so where the words ask for a list
abbrev pub ServesByList : {H I : Type 0} → List (List ℕ) → Device → Inputs → Ending Note → World → World → Option (List ℕ)
    → H → H → I → I → Type 0
ServesByList words = ServesFor (asks_list words)
