-- The ways of a run on a plain flash, from what the calls give.
use Rattle.std.proofs.Common.{ℕ, Bool, List, Option, ◌≡◌, ◌≤◌, Some, None, refl, sym, subst, ◌∙◌, arith, []}
use Rattle.fwu_model.specs.{Causes.Faults, Reply.Turn, declared.kinds.Note.Note}
use Rattle.script_turns.specs.{Powered.TurnMoment, Powered.at, Runs.Ran}
use Rattle.std.specs.Prelude.{IfSome}
use Rattle.std.proofs.lemmas.Bool.{false≢true}
use Rattle.flash_core.specs.Counts.{Rose}
use Rattle.host_io.specs.{Contents.Directory, Printed.Prints}
use Rattle.fwu_words.specs.Order.{Asked, asked}
use Rattle.script_runs.specs.{Ending.Device, Ending.Ending, Ending.World, Ending.Printed}
use Rattle.script_runs.specs.Ways.{Given, HasGoodList, Refuses, Way, bad_list, bad_script, list_not_read, not_read, ran, refused, starved, too_long, usage}

-- ---- a run's end, and what it may change, from their parts

abbrev pub end-of : {Noted : Type 0} → List Turn → ℕ → Noted → Ending Noted
end-of journal status noted = record { journal = journal; status = status; noted = noted }

abbrev pub world-of : TurnMoment → Option (List ℕ) → Faults → World
world-of flash taken faults = record { flash = flash; taken = taken; faults = faults }

abbrev pub device-of : Bool → ℕ → Device
device-of tells blocks = record { tells = tells; blocks = blocks }

-- ---- the ways that a run may end, from what its parts did

-- a fact of what is told
pub of-told : {A : Type 0} (told : Option A) (P : A → Type 0) → ((value : A) → told ≡ Some value → P value) → IfSome told P
of-told None P all = tt
of-told (Some value) P all = all value refl

-- a refusal without a list is one behind a list that was read and is one
pub refuses : (asked : Option Asked) (told files : Option Directory) (name : List ℕ) (script : Option (List ℕ)) (first faults_before faults_after : Faults) (planned : ℕ) (noted : Note) (line : List ℕ)
    → HasGoodList (Some name) files → first.files ≤ faults_before.files → first.source ≡ faults_before.source
    → Refuses asked (record { list = None; files = told; script = script }) faults_before faults_after planned noted line
    → Refuses asked (record { list = Some name; files = files; script = script }) first faults_after planned noted line
refuses asked told files name script first faults_before faults_after planned noted line good later source (usage listed is) = usage good is
refuses asked told files name script first faults_before faults_after planned noted line good later source (not_read listed is rose) = not_read good is (subst (λ (n : ℕ). Rose n faults_after.source) (sym source) rose)
refuses asked told files name script first faults_before faults_after planned noted line good later source (list_not_read some why) = absurd (false≢true some)
refuses asked told files name script first faults_before faults_after planned noted line good later source (too_long listed is long) = too_long good is long
refuses asked told files name script first faults_before faults_after planned noted line good later source (bad_script n listed asks short bad) = bad_script n good asks short bad
refuses asked told files name script first faults_before faults_after planned noted line good later source (bad_list n some there bad) = absurd (false≢true some)

-- turns with these files are turns with files that are told the same
pub ran-told : (passes : List ℕ → Bool) (tells : Bool) (files told : Option Directory) (journal : List Turn) (old new : TurnMoment) (from to : ℕ) → files ≡ told → Ran passes tells told journal old new from to
    → Ran passes tells files journal old new from to
ran-told passes tells files told journal old new from to same did = subst (λ (f : Option Directory). Ran passes tells f journal old new from to) (sym same) did

-- and so they are from a count of the files' faults that is the same
pub ran-from : (passes : List ℕ → Bool) (tells : Bool) (files told : Option Directory) (journal : List Turn) (old new : TurnMoment) (was from to : ℕ) → files ≡ told → was ≡ from → Ran passes tells told journal old new was to
    → Ran passes tells files journal old new from to
ran-from passes tells files told journal old new was from to same counted did = subst (λ (n : ℕ). Ran passes tells files journal old new n to) counted (ran-told passes tells files told journal old new was to same did)

module _ (passes : List ℕ → Bool) (tells : Bool) (journal : List Turn) (status : ℕ) (noted : Note) (old new : TurnMoment) (taken_before taken_after : Option (List ℕ)) where
  -- nothing ran, and the line of the cause was put
  pub refused-by : (asked : Option Asked) (g : Given) (faults_before faults_after : Faults) (planned : ℕ) (line : List ℕ) (told : Note) → journal ≡ [] → new ≡ old → noted ≡ told → Refuses asked g faults_before faults_after planned told line
      → Prints line planned status taken_before taken_after faults_before.sink faults_after.sink → Way passes tells asked g (end-of journal status noted) (world-of old taken_before faults_before) (world-of new taken_after faults_after)
  refused-by asked g faults_before faults_after planned line told none same is why prints = refused planned line none same (subst (λ (n : Note). Refuses asked g faults_before faults_after planned n line) (sym is) why) prints

  -- a way without a list is one behind a list that was read and is one
  pub with-list : (asked : Option Asked) (told files : Option Directory) (name : List ℕ) (script : Option (List ℕ)) (first faults_before faults_after : Faults) → told ≡ files → HasGoodList (Some name) files
      → faults_before.files ≡ first.files → first.source ≡ faults_before.source → first.sink ≡ faults_before.sink
      → Way passes tells asked (record { list = None; files = told; script = script }) (end-of journal status noted) (world-of old taken_before faults_before) (world-of new taken_after faults_after)
      → Way passes tells asked (record { list = Some name; files = files; script = script }) (end-of journal status noted) (world-of old taken_before first) (world-of new taken_after faults_after)
  with-list asked told files name script first faults_before faults_after same_files good counted source sink (starved none same nine quiet stuck) = starved none same nine quiet (stuck.0, stuck.1 ∙ sym sink)
  with-list asked told files name script first faults_before faults_after same_files good counted source sink (refused planned line none same why prints) =
      refused planned line none same
      (refuses asked told files name script first faults_before faults_after planned noted line good (omega arith) source why)
      (subst (λ (n : ℕ). Prints line planned status taken_before taken_after n faults_after.sink) (sym sink) prints)
  with-list asked told files name script first faults_before faults_after same_files good counted source sink (ran calls on listed asks has does ended printed) =
      ran calls on good asks has
      (ran-from passes tells files told journal old (at on new.told new.writes new.counts new.armed new.power) faults_before.files first.files faults_after.files (sym same_files) counted does)
      ended (subst (λ (n : ℕ). Printed journal status taken_before taken_after n faults_after.sink) (sym sink) printed)
