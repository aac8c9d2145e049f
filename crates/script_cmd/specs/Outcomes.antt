-- Wrong outcomes that no run is promised, on any device, told or not.
use Rattle.std.specs.Prelude.{◌≡◌, ◌≢◌, ◌⊎◌, ℕ, Bool, true, List, ◌∷◌, ◌++◌, Option, Some, None, Ok, Err, IsSome, ◌≤◌, []}
use Rattle.flash_core.specs.{Counts.Rose, Told.NothingDirty}
use Rattle.fwu_model.specs.{declared.kinds.Note.Note, Call.Call, Reply.Turn, Script.script_of, Headline.made_after}
use Rattle.fwu_model.specs.{Causes.LacksList, Causes.cuts_in, Wrote.StopsInLast, Wrote.usage_line, State.Numbers}
use Rattle.fwu_model.specs.declared.kinds.NoBoot.TheVariants as no_boot
use Rattle.fwu_formats.specs.{Digests.digests_of, Digests.passes_listed, Layout.Layout, Layout.ImageRow, Image.layout_seen}
use Rattle.fwu_formats.specs.Image.{deciding}
use Rattle.fwu_model.specs.Call as call
use Rattle.fwu_model.specs.Reply as reply
use Rattle.fwu_words.specs.Order as ask
use Rattle.host_io.specs.Contents.{Directory}
use Rattle.script_turns.specs.Powered.{SameDevice}
use Rattle.script_runs.specs.Ending.{Ending, World}
use Rattle.std.specs.List.{slice_get}
use Rattle.image_check.specs.Passed.{HasPackage}
use Rattle.script_cmd.specs.{Handed.HasPasses, Handed.Inputs, Promises.Promised}

-- A script with a call isn't passed over: nothing done and status 0 is the end of a script without calls.
abbrev pub NothingIsPassedOver : Type 0
NothingIsPassedOver =
    (passes : List ℕ → Bool) (tells : Bool) (inputs : Inputs) (ending : Ending Note) (old new : World)
    (bytes : List ℕ) (calls : List Call)
    → script_of bytes ≡ Ok calls
    → Promised passes tells (record inputs { asked = Some ask.run; source = Some bytes })
    (record ending { journal = []; status = 0 }) old new
    → calls ≡ []

-- Usage, a bad script and each other end without a turn leave the device as it was, armed or not.
abbrev pub NothingIsTouched : Type 0
NothingIsTouched =
    (passes : List ℕ → Bool) (tells : Bool) (inputs : Inputs) (ending : Ending Note) (old new : World)
    → Promised passes tells inputs (record ending { journal = [] }) old new
    → SameDevice old.flash new.flash

-- The program arms no loss of its own.
abbrev pub NothingIsArmed : Type 0
NothingIsArmed =
    (passes : List ℕ → Bool) (tells : Bool) (inputs : Inputs) (ending : Ending Note) (old new : World)
    → Promised passes tells inputs ending old new
    → new.flash.counts.made ≡ made_after old.flash.counts.made (cuts_in ending.journal)

-- Where the sink failed after a turn, it failed at the last turn's line: the lines before are all there.
abbrev pub NothingFollowsTheSink : Type 0
NothingFollowsTheSink =
    (passes : List ℕ → Bool) (tells : Bool) (inputs : Inputs) (ending : Ending Note) (old new : World)
    (before : List ℕ)
    → ending.journal ≢ []
    → Promised passes tells inputs (record ending { status = 3 }) (record old { taken = Some before }) new
    → (w : List ℕ) × (new.taken ≡ Some (before ++ w)) × StopsInLast ending.journal w

-- The line of usage stands for words that ask for nothing, also where the sink failed behind it.
abbrev pub UsageLineIsOfUsage : Type 0
UsageLineIsOfUsage =
    (passes : List ℕ → Bool) (tells : Bool) (inputs : Inputs) (ending : Ending Note) (old new : World)
    (before : List ℕ)
    → Promised passes tells inputs (record ending { journal = []; status = 3 })
    (record old { taken = Some before }) (record new { taken = Some (before ++ usage_line) })
    → inputs.asked ≡ None

-- A first boot that found no metadata is of a flash that has none, sound or not.
abbrev pub NoMetadataIsNone : Type 0
NoMetadataIsNone =
    (passes : List ℕ → Bool) (inputs : Inputs) (ending : Ending Note) (old new : World) (t : Turn) (turns : List Turn)
    → NothingDirty old.flash.told → t.call ≡ call.Boot → t.reply ≡ reply.NotBooted no_boot.Metadata
    → Promised passes true inputs (record ending { journal = t ∷ turns }) old new
    → (L : Layout) × (layout_seen old.flash.told.now ≡ Ok L) × (deciding L old.flash.told.now ≡ None)

-- Words that ask for nothing are answered by 2 only where a list was named and not read.
abbrev pub UsageReadsNoSource : Type 0
UsageReadsNoSource =
    (passes : List ℕ → Bool) (tells : Bool) (inputs : Inputs) (ending : Ending Note) (old new : World)
    → Promised passes tells (record inputs { asked = None }) (record ending { journal = []; status = 2 }) old new
    → IsSome inputs.list × (Rose old.faults.files new.faults.files ⊎ LacksList inputs.files inputs.list)

-- ---- lists of digests

-- Behind a list that told files lack, or that has a bad line, there is no choice of manifests that pass.
abbrev pub MissingListIsNone : Type 0
MissingListIsNone = (name : List ℕ) (files : Directory) (passes : List ℕ → Bool) → files name ≡ None
    → HasPasses true (Some name) (Some files) passes → ⊥

abbrev pub BadListIsNone : Type 0
BadListIsNone =
    (name bytes : List ℕ) (n : ℕ) (files : Directory) (passes : List ℕ → Bool)
    → files name ≡ Some bytes → digests_of bytes ≡ Err n
    → HasPasses true (Some name) (Some files) passes → ⊥

-- Behind a list those of some digests pass, and those of the list where it is told.
abbrev pub ListIsSome : Type 0
ListIsSome = (list : Option (List ℕ)) (files : Option Directory) (passes : List ℕ → Bool)
    → HasPasses true list files passes → (digests : List (List ℕ))
    × (passes ≡ passes_listed digests)

-- ---- what each boot of a run that is answered has, on any device, told or not

-- Some complete package of some images has this version and a manifest that passes, and it is not below the counter that the boot
-- read, which its turn tells.
pub record IsOfPackage (passes : List ℕ → Bool) (t : Turn) (version : ℕ) : Type 0 where
  pub rows : List ImageRow
  pub some : HasPackage passes rows version
  pub numbers : Numbers
  pub told : t.numbers ≡ Some numbers
  pub enough : numbers.counter ≤ version

abbrev pub BootsArePermitted : Type 0
BootsArePermitted =
    (passes : List ℕ → Bool) (tells : Bool) (inputs : Inputs) (ending : Ending Note) (old new : World)
    → Promised passes tells inputs ending old new
    → (n : ℕ) (t : Turn) (bank version trials counter : ℕ) (fallback : Bool) → slice_get ending.journal n ≡ Some t
    → t.call ≡ call.Boot → t.reply ≡ reply.Booted bank version trials counter fallback
    → IsOfPackage passes t version
