-- What the commands promise that make no turn, `show` and `format`, whichever way they end.
use Rattle.std.specs.Prelude.{◌≡◌, ◌⊎◌, ℕ, Bool, List, Option, None, Ok, IsTrue, ◌||◌, ◌==◌, []}
use Rattle.flash_core.specs.Told.{NothingDirty}
use Rattle.fwu_formats.specs.{Layout.Layout, Image.layout_seen, Image.deciding, Metadata.MetaRead, Package.Toc, Package.toc_of}
use Rattle.fwu_formats.specs.Manifest.{is_complete, manifest_part}
use Rattle.fwu_model.specs.{declared.kinds.Note.Note, Answer.images_of, Causes.may_fail_before}
use Rattle.script_runs.specs.{Ending.Ending, Ending.World, Ending.Device, Ways.Given}
use Rattle.script_turns.specs.Turning.{NoneFalls}
use Rattle.flash_commands.specs.{Showing.Showed, Formatting.Formats}
use Rattle.host_io.specs.Contents.{Directory}
use Rattle.meta_layout.specs.Rows.{fitted}
use Rattle.fip_tables.specs.Files.{Lacks, Tells}
use Rattle.flash_format.specs.{Choosing.refusal, Formatted.IsBlank}
use Rattle.script_runs.specs.declared.done.Note as own
use Rattle.script_cmd.specs.Handed.{RefusesBadList, IsGranted}

-- ---- what the command `show` promises, whichever way it ends

-- an image has a layout, and a replica with metadata of it
pub record HasMetadata (image : List ℕ) : Type 0 where
  pub layout : Layout
  pub meta : MetaRead
  pub has_layout : layout_seen image ≡ Ok layout
  pub decides : deciding layout image ≡ Option.Some meta

-- What the command answers and leaves: no turn, no count lower, no arming, and the content of a flash with nothing dirty.
pub record ShowedBy (tells : Bool) (g : Given) (ending : Ending Note) (old new : World) : Type 0 where
  pub showed : Showed tells g old new ending.status ending.noted
  pub refuses_list : RefusesBadList g old.flash new.flash ending.status old.faults new.faults
  -- on any device that counts its writes no block is erased or programmed
  pub writes : new.flash.writes ≡ old.flash.writes
  pub content : IsTrue tells → NothingDirty old.flash.told → new.flash.told ≡ old.flash.told
  pub guard : IsTrue tells → new.flash.told.guard ≡ old.flash.told.guard
  pub no_turns : ending.journal ≡ []
  pub counts : NoneFalls old.flash.counts new.flash.counts
  pub made : new.flash.counts.made ≡ old.flash.counts.made
  pub unarmed : new.flash.armed ≡ None
  -- done: it leaves the flash on
  pub power : ending.status ≡ 0 → IsTrue new.flash.power
  -- the numbers are shown where all is there and nothing failed, unless memory was wanting
  pub complete : IsTrue tells → NothingDirty old.flash.told → HasMetadata old.flash.told.now
      → IsGranted g old.flash.counts new.flash.counts old.faults new.faults → (ending.status ≡ 0) ⊎ (ending.status ≡ 9)

-- ---- what the command `format` promises, whichever way it ends

-- The rows and banks are a layout of the flash, the file is told and is a package,
-- and its images are a complete package of the layout that passes.
pub record IsFormattable (passes : List ℕ → Bool) (told : Option Directory) (name : List ℕ)
    (L : Layout) (blocks : ℕ) : Type 0 where
  pub file : List ℕ
  pub toc : Toc
  pub is_there : Tells told name file
  pub is_package : toc_of file ≡ Ok toc
  pub fits : refusal L blocks file ≡ None
  pub complete : IsTrue (is_complete L.rows (images_of L.rows file toc))
  pub permitted : IsTrue (passes (manifest_part (images_of L.rows file toc)))

-- What the command does, and that it makes no turn and arms nothing.
pub record FormattedBy (passes : List ℕ → Bool) (device : Device) (g : Given) (name : List ℕ) (L : Layout)
    (ending : Ending own.Note) (old new : World) : Type 0 where
  pub formats : Formats passes device g name L old new ending.status ending.noted
  pub refuses_list : RefusesBadList g old.flash new.flash ending.status old.faults new.faults
  -- a package that told files lack is answered by 2, where there is a layout for it,
  -- or by a failure at the line, or on the way there
  pub lacking : Lacks g.files name → (M : Layout) → fitted L device.blocks ≡ Ok M
      → IsTrue (may_fail_before ending.status || (ending.status == 13))
  -- done: no old mark, record of the counter or package is left, and the flash is on
  pub blank : ending.status ≡ 0 → IsTrue device.tells → IsBlank L new.flash.told.now
  pub power : ending.status ≡ 0 → IsTrue new.flash.power
  pub no_turns : ending.journal ≡ []
  pub made : new.flash.counts.made ≡ old.flash.counts.made
  pub unarmed : new.flash.armed ≡ None
  pub guard : IsTrue device.tells → new.flash.told.guard ≡ old.flash.told.guard
  -- a flash that tells its content is formatted where all is there and nothing failed, unless memory was wanting
  pub complete : IsTrue device.tells → IsFormattable passes g.files name L device.blocks
      → IsGranted g old.flash.counts new.flash.counts old.faults new.faults → (ending.status ≡ 0) ⊎ (ending.status ≡ 9)
