-- What the command `format` does, tells and prints.
use Rattle.std.specs.Prelude.{◌≡◌, ◌⊎◌, ◌+◌, ◌*◌, ◌≤◌, ℕ, ◌++◌, ◌∷◌, Bool, List, Option, None, Result, Ok, Err, IfOk, []}
use Rattle.std.specs.Prelude.{IsTrue, IsFalse, is_ok, codes, decimal}
use Rattle.flash_core.specs.{Counts.all_stops, Counts.stops_in, May.Keeps, Told.Told, Told.NothingDirty, Touches.TouchesOnly}
use Rattle.flash_core.specs.declared.flash.FlashStop.{FlashStop}
use Rattle.base_core.specs.Guid.{guid_text}
use Rattle.host_io.specs.{Contents.Directory, Printed.Prints}
use Rattle.fwu_formats.specs.{Layout.Layout, Layout.blocks_needed, Package.Toc, Package.toc_of, Manifest.is_complete}
use Rattle.fwu_formats.specs.{Manifest.manifest_part, FaultText.fip_fault_text}
use Rattle.fwu_model.specs.{Answer.images_of, Text.format_line, Text.no_boot_text}
use Rattle.fwu_model.specs.declared.kinds.NoBoot.TheVariants as no_boot
use Rattle.meta_layout.specs.Rows.{fitted}
use Rattle.fip_tables.specs.Files.{Lacks, Tells}
use Rattle.image_check.specs.{Passed.HasPassed, declared.bank.Verdict.Verdict}
use Rattle.image_check.specs.declared.bank.Verdict.TheVariants as verdict
use Rattle.flash_format.specs.{Choosing.refusal, declared.formatting.Formatted.Formatted, declared.stops.FormatStop.FormatStop}
use Rattle.flash_format.specs.{declared.stops.InputFault.InputFault, Stops.flash_result, Stops.unread_in}
use Rattle.flash_format.specs.Formatted.{HoldsImages, IsBlank, IsFormatted, IsInOrder, IsRefusedFormat, IsSpelled, IsUnlaid}
use Rattle.flash_format.specs.Stops.{FormatFinishes, IfRefused, IsByVerdict, IsEarlyStop, IsOfBytes, IsOfLayout, LayoutBy}
use Rattle.flash_format.specs.Stops.{ReadsFileBy, RefusesAs}
use Rattle.flash_format.specs.declared.stops.FormatStop.TheVariants.{Input, ReadFailed, Flash}
use Rattle.flash_format.specs.declared.stops.InputFault.TheVariants as fault
use Rattle.fwu_words.specs.declared.orders.NewFlash.{NewFlash}
use Rattle.fwu_words.specs.Order as ask
use Rattle.script_turns.specs.{Powered.TurnMoment, Turning.NoneFalls}
use Rattle.script_runs.specs.ByTable.{StopHasCause, Wakes, flash_fault_line}
use Rattle.script_runs.specs.Ending.{Device, PutsNone, World, is_beyond_model, noted}
use Rattle.script_runs.specs.{Ways.Given, Ways.HasGoodList, declared.done.Note.Note}
use Rattle.script_runs.specs.declared.done.Note.TheVariants as note
use Rattle.flash_commands.specs.Showing.{RefusedList}

-- ---- the line, the status and the note of what became of a format

-- what is wrong with the images; a verdict that they are good is none of a format that was refused, nor is one by a counter
abbrev pub verdict_text : Verdict → List ℕ
verdict_text (verdict.Good version) = codes "good"
verdict_text verdict.BadManifest = codes "bad-manifest"
verdict_text verdict.NotAccepted = codes "not-accepted"
verdict_text (verdict.BadImage image) = codes "bad-image " ++ decimal image
verdict_text (verdict.BelowCounter version counter) = codes "below-counter"

abbrev pub input_text : InputFault → List ℕ
input_text (fault.Layout f) = no_boot_text (no_boot.Layout f)
input_text (fault.Package f) = codes "bad-package " ++ fip_fault_text f
input_text (fault.Missing guid) = codes "missing " ++ guid_text guid
input_text (fault.TooLarge guid) = codes "too-large " ++ guid_text guid
input_text (fault.Incomplete found) = codes "incomplete " ++ verdict_text found

-- the line
abbrev pub format_text : Result Formatted FormatStop → List ℕ
format_text (Ok done) = format_line done.layout done.version
format_text (Err (Input f)) = codes "format " ++ input_text f ++ 10 ∷ []
format_text (Err ReadFailed) = codes "read-fault\n"
format_text (Err (Flash stop)) = flash_fault_line

-- the exit status
abbrev pub format_status : Result Formatted FormatStop → ℕ
format_status (Ok done) = 0
format_status (Err (Input f)) = 7
format_status (Err ReadFailed) = 2
format_status (Err (Flash stop)) = 5

abbrev pub format_note : Result Formatted FormatStop → Note
format_note (Err (Input f)) = note.Input f
format_note other = note.Nothing

-- ---- what became of the flash

-- The result r of formatting a flash of so many blocks, from the moment old to new. It is by the rows and banks L, the package of
-- this name, and a verifier of these manifests.
pub record Tries (passes : List ℕ → Bool) (tells : Bool) (told : Option Directory) (name : List ℕ)
    (L : Layout) (blocks : ℕ) (old new : TurnMoment) (faults_before faults_after : ℕ)
    (r : Result Formatted FormatStop) : Type 0 where
  -- power came, and left this
  pub mid : Told
  pub woken : IsTrue tells → Wakes old.told mid
  -- what is refused before the flash is touched, exactly
  pub layout : LayoutBy (fitted L blocks) r
  pub answers : (file : List ℕ) → Tells told name file → RefusesAs (refusal L blocks file) r
  -- And on any files by some bytes, unless the file could not be read. A refusal before the flash is touched is one that they have.
  -- Else they are a package with each image.
  pub some : IsOfBytes (fitted L blocks) r
  pub untouched : IsEarlyStop r → new.told ≡ mid
  -- a name that told files lack, and nothing was touched
  pub missing : Lacks told name → (IsOfLayout r ⊎ (r ≡ Err ReadFailed)) × (new.told ≡ mid)
  -- a file that could not be read, and why: nothing was touched, or there is no layout, whatever a loss leaves
  pub failed : r ≡ Err ReadFailed → IsTrue tells → (new.told ≡ mid) ⊎ IsUnlaid new.told
  pub reads : ReadsFileBy told name faults_before faults_after r
  -- no call of the files failed but the one that is told
  pub unread_once : faults_after ≤ faults_before + unread_in r
  -- formatted
  pub given : IfOk r (λ done. fitted L blocks ≡ Ok done.layout)
  -- on every device: some complete package of the version that is told has a manifest that passes
  pub passed : IfOk r (λ done. HasPassed passes done.layout.rows 0 (verdict.Good done.version))
  pub formatted : IfOk r (λ done. IsTrue tells → IsFormatted passes done.layout done.version new.told)
  pub spelled : IfOk r (λ done. IsTrue tells → IsSpelled done.layout new.told.now)
  -- refused for what is in bank 0
  pub refused : IfRefused r (λ found. IsTrue tells → IsRefusedFormat passes L found new.told.now)
  -- on every device: for no verdict by which the bank may start, and for none without what was read that gives it
  pub bad : IsByVerdict passes L.rows r
  pub images : FormatFinishes r (IsTrue tells → (file : List ℕ) (toc : Toc) → Tells told name file → toc_of file ≡ Ok toc
      → HoldsImages L (images_of L.rows file toc) new.told.now)
  -- blocks 3 to 7 and the banks behind bank 0 are erased: no old mark, record of the counter or package is left
  pub blank : FormatFinishes r (IsTrue tells → IsBlank L new.told.now)
  pub deserved : IfRefused r (λ found. IsTrue tells → (file : List ℕ) (toc : Toc) → Tells told name file → toc_of file ≡ Ok toc
      → IsTrue (is_complete L.rows (images_of L.rows file toc))
      → IsTrue (passes (manifest_part (images_of L.rows file toc))) → ⊥)
  -- Either way nothing is dirty. Whatever the end, and whatever a loss leaves, block 0 alone was touched, or a layout stands only
  -- with both replicas. The one that was asked for stands only on a flash that is formatted whole, and until a loss no other is.
  pub clean : FormatFinishes r (IsTrue tells → NothingDirty new.told)
  pub ordered : IsTrue tells → IsInOrder passes L mid new.told
  -- nothing changes beyond the last bank
  pub keeps : IsTrue tells → Keeps 0 (4096 * blocks_needed L) mid new.told
  -- on every device, whatever its reads give: no block beyond the last bank is erased or programmed, at any exit
  pub touches : TouchesOnly 0 (4096 * blocks_needed L) old.writes new.writes
  -- and none at all where it is refused before the flash is touched, or where told files lack the name
  pub unwritten : IsEarlyStop r ⊎ Lacks told name → new.writes ≡ old.writes
  pub guard : IsTrue tells → new.told.guard ≡ old.told.guard
  -- no count falls, no loss is armed, and a stop of the flash has its cause
  pub counts : NoneFalls old.counts new.counts
  -- none is counted but the one that is told
  pub once : all_stops new.counts ≤ all_stops old.counts + stops_in (flash_result r)
  pub made : new.counts.made ≡ old.counts.made
  pub unarmed : new.armed ≡ None
  -- power is on unless the flash stopped it
  pub power : new.power ≡ is_ok (flash_result r)
  pub stopped : (stop : FlashStop) → r ≡ Err (Flash stop) → StopHasCause old.counts new.counts

-- ---- what the command did

-- the layout that a flash is asked to have
abbrev pub layout_of : NewFlash → Layout
layout_of wanted = record { banks = wanted.banks; rows = wanted.rows.items }

-- Nothing was done for want of memory, and no call of the files failed; or since a list of digests was not read or is none. Or the
-- flash was formatted or was not, and the line of that was put into the sink.
pub data Formats (passes : List ℕ → Bool) (device : Device) (g : Given) (name : List ℕ) (L : Layout)
    (old new : World) (status : ℕ) (said : Note) : Type 0 where
  starved : status ≡ 9 → said ≡ note.Nothing → new.flash ≡ old.flash → PutsNone old new → new.faults.files ≡ old.faults.files
      → Formats passes device g name L old new status said
  tried : HasGoodList g.list g.files → (r : Result Formatted FormatStop)
      → Tries passes device.tells g.files name L device.blocks old.flash new.flash old.faults.files new.faults.files r
      → Prints (format_text r) (format_status r) status old.taken new.taken old.faults.sink new.faults.sink
      → said ≡ format_note r
      → Formats passes device g name L old new status said
  list_refused : new.flash ≡ old.flash → IsFalse (is_beyond_model said)
      → RefusedList (ask.format L.banks L.rows name) g status (noted said) old new
      → Formats passes device g name L old new status said
