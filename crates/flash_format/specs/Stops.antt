-- Why a step stopped, and what a step that writes leaves.
use Rattle.std.specs.Prelude.{◌≡◌, ◌⊎◌, ◌+◌, ◌<◌, ◌≤◌, ◌^◌, ⊤, ℕ, Bool, false, List, Option, Some, None, Result, Ok, Err, OnOk, IsTrue, length}
use Rattle.base_core.specs.{Block.block_bytes, Counts.Rose}
use Rattle.host_io.specs.{Contents.Directory, Reads.ReadsFile, declared.files.Files.Ghosts}
use Rattle.fip_tables.specs.Files.{Lacks, Tells}
use Rattle.image_check.specs.{Law.verdict_may_start, Passed.HasPassed, declared.bank.Verdict.Verdict}
use Rattle.meta_layout.specs.Rows.{fitted}
use Rattle.flash_core.specs.declared.flash.Flash as flash
use Rattle.flash_core.specs.{declared.flash.FlashStop.FlashStop, Calls.Goes, Counts.lowered_by, May.Keeps, Touches.TouchesOnly}
use Rattle.fwu_formats.specs.{Layout.ImageRow, Layout.Layout, Package.toc_of, Package.Toc, declared.kinds.FipFault.FipFault}
use Rattle.fwu_formats.specs.declared.kinds.LayoutFault.{LayoutFault}
use Rattle.flash_format.specs.{declared.stops.InputFault.InputFault, declared.stops.FormatStop.FormatStop}
use Rattle.flash_format.specs.{Choosing.refusal, Choosing.refusal_by, Places.IsBare, Places.LeavesNoMore, Places.OnlyErased}
use Rattle.flash_format.specs.declared.stops.InputFault.TheVariants.{Layout as BadLayout, Package, Incomplete}
use Rattle.flash_format.specs.declared.stops.FormatStop.TheVariants.{Input, ReadFailed, Flash}

-- a result, as the flash's: a refusal and a file that could not be read are no stop
abbrev pub flash_result : {T : Type 0} → Result T FormatStop → Result (Unit {0}) FlashStop
flash_result (Err (Flash stop)) = Err stop
flash_result other = Ok tt

-- how many calls of the files failed, by a result that tells it
abbrev pub unread_in : {T : Type 0} → Result T FormatStop → ℕ
unread_in (Err ReadFailed) = 1
unread_in other = 0

-- No fault of the files falls, and the file could not be read only where they rose, or told files lack the name.
pub record ReadsFileBy {T : Type 0} (told : Option Directory) (name : List ℕ) (before now : ℕ)
    (result : Result T FormatStop) : Type 0 where
  pub later : before ≤ now
  pub failed : result ≡ Err ReadFailed → Rose before now ⊎ Lacks told name

-- What reading the package of this name leaves of the files, by the result.
pub record ReadsPackage {H T : Type 0} (g : Ghosts H) (name : List ℕ) (result : Result T FormatStop) (old new : H) : Type 0 where
  -- That file alone is asked for, and none is written.
  pub files : ReadsFile g name old new
  -- On any files: no call of them failed but the one that is told.
  pub once : g.faults new ≤ g.faults old + unread_in result
  -- And that one has its cause.
  pub cause : ReadsFileBy (g.contents old) name (g.faults old) (g.faults new) result

-- nothing that was given is refused
abbrev pub RefusesNothing : {T : Type 0} → Result T FormatStop → Type 0
RefusesNothing (Err (Input fault)) = ⊥
RefusesNothing other = ⊤

-- no flash stop, and no refusal of what is in the bank
abbrev pub StopsEarly : FormatStop → Type 0
StopsEarly (Input (Incomplete verdict)) = ⊥
StopsEarly (Flash stop) = ⊥
StopsEarly other = ⊤

-- a refusal by the layout, the package or an image: before the flash is touched
abbrev pub IsEarlyStop : {T : Type 0} → Result T FormatStop → Type 0
IsEarlyStop (Err (Input (Incomplete verdict))) = ⊥
IsEarlyStop (Err (Input fault)) = ⊤
IsEarlyStop other = ⊥

-- Where this is to be refused the result is that refusal, unless the file could not be read; else it is no such refusal.
abbrev pub RefusesAs : {T : Type 0} → Option InputFault → Result T FormatStop → Type 0
RefusesAs (Some fault) result = (result ≡ Err (Input fault)) ⊎ (result ≡ Err ReadFailed)
RefusesAs None result = IsEarlyStop result → ⊥

-- On any files: some bytes give this answer, on a flash that the layout fits or doesn't. So what is refused before the flash is
-- touched is so by bytes that have that fault, or it is the layout's. What isn't is so by a package with each image. Of a file
-- that could not be read it says nothing.
pub record IsOfBytes {T : Type 0} (fits : Result Layout LayoutFault) (result : Result T FormatStop) : Type 0 where
  pub bytes : List ℕ
  pub short : length bytes < 2 ^ 64
  pub answer : RefusesAs (refusal_by fits (toc_of bytes)) result

abbrev pub IsOfLayout : {T : Type 0} → Result T FormatStop → Type 0
IsOfLayout (Err (Input (BadLayout fault))) = ⊤
IsOfLayout other = ⊥

-- the refusal is the fault of the layout, exactly where that has one
abbrev pub LayoutBy : {T : Type 0} → Result Layout LayoutFault → Result T FormatStop → Type 0
LayoutBy (Err fault) result = result ≡ Err (Input (BadLayout fault))
LayoutBy (Ok L) result = IsOfLayout result → ⊥

-- What is refused before the flash is touched, by these rows and banks on a flash of so many blocks and by the file of this name.
pub record RefusesInput {T : Type 0} (told : Option Directory) (name : List ℕ) (L : Layout) (blocks : ℕ)
    (result : Result T FormatStop) : Type 0 where
  -- By the layout, exactly.
  pub layout : LayoutBy (fitted L blocks) result
  -- And by the bytes of the file, exactly, where they are told.
  pub answers : (file : List ℕ) → Tells told name file → RefusesAs (refusal L blocks file) result
  -- On any files by some bytes, unless the file could not be read: those have that fault, or they are a package with each image.
  pub some : IsOfBytes (fitted L blocks) result

-- The fact of the verdict, where what is in the bank was refused.
abbrev pub IfRefused : {T : Type 0} → Result T FormatStop → (Verdict → Type 0) → Type 0
IfRefused result fact = (found : Verdict) → result ≡ Err (Input (Incomplete found)) → fact found

-- On every device: why what is in the bank is refused.
pub record IsByVerdict {T : Type 0} (passes : List ℕ → Bool) (rows : List ImageRow) (result : Result T FormatStop) : Type 0 where
  -- The bank may not start by the verdict.
  pub bad : IfRefused result (λ found. verdict_may_start found ≡ false)
  -- What was read gives it: a manifest that the verifier refuses, or one that passes. Of a bad manifest it says nothing.
  pub seen : IfRefused result (λ found. HasPassed passes rows 0 found)

-- the fact, where the images were written: the flash was formatted, or what is in the bank was refused
abbrev pub FormatFinishes : {T : Type 0} → Result T FormatStop → Type 0 → Type 0
FormatFinishes (Ok x) fact = fact
FormatFinishes (Err (Input (Incomplete verdict))) fact = fact
FormatFinishes other fact = ⊤

-- ---- the table that was read of a file

-- the result is the answer of the bytes, unless the file could not be read
abbrev pub IsTableRead : Result Toc FipFault → Result Toc FormatStop → Type 0
IsTableRead answer (Ok toc) = answer ≡ Ok toc
IsTableRead answer (Err (Input (Package fault))) = answer ≡ Err fault
IsTableRead answer (Err ReadFailed) = ⊤
IsTableRead answer other = ⊥

-- ---- what writing to a flash leaves, at any exit

-- Power is on, and the device has at least so many blocks.
pub record IsReadyDevice {D : Type 0} (g : flash.Ghosts D) (blocks : ℕ) (device : D) : Type 0 where
  pub on : IsTrue (g.on device)
  pub room : blocks ≤ g.blocks device

-- Programs of images into erased blocks, from one of them on, in the bytes from one place to before another.
pub record WritesImages {D T : Type 0} (g : flash.Ghosts D) (first low high count : ℕ)
    (result : Result T FormatStop) (old new : D) : Type 0 where
  -- Outside these bytes nothing changes.
  pub keeps : IsTrue g.tells → Keeps low high (g.told old) (g.told new)
  -- Of the blocks before the first one a loss leaves no more than before.
  pub left : IsTrue g.tells → LeavesNoMore first (g.told old) (g.told new)
  pub goes : Goes g (flash_result result) old new
  -- On every device: so many programs, when done.
  pub spent : OnOk result (g.arming new ≡ lowered_by count (g.arming old))
  -- On every device: no other block is erased or programmed.
  pub touches : TouchesOnly low high (g.writes old) (g.writes new)
  pub stops : RefusesNothing result

-- Erases that begin with block 0, and programs behind the first blocks.
pub record ClearsFirst {D : Type 0} (g : flash.Ghosts D) (old new : D) : Type 0 where
  -- Nothing is in the first blocks that wasn't there.
  pub only : IsTrue g.tells → OnlyErased (g.told old) (g.told new)
  -- Until block 0 is bare no other block is touched.
  pub first : IsTrue g.tells → Keeps 0 block_bytes (g.told old) (g.told new) ⊎ IsBare (g.told new)
