-- What a device tells, by its image and its steps.
use Rattle.std.specs.Prelude.{◌≡◌, ◌⊎◌, if◌then◌else◌, ℕ, ◌+◌, ◌*◌, ◌<◌, ◌≤◌, ◌++◌, ◌∷◌, [], All, Bool, true, false, List, Option, Some, None}
use Rattle.std.specs.Prelude.{is_none, min, slice_range, length, Result, is_ok, IsErrOf, IsTrue, OnErr, OnOk, not, ◌-◌}
use Rattle.std.specs.Option.{ForSome}
use Rattle.std.proofs.Common.{arith, refl}
use Rattle.std.proofs.lemmas.List.Sums.{count_by-le-length}
use Rattle.base_core.specs.Block.{block_bytes}
use Rattle.flash_core.specs.{Told.Told, Told.IsSound, Told.fresh, Told.settle, Told.settled, Told.written, Touches.TouchesOnly}
use Rattle.flash_core.specs.{May.Leaves, May.NoChance, May.TookEffect, declared.flash.Arming.Arming, declared.flash.Counts.Counts}
use Rattle.flash_core.specs.{declared.flash.FlashStop.FlashStop, declared.flash.FlashStop.TheVariants.Failed}
use Rattle.flash_core.specs.Counts.{Fires, Idles, ReachesNone, Rose, Spends, arming_kept, arming_spent, landed_of}
use Rattle.step_flash.specs.{declared.device.StepDevice.StepDevice, declared.device.StepParts.StepParts, declared.step.Step.Step}
use Rattle.step_flash.specs.{declared.stopped.Stopped.Stopped, Guard.start_with, Steps.NotesBytes, Steps.is_barrier, Steps.run_with}
use Rattle.step_flash.specs.{Steps.under_as, Steps.under_of, Writes.LiesBeside, Writes.LiesWithin, Writes.arming_by, Writes.erases_and_programs, Writes.writes_in}

-- the image with the steps done
abbrev pub after_steps : StepDevice → Told
after_steps d = run_with d.file.bytes.now d.room.items (start_with d.image.now d.file.bytes.now) d.steps.items

-- Power that comes back after a stop leaves the bytes as they are, with nothing dirty.
abbrev pub back_on : Bool → Told → Told
back_on live t = if live then t else settle t

-- the image with the steps done, beside the operation that was stopped
abbrev pub told_of : StepDevice → Told
told_of d = under_as (under_of d.stopped) (back_on d.live (after_steps d))

-- how often each block is erased or programmed by these steps
abbrev pub writes_of : StepDevice → ℕ → ℕ
writes_of d = writes_in d.steps.items

-- Where no loss is armed, a far one is told, so that what a call says of an armed loss counts its steps.
abbrev pub arming_of : StepDevice → Option Arming
arming_of d = arming_by d.arming d.most d.steps.items

-- it may fail, and loses no power
abbrev pub counts_of : StepDevice → Counts
counts_of d = record { faults = d.faults; cuts = 0; chances = 0; made = d.made; reached = 0 }

-- What is told is what these steps leave, beside an operation that is under way.
abbrev pub NotedBy : StepDevice → StepParts → Type 0
NotedBy d parts =
    told_of d
    ≡ under_as (told_of d).under
    (run_with d.file.bytes.now parts.room.items (start_with d.image.now d.file.bytes.now) parts.steps.items)

-- ---- what is noted: each erase, program and barrier that is done is one step, behind those that were noted before

-- no step was noted, and none was changed or taken out
pub record KeepsSteps (old new : StepDevice) : Type 0 where
  pub steps : new.steps.items ≡ old.steps.items
  pub room : new.room.items ≡ old.room.items

-- An erase or a barrier that was done is this step, behind those before. At a stop no step is noted.
pub record NotesStep (step : Step) (result : Result (Unit {0}) FlashStop) (old new : StepDevice) : Type 0 where
  pub noted : OnOk result (new.steps.items ≡ old.steps.items ++ step ∷ [])
  pub room : new.room.items ≡ old.room.items
  pub stopped : OnErr result (KeepsSteps old new)
  pub touches : TouchesOnly step.at (step.at + step.length) (writes_of old) (writes_of new)

-- A program that was done is one step: itself, or a copy of bytes of the package that are the same. At a stop no step is noted.
pub record NotesProgram (at : ℕ) (bytes : List ℕ) (result : Result (Unit {0}) FlashStop) (old new : StepDevice) : Type 0 where
  pub noted : OnOk result (NotesBytes old.file.bytes.now at bytes old.steps.items old.room.items new.steps.items new.room.items)
  pub stopped : OnErr result (KeepsSteps old new)
  pub touches : TouchesOnly at (at + length bytes) (writes_of old) (writes_of new)

-- ---- what each call promises as the trait has it

-- what is told after a call that may fail, what it leaves of an armed loss, and its power, size and counts
pub record CallsDevice (told : Told) (armed : Option Arming) (result : Result (Unit {0}) FlashStop)
    (old new : StepDevice) : Type 0 where
  pub content : IsTrue true → told_of new ≡ told
  pub power : new.on ≡ is_ok result
  pub size : new.blocks ≡ old.blocks
  pub arming : arming_of new ≡ armed
  pub counts : Spends result (counts_of old) (counts_of new)

pub record ReadsImage (at : ℕ) (was out : List ℕ) (result : Result (Unit {0}) FlashStop) (old new : StepDevice) : Type 0 where
  pub bytes : OnOk result (IsTrue true → out ≡ slice_range (told_of old).now at (at + length was))
  pub call : CallsDevice (told_of old) (arming_kept result (arming_of old)) result old new
  pub reached : ReachesNone result (counts_of old) (counts_of new)

-- an erase or a program of these bytes
pub record Writes (at : ℕ) (bytes : List ℕ) (result : Result (Unit {0}) FlashStop) (old new : StepDevice) : Type 0 where
  pub call : CallsDevice (written result at bytes (told_of old)) (arming_spent result (arming_of old)) result old new
  pub reached : Fires result (arming_of old) (counts_of old) (counts_of new)
  pub landed : 0 ≡ landed_of result (arming_of old)

-- a barrier
pub record SettlesImage (result : Result (Unit {0}) FlashStop) (old new : StepDevice) : Type 0 where
  pub call : CallsDevice (settled result (told_of old)) (arming_kept result (arming_of old)) result old new
  pub reached : ReachesNone result (counts_of old) (counts_of new)
  pub writes : writes_of new ≡ writes_of old

-- a loss is armed
pub record ArmsLoss (n k : ℕ) (old new : StepDevice) : Type 0 where
  pub content : IsTrue true → told_of new ≡ told_of old
  pub power : new.on ≡ old.on
  pub size : new.blocks ≡ old.blocks
  pub arming : arming_of new ≡ Some (record { n = n; k = k })
  pub made : (counts_of new).made ≡ min ((counts_of old).made + 1) 18446744073709551615
  pub counts : Idles (counts_of old) (counts_of new)

-- power comes back
pub record ComesBackOn (old new : StepDevice) : Type 0 where
  pub fresh_is : IsTrue true → told_of new ≡ fresh (told_of old).guard (told_of new).now
  pub leaves : IsTrue true → Leaves (told_of old) (told_of new).now
  pub chance : IsTrue true → Rose (counts_of old).chances (counts_of new).chances ⊎ NoChance (told_of old) (told_of new).now
  pub effect : IsTrue true → TookEffect (told_of old).under 0 (told_of new).now
  pub power : IsTrue new.on
  pub size : new.blocks ≡ old.blocks
  pub arming : arming_of new ≡ arming_of old
  pub made : (counts_of new).made ≡ (counts_of old).made
  pub counts : Idles (counts_of old) (counts_of new)

-- Only a live device does a call. Whatever came of it, the device is live where it was.
pub record StaysLive (result : Result (Unit {0}) FlashStop) (old new : StepDevice) : Type 0 where
  pub done : OnOk result (IsTrue old.live)
  pub stays : new.live ≡ old.live

-- A call failed, and power went. This is told then, and no step was noted.
pub record Fails (told : Told) (result : Result (Unit {0}) FlashStop) (old new : StepDevice) : Type 0 where
  pub stop : IsErrOf result Failed
  pub call : CallsDevice told (arming_of old) result old new
  pub kept : KeepsSteps old new
  pub live : new.live ≡ old.live

-- What was noted is handed out as it is: the steps, in their order, and the room.
pub record IsGivenOut (d : StepDevice) (parts : StepParts) : Type 0 where
  pub steps : parts.steps.items ≡ d.steps.items
  pub room : parts.room.items ≡ d.room.items

-- Steps lie where the device counts erases and programs, and nowhere else.
pub record LieAsCounted (d : StepDevice) (steps : List Step) : Type 0 where
  pub places : (first last : ℕ) → TouchesOnly (block_bytes * first) (block_bytes * last) (λ b. 0) (writes_of d)
      → All (LiesWithin (block_bytes * first) (block_bytes * last)) steps
  pub beside : (first last : ℕ) → first < last → ((b : ℕ) → first ≤ b → b < last → writes_of d b ≡ 0)
      → All (LiesBeside (block_bytes * first) (block_bytes * last)) steps

-- ---- what is told fits the device

pub none_under : (stopped : Option Stopped) → is_none stopped ≡ true → under_of stopped ≡ None
none_under None none = refl
none_under (Some s) none = absurd (cc)

sound_back : (blocks : ℕ) (live : Bool) (t : Told) → IsSound blocks true t → IsSound blocks true (back_on live t)
unfolding settle fresh
sound_back blocks true t sound = sound
sound_back blocks false t sound = record { size = sound.size; stable_size = sound.size; kept = λ i clean. refl; idle = λ on. refl }

pub device_sound : (d : StepDevice) → IsSound d.blocks d.on (told_of d)
device_sound d =
    let sound = sound_back d.blocks d.live (after_steps d) d.sound in
    record { size = sound.size; stable_size = sound.stable_size; kept = sound.kept; idle = λ on. none_under d.stopped (d.idle on) }

ahead_by : (armed : Option Arming) (most : ℕ) (steps : List Step) → length steps ≤ most → ForSome armed (λ a. 1 ≤ a.n)
    → ForSome (arming_by armed most steps) (λ a. 1 ≤ a.n)
unfolding erases_and_programs
ahead_by None most steps few ahead = λ a is.
    let n : most + 4294967296 - erases_and_programs steps ≡ a.n = cc in
    omega (arith, n, few, count_by-le-length (λ s. not (is_barrier s)) steps)
ahead_by (Some armed) most steps few ahead = ahead

pub device_ahead : (d : StepDevice) → ForSome (arming_of d) (λ armed. 1 ≤ armed.n)
device_ahead d = ahead_by d.arming d.most d.steps.items d.few (λ a is. (d.ahead a is).0)
