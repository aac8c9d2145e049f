-- What a call promises that tells steps, whatever it is asked for.
use Rattle.std.proofs.Common.{◌≡◌, ◌⊎◌, ◌==◌, inl, inr, refl, ap, ℕ, ◌≤◌, ◌*◌, Bool, List, All, drop, length, take, arith}
use Rattle.fwu_c.specs.declared.report.Report.{Report}
use Rattle.fwu_c.specs.Handed.{IsJustMade, HasFlashSize, IsDeviceEnd, KeepsReport, TellsSteps, is_idle_number, unmade_code}
use Rattle.std.specs.Prelude.{◌↔◌, ◌||◌, IsTrue}
use Rattle.step_flash.specs.{declared.step.Step.Step, declared.flash.Unmade.Unmade, Flash.IsUnmade, Writes.LiesWithin}
use Rattle.step_flash.specs.{Device.LieAsCounted, declared.flash.StepFlash.StepFlash, Flash.device_in, Flash.image_of, Flash.writes_of}
use Rattle.step_flash.specs.declared.flash.Unmade.TheVariants.{NoFlash, NoMemory}
use Rattle.base_core.specs.Block.{block_bytes}
use Rattle.flash_core.specs.Touches.{TouchesOnly}
use Rattle.fwu_c.proofs.Booting.{counted_from_none, unwritten}

pub keeps_stays : (number : ℕ) (r : Report) → KeepsReport number r r
keeps_stays number r = record {
  fault = λ other. refl;
  idle = λ idle. refl;
  none = λ none. refl;
}

-- no bank is told as the one that is to be started
abbrev pub starts_none : ℕ → Bool
starts_none number = is_idle_number number || number == 3

pub idle_starts : (number : ℕ) → IsTrue (is_idle_number number) → IsTrue (starts_none number)
idle_starts number idle = ap (λ (b : Bool). b || number == 3) idle

-- where a bank was started
pub keeps_fault : (number : ℕ) (old new : Report) → new.layout_fault ≡ old.layout_fault → (IsTrue (starts_none number) → ⊥)
    → KeepsReport number old new
keeps_fault number old new same starts = record {
  fault = λ other. same;
  idle = λ idle. absurd (starts (idle_starts number idle));
  none = λ three. absurd (starts (rw three refl));
}

pub keeps_started : (old new : Report) → new.layout_fault ≡ old.layout_fault → KeepsReport 0 old new
keeps_started old new same = keeps_fault 0 old new same (λ none. absurd (cc))

-- steps that reach less far
pub lie_further : (low near far : ℕ) (steps : List Step) → near ≤ far → All (LiesWithin low near) steps → All (LiesWithin low far) steps
lie_further low near far steps more all = λ k d lt. elim (all k d lt) [
  | inl barrier ↦ inl barrier
  | inr place ↦ inr (place.0, omega (arith, place.1, more))
]

-- those of a device that wrote some of the first eight blocks alone
pub lie_inside : (file : List ℕ) (first d : StepFlash) (last : ℕ) (steps : List Step) → IsJustMade file first → last ≤ 8
    → TouchesOnly block_bytes (block_bytes * last) (writes_of first) (writes_of d) → LieAsCounted (device_in d) steps
    → All (LiesWithin block_bytes (length (image_of first))) steps
lie_inside file first d last steps made few touches lie =
    let s = first.device.value in
    lie_further block_bytes (block_bytes * last) _ steps (omega (arith, few, s.size, s.sizes.0))
    (lie.places 1 last (counted_from_none block_bytes (block_bytes * last) (unwritten made) touches))

-- 6 comes of all bytes that are no flash, and of no others
pub unmade_by : (image : List ℕ) (why : Unmade) → IsUnmade (length image) why → (unmade_code why ≡ 6) ↔ (HasFlashSize image → ⊥)
unmade_by image NoFlash unmade = (λ six flash. unmade flash.blocks flash.fewest flash.most flash.size, λ none. refl)
unmade_by image NoMemory unmade =
    let size : HasFlashSize image = record { blocks = unmade.0; fewest = unmade.1; most = unmade.2; size = unmade.3 } in
    (λ six. absurd (omega (arith, six)), λ none. absurd (none size))

unmade_either : (why : Unmade) → (unmade_code why ≡ 6) ⊎ (unmade_code why ≡ 7)
unmade_either NoFlash = inl refl
unmade_either NoMemory = inr refl

-- at 6 and 7 all stays as it was
told_none : (image : List ℕ) (number : ℕ) (r : Report) (steps : List Step) (room : List ℕ) → (number ≡ 6) ⊎ (number ≡ 7)
    → (number ≡ 6) ↔ (HasFlashSize image → ⊥) → TellsSteps image number r steps room r steps room
told_none image number r steps room either no_flash = record {
  unlost = grind arith;
  idle = λ idle. absurd (elim either [ inl six ↦ cc | inr seven ↦ cc ]);
  kept = keeps_stays number r;
  full = λ five. absurd (grind arith);
  spared = λ six seven. absurd (grind arith);
  behind = (refl, refl);
  no_flash = no_flash;
  untouched = λ either. (refl, refl, refl);
}

pub told_no_room : (image : List ℕ) (r : Report) (steps : List Step) (room : List ℕ) → HasFlashSize image
    → TellsSteps image 7 r steps room r steps room
told_no_room image r steps room is =
    told_none image 7 r steps room (inr refl) (λ six. absurd (omega (arith, six)), λ not. absurd (not is))

-- there is no device over the image
pub told_unmade : (image : List ℕ) (why : Unmade) (number : ℕ) (r : Report) (steps : List Step) (room : List ℕ) → IsUnmade (length image) why
    → number ≡ unmade_code why → TellsSteps image number r steps room r steps room
told_unmade image why number r steps room unmade is =
    rw is (told_none image _ r steps room (unmade_either why) (unmade_by image why unmade))

-- what a device handed over
pub told_handed : (image : List ℕ) (result number : ℕ) (old : Report) (old_steps : List Step) (old_room : List ℕ) (new : Report) (steps : List Step)
    (room : List ℕ) → HasFlashSize image → IsDeviceEnd number → (result ≡ number) ⊎ (result ≡ 7) → (IsTrue (is_idle_number result) → (new.steps ≡ 0) × (new.bytes ≡ 0))
    → KeepsReport result old new → ((result ≡ 7 → ⊥) → All (LiesWithin block_bytes (length image)) (take new.steps steps))
    → (drop new.steps steps ≡ drop new.steps old_steps) × (drop new.bytes room ≡ drop new.bytes old_room) → (result ≡ 5 → new.steps ≡ length old_steps) → (result ≡ 7 → (new ≡ old) × (steps ≡ old_steps) × (room ≡ old_room))
    → TellsSteps image result old old_steps old_room new steps room
told_handed image result number old old_steps old_room new steps room is end same idle kept spared behind full untouched =
    let not_four : result ≡ 4 → ⊥ = grind arith in
    let not_six : result ≡ 6 → ⊥ = grind arith in
    record {
      unlost = not_four;
      idle = idle;
      kept = kept;
      spared = λ six seven. spared seven;
      behind = behind;
      full = full;
      no_flash = (λ six. absurd (not_six six), λ not. absurd (not is));
      untouched = λ either. elim either [ inl six ↦ absurd (not_six six) | inr seven ↦ untouched seven ];
    }
