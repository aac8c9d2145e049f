-- A boot, by what its device tells and by its steps.
use Rattle.std.proofs.Common.{◌≡◌, ◌∙◌, ◌⊎◌, ◌≤◌, ◌*◌, refl, ap, sym, subst, ℕ, true, List, [], length, arith}
use Rattle.std.proofs.Common.{None, Option, Some}
use Rattle.std.specs.Prelude.{All, IsFalse, IsTrue, take}
use Rattle.base_core.specs.Block.{block_bytes}
use Rattle.flash_core.specs.{Told.Told, Told.fresh, Touches.TouchesOnly, Counts.Spends, Counts.lowered_by, declared.flash.Arming.Arming}
use Rattle.fwu_formats.specs.{Digests.passes_any, Places.counter_block, Places.first_record}
use Rattle.early_boot.specs.{Started.Started, EndsBy.BootEnds, EndsBy.EndsByBytes, EndsBy.TakesByBytes, EndsBy.TouchesBoot}
use Rattle.early_boot.specs.Ends.{Ended, booted, bad_layout, no_metadata, no_bank, lost, failed, stop_of}
use Rattle.step_flash.specs.{declared.flash.StepFlash.StepFlash, declared.step.Step.Step, Guard.guard_with, Guard.start_with}
use Rattle.step_flash.specs.{Device.LieAsCounted, Writes.LiesBeside, Writes.writes_in, Steps.under_as, Steps.run_with}
use Rattle.step_flash.specs.Writes.{arming_by, erases_and_programs, far_loss}
use Rattle.step_flash.specs.Flash.{arming_of, block_count, counts_of, device_in, is_on, told_of, image_of, most_of, package_of, steps_of, writes_of}
use Rattle.step_flash.proofs.{Armings.none_written, Causes.never_lost, Guards.by_guard, Places.none_met}
use Rattle.fwu_c.proofs.Spending.{boot_takes, none_lowered}
use Rattle.fwu_c.specs.{declared.report.Report.Report, Boots.BootsBy}
use Rattle.fwu_c.specs.Handed.{HandsOver, HasFlashSize, IsDeviceEnd, IsJustMade, IsMadeBy, boot_reach, is_idle_number}
use Rattle.fwu_c.specs.Reports.{ReportsEnd, ReportsStart, SameBut, end_code}
use Rattle.early_boot.proofs.Touching.{boot-spares}

pub guard_kept : (old t : Told) (e : Ended) → EndsByBytes (λ m. passes_any m) old e t → t.guard ≡ old.guard
guard_kept old t (lost None) ends = cc
guard_kept old t (failed None) ends = cc
guard_kept old t e ends = cc

pub start_guard : (image file : List ℕ) → (start_with image file).guard ≡ guard_with image file
unfolding fresh
start_guard image file = refl

pub start_same : (b : Started) (old new : Report) → SameBut old new → ReportsStart b old → ReportsStart b new
start_same b old new same reports = subst (ReportsStart b) (sym same) assumption

-- what changed but steps and bytes alone, twice
pub same_then : (before old new : Report) → SameBut old new → SameBut before old → SameBut before new
same_then before old new same stays = same ∙ ap (λ (r : Report). record r { steps = new.steps; bytes = new.bytes }) stays

pub end_same : (e : Ended) (before old new : Report) → SameBut old new → ReportsEnd e before old → ReportsEnd e before new
end_same (booted b n) before old new same reports = start_same b old new same reports
end_same (bad_layout f) before old new same reports = cc
end_same no_metadata before old new same reports = tt
end_same (no_bank active previous) before old new same reports = rw same reports
end_same e before old new same reports = same_then before old new same reports

-- ---- numbers

-- a number below 7 is the one that was given
pub given : (result number : ℕ) → (result ≡ number) ⊎ (result ≡ 7) → (result ≡ 7 → ⊥) → result ≡ number
given result number either other = grind arith

pub code_few : (e : Ended) → end_code e ≤ 5
code_few (booted b n) = omega arith
code_few e = omega arith

pub boot_end_is : (e : Ended) (old new : StepFlash) → Spends (stop_of e) (counts_of old) (counts_of new) → IsDeviceEnd (end_code e)
boot_end_is (lost n) old new spends = absurd (never_lost _ old new spends refl)
boot_end_is e old new spends = grind arith

-- ---- the device that came back

-- what a device lies over has the size of a flash
pub has_flash_size : (image : List ℕ) (d : StepFlash) → length image ≡ block_bytes * block_count d → HasFlashSize image
has_flash_size image d size = record { blocks = block_count d; fewest = d.device.value.sizes.0; most = d.device.value.sizes.1; size = size }

-- it was just made over the image
pub made_new : (image file : List ℕ) (d : StepFlash) → told_of d ≡ start_with image file → is_on d ≡ true → image_of d ≡ image
    → steps_of d ≡ [] → (device_in d).arming ≡ None → IsJustMade file d
made_new image file d made on is none unarmed =
    record { on = on; unarmed = unarmed; fresh = made ∙ sym (ap (λ (i : List ℕ). start_with i file) is); steps = none }

-- so it has counted nothing
pub unwritten : {file : List ℕ} {d : StepFlash} → IsJustMade file d → (b : ℕ) → writes_of d b ≡ 0
unwritten made b = ap (λ (ss : List Step). writes_in ss b) made.steps ∙ none_met b

-- and tells a far loss
far_made : {file : List ℕ} {d : StepFlash} → IsJustMade file d → arming_of d ≡ Some (far_loss (most_of d))
far_made {d = d} made =
    ap (λ (a : Option Arming). arming_by a (most_of d) (steps_of d)) made.unarmed
    ∙ ap (λ (ss : List Step). arming_by None (most_of d) ss) made.steps
    ∙ ap (λ n. lowered_by n (Some (far_loss (most_of d)))) none_written ∙ none_lowered (Some (far_loss (most_of d)))

pub start_now : (image file : List ℕ) (t : Told) → t ≡ start_with image file → t.now ≡ image
unfolding fresh
start_now image file t made = ap (λ (x : Told). x.now) made

-- what counted nothing counts where it was touched alone
pub counted_from_none : (low high : ℕ) {old new : ℕ → ℕ} → ((b : ℕ) → old b ≡ 0) → TouchesOnly low high old new
    → TouchesOnly low high (λ b. 0) new
counted_from_none low high none touches b out = touches b out ∙ none b

-- it lies over the image of the first one, and has the package
pub lies_over : (file : List ℕ) (first d : StepFlash) → IsJustMade file first → (told_of d).guard ≡ (told_of first).guard
    → (image_of d ≡ image_of first) × (package_of d ≡ file)
lies_over file first d made guard =
    by_guard d (image_of first) file (guard ∙ ap (λ (x : Told). x.guard) made.fresh ∙ start_guard (image_of first) file)

pub over : (file : List ℕ) (first d : StepFlash) (told r : Report) (steps : List Step) (room : List ℕ) → IsJustMade file first
    → (told_of d).guard ≡ (told_of first).guard → HandsOver d told r steps room
    → IsMadeBy (image_of first) file r steps room (told_of d)
over file first d told r steps room made guard hands =
    let both = lies_over file first d made guard in
    subst (λ (f : List ℕ). IsMadeBy (image_of first) f r steps room (told_of d)) both.1
    (subst (λ (i : List ℕ). IsMadeBy i (package_of d) r steps room (told_of d)) both.0 hands.made)

-- beside block 4, where the device counted nothing in it
pub beside_marks_by : (d : StepFlash) (steps : List Step) → LieAsCounted (device_in d) steps → writes_of d counter_block ≡ 0
    → All (LiesBeside (block_bytes * counter_block) (block_bytes * first_record)) steps
beside_marks_by d steps lie still = lie.beside counter_block first_record (omega arith) (λ k low high.
    let is : k ≡ counter_block = omega (arith, low, high) in ap (λ n. writes_of d n) is ∙ still)

-- ---- what is counted

none_counted : (steps : List Step) → steps ≡ [] → writes_in steps ≡ (λ k. 0)
none_counted steps empty = ap writes_in empty ∙ (λ i k. none_met k i)

none_spent : (x : Option Arming) (steps : List Step) → steps ≡ [] → lowered_by (erases_and_programs steps) x ≡ x
none_spent x steps empty = ap (λ (ss : List Step). lowered_by (erases_and_programs ss) x) empty ∙ ap (λ n. lowered_by n x) none_written ∙ none_lowered x

-- the steps of a boot, where those that are told are the device's, or none with an idle number
pub boot_counts : (e : Ended) (first d : StepFlash) (number : ℕ) (steps : List Step) → number ≡ end_code e → ((k : ℕ) → writes_of first k ≡ 0)
    → TouchesBoot e (writes_of first) (writes_of d) → (IsFalse (is_idle_number number) → steps ≡ steps_of d)
    → (IsTrue (is_idle_number number) → steps ≡ []) → TouchesBoot e (λ k. 0) (writes_in steps)
boot_counts (bad_layout f) first d number steps is none touches given empty = none_counted steps (empty (rw is refl))
boot_counts no_metadata first d number steps is none touches given empty = none_counted steps (empty (rw is refl))
boot_counts e first d number steps is none touches given empty =
    subst (λ (w : ℕ → ℕ). TouchesBoot e w (writes_in steps)) (λ i k. none k i)
    (subst (λ (w : ℕ → ℕ). TouchesBoot e (writes_of first) w) (sym (ap writes_in (given (rw is refl)))) touches)

-- how many of them are erases and programs
boot_spends : {file : List ℕ} (e : Ended) (first d : StepFlash) (number : ℕ) (steps : List Step) → IsJustMade file first → number ≡ end_code e
    → TakesByBytes (told_of first).now e (arming_of first) (arming_of d) → (IsFalse (is_idle_number number) → steps ≡ steps_of d)
    → (IsTrue (is_idle_number number) → steps ≡ []) → (x : Option Arming)
    → TakesByBytes (image_of first) e x (lowered_by (erases_and_programs steps) x)
boot_spends (bad_layout f) first d number steps made is takes given empty x = none_spent x steps (empty (rw is refl))
boot_spends no_metadata first d number steps made is takes given empty x = none_spent x steps (empty (rw is refl))
boot_spends {file = file} e first d number steps made is takes given empty x =
    subst (λ (ss : List Step). TakesByBytes (image_of first) e x (lowered_by (erases_and_programs ss) x)) (sym (given (rw is refl)))
    (boot_takes (image_of first) d (most_of first) e
    (subst (λ (i : List ℕ). TakesByBytes i e (Some (far_loss (most_of first))) (arming_of d)) (start_now (image_of first) file (told_of first) made.fresh)
    (subst (λ (a : Option Arming). TakesByBytes (told_of first).now e a (arming_of d)) (far_made made) takes)) x)

-- as many are told
pub none_taken : {X : Type 0} (n : ℕ) (xs : List X) → n ≡ 0 → take n xs ≡ []
none_taken n xs zero = rw zero refl

pub boots_by : (first d : StepFlash) (e : Ended) (number : ℕ) (old told r : Report) (steps : List Step) (room : List ℕ)
    → IsJustMade [] first → BootEnds (λ m. passes_any m) (told_of first) e (told_of d)
    → HandsOver d told r steps room → TouchesOnly block_bytes boot_reach (writes_of first) (writes_of d)
    → TouchesBoot e (writes_of first) (writes_of d) → TakesByBytes (told_of first).now e (arming_of first) (arming_of d)
    → number ≡ end_code e → ReportsEnd e old told
    → (IsFalse (is_idle_number number) → take r.steps steps ≡ steps_of d) → (IsTrue (is_idle_number number) → r.steps ≡ 0)
    → BootsBy (image_of first) number old r steps room
boots_by first d e number old told r steps room made ends hands touches fewer spent is reports counted idle =
    let guard = guard_kept (told_of first) (told_of d) e ends.by_bytes in
    record {
      end = e;
      number_is = is;
      t = told_of d;
      ends = subst (λ (x : Told). BootEnds (λ m. passes_any m) x e (told_of d)) made.fresh ends;
      made = over [] first d told r steps room made guard hands;
      places = hands.lie.places 1 7 (counted_from_none block_bytes boot_reach (unwritten made) touches);
      beside_marks = beside_marks_by d _ hands.lie
          (boot-spares e (writes_of first) (writes_of d) fewer ∙ unwritten made counter_block);
      touches_fewer = boot_counts e first d number (take r.steps steps) is (unwritten made) fewer counted
          (λ none. none_taken r.steps steps (idle none));
      spent = boot_spends e first d number (take r.steps steps) made is spent counted (λ none. none_taken r.steps steps (idle none));
      reports = end_same e old told r hands.same reports;
    }

-- ---- where nothing was written

pub boot_idle : (e : Ended) (old t : Told) → EndsByBytes (λ m. passes_any m) old e t → IsTrue (is_idle_number (end_code e)) → t ≡ old
boot_idle (bad_layout f) old t ends idle = ends.1
boot_idle no_metadata old t ends idle = ends.3
boot_idle e old t ends idle = absurd (cc)

-- what a device tells before its first step, by its own image and package
pub begun_as : (d : StepFlash) (image file : List ℕ) → told_of d ≡ start_with image file
    → told_of d ≡ start_with (image_of d) (package_of d)
begun_as d image file made =
    let both = by_guard d image file (ap (λ (x : Told). x.guard) made ∙ start_guard image file) in
    made ∙ sym (ap (λ (i : List ℕ). start_with i file) both.0) ∙ sym (ap (λ (f : List ℕ). start_with (image_of d) f) both.1)

-- no step makes of the device's image what it tells then
pub none_noted : (d : StepFlash) (steps : List Step) (room : List ℕ) → told_of d ≡ start_with (image_of d) (package_of d) → steps ≡ []
    → told_of d ≡ under_as (told_of d).under (run_with (package_of d) room (start_with (image_of d) (package_of d)) steps)
unfolding run_with fresh
none_noted d steps room begun empty =
    let first = start_with (image_of d) (package_of d) in
    let whole : told_of d ≡ under_as (told_of d).under first = subst (λ (t : Told). t ≡ under_as t.under first) (sym begun) refl in
    rw empty whole
