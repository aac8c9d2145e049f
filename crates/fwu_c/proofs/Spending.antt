-- How much nearer a boot brings an armed loss, and so how many erases and programs its steps are.
use Rattle.std.proofs.Common.{◌≡◌, ◌∙◌, inl, inr, refl, ap, sym, subst, ℕ, ◌+◌, ◌-◌, ◌≤◌, List, [], Option, None, Some, arith}
use Rattle.flash_core.specs.{Counts.lowered, Counts.lowered_by, declared.flash.Arming.Arming}
use Rattle.fwu_formats.specs.{Layout.Layout, Metadata.MetaRead}
use Rattle.replicas.specs.{Stores.TakesRepair, declared.which.Which.Which}
use Rattle.replicas.specs.declared.which.Which.TheVariants.{Same, RepairZero, RepairOne, MigrateZero, MigrateOne}
use Rattle.early_boot.specs.{Ends.Ended, Ends.booted, Ends.bad_layout, Ends.no_metadata, Ends.no_bank, Ends.lost, Ends.failed}
use Rattle.early_boot.specs.{EndsBy.TakesByBytes, EndsBy.TakesLoaded, EndsBy.TakesLoadedAndStart, EndsBy.counting_told}
use Rattle.early_boot.specs.{Started.Started, Starting.TakesCounting, Starting.TakesMending, declared.counting_starts.Counting.Counting}
use Rattle.early_boot.specs.declared.counting_starts.Counting.TheVariants as counting
use Rattle.fwu_model.specs.State.{Numbers}
use Rattle.step_flash.specs.{declared.flash.StepFlash.StepFlash, Flash.arming_of, Flash.steps_of}
use Rattle.step_flash.specs.Writes.{erases_and_programs, far_loss}
use Rattle.step_flash.proofs.Armings.{same_arming, steps_by_arming}

-- ---- a loss that comes nearer

pub none_lowered : (x : Option Arming) → lowered_by 0 x ≡ x
none_lowered None = refl
none_lowered (Some a) = ap (λ n. Some (record { n = n; k = a.k })) (omega arith)

lowered_both : (x : Option Arming) (i j : ℕ) → lowered_by j (lowered_by i x) ≡ lowered_by (i + j) x
lowered_both None i j = refl
lowered_both (Some a) i j = ap (λ n. Some (record { n = n; k = a.k })) (omega arith)

once : (x : Option Arming) → lowered x ≡ lowered_by 1 x
once None = refl
once (Some a) = refl

twice : (x : Option Arming) → lowered (lowered x) ≡ lowered_by 2 x
twice x = ap lowered (once x) ∙ once (lowered_by 1 x) ∙ lowered_both x 1 1

four_times : (x : Option Arming) → lowered (lowered (lowered (lowered x))) ≡ lowered_by 4 x
four_times x = ap (λ (y : Option Arming). lowered (lowered y)) (twice x) ∙ twice (lowered_by 2 x) ∙ lowered_both x 2 2

-- one loss comes nearer by so many, and so does each
record TakesSo (Takes : Option Arming → Option Arming → Type 0) (armed arming : Option Arming) : Type 0 where
  count : ℕ
  is : arming ≡ lowered_by count armed
  each : (x : Option Arming) → Takes x (lowered_by count x)

-- ---- by the parts of a boot

repair_so : (which : Which) (x y : Option Arming) → TakesRepair which x y → TakesSo (TakesRepair which) x y
repair_so Same x y is = record { count = 0; is = is ∙ sym (none_lowered x); each = none_lowered }
repair_so RepairZero x y is = record { count = 2; is = is ∙ twice x; each = λ z. sym (twice z) }
repair_so RepairOne x y is = record { count = 2; is = is ∙ twice x; each = λ z. sym (twice z) }
repair_so MigrateZero x y (inl is) = record { count = 2; is = is ∙ twice x; each = λ z. inl (sym (twice z)) }
repair_so MigrateZero x y (inr is) = record { count = 4; is = is ∙ four_times x; each = λ z. inr (sym (four_times z)) }
repair_so MigrateOne x y is = record { count = 4; is = is ∙ four_times x; each = λ z. sym (four_times z) }

counting_so : (what : Counting) (x y : Option Arming) → TakesCounting what x y → TakesSo (TakesCounting what) x y
counting_so counting.Nothing x y is = record { count = 0; is = is ∙ sym (none_lowered x); each = none_lowered }
counting_so counting.Trial x y is = record { count = 1; is = is ∙ once x; each = λ z. sym (once z) }
counting_so counting.Raise x y is = record { count = 2; is = is ∙ twice x; each = λ z. sym (twice z) }

module _ (image : List ℕ) (a : Arming) (far : 4 ≤ a.n) (y : Option Arming) where
  mending_so : (L : Layout) (which : Which) (r : MetaRead) → TakesMending L which r image (Some a) y
      → TakesSo (TakesMending L which r image) (Some a) y
  mending_so L which r takes =
      let so = repair_so which (Some a) y takes.repair in
      record {
        count = so.count;
        is = so.is;
        each = λ z. record {
          repair = so.each z;
          once = λ zero reads.
              let same = same_arming _ _ (sym so.is ∙ takes.once zero reads) in
              let two : so.count ≡ 2 = omega (arith, far, ap (λ (x : Arming). x.n) same) in
              ap (λ n. lowered_by n z) two ∙ sym (twice z);
        };
      }

  loaded_so : TakesLoaded image (Some a) y → TakesSo (TakesLoaded image) (Some a) y
  loaded_so loaded =
      let so = mending_so loaded.layout loaded.which loaded.meta loaded.takes in
      record {
        count = so.count;
        is = so.is;
        each = λ z. record {
          layout = loaded.layout;
          layout_is = loaded.layout_is;
          which = loaded.which;
          meta = loaded.meta;
          loads = loaded.loads;
          takes = so.each z;
        };
      }

start_so : (image : List ℕ) (a : Arming) (y : Option Arming) (b : Started) (n : Numbers) → 4 ≤ a.n → TakesLoadedAndStart image b n (Some a) y
    → TakesSo (TakesLoadedAndStart image b n) (Some a) y
start_so image a y b n far takes =
    let first = loaded_so image a far takes.repaired takes.repair in
    let then = counting_so (counting_told b n) takes.repaired y takes.counting in
    record {
      count = first.count + then.count;
      is = then.is ∙ ap (lowered_by then.count) first.is ∙ lowered_both (Some a) first.count then.count;
      each = λ z. record {
        repaired = lowered_by first.count z;
        repair = first.each z;
        counting = subst (TakesCounting (counting_told b n) (lowered_by first.count z)) (lowered_both z first.count then.count)
            (then.each (lowered_by first.count z));
      };
    }

-- ---- by its steps

module _ (image : List ℕ) (d : StepFlash) (most : ℕ) where
  told_so : (Takes : Option Arming → Option Arming → Type 0) → TakesSo Takes (Some (far_loss most)) (arming_of d)
      → (x : Option Arming) → Takes x (lowered_by (erases_and_programs (steps_of d)) x)
  told_so Takes so x = subst (λ n. Takes x (lowered_by n x)) (sym (steps_by_arming d most so.count so.is)) (so.each x)

  -- a device on which no loss was armed, so that a far one came nearer
  pub boot_takes : (e : Ended) → TakesByBytes image e (Some (far_loss most)) (arming_of d)
      → (x : Option Arming) → TakesByBytes image e x (lowered_by (erases_and_programs (steps_of d)) x)
  boot_takes (booted b n) takes =
      told_so (TakesLoadedAndStart image b n) (start_so image (far_loss most) (arming_of d) b n (omega arith) takes)
  boot_takes (bad_layout f) is =
      told_so (λ x y. y ≡ x) (record { count = 0; is = is ∙ sym (none_lowered (Some (far_loss most))); each = none_lowered })
  boot_takes no_metadata is =
      told_so (λ x y. y ≡ x) (record { count = 0; is = is ∙ sym (none_lowered (Some (far_loss most))); each = none_lowered })
  boot_takes (no_bank active previous) takes = told_so (TakesLoaded image) (loaded_so image (far_loss most) (omega arith) (arming_of d) takes)
  boot_takes (lost n) takes = λ x. tt
  boot_takes (failed n) takes = λ x. tt
