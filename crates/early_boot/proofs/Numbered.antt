-- The numbers of what is shown, on any device.
use Rattle.std.proofs.Common.{length, ◌≡◌, ◌⊎◌, ◌≤◌, inl, inr, refl, sym, ◌∙◌, arith}
use Rattle.std.specs.Prelude.{IsTrue}
use Rattle.fwu_formats.specs.{Layout.fits_layout, Metadata.fits_meta, Places.trial_limit}
use Rattle.fwu_formats.proofs.SealLaws.{limits}
use Rattle.meta_layout.proofs.Fits.{meta-fits}
use Rattle.replicas.specs.{declared.which.Which.Which, Which.form_read_of}
use Rattle.replicas.specs.declared.which.Which.TheVariants.{MigrateZero, MigrateOne}
use Rattle.early_boot.specs.{Numbers.AreNumbers, Numbers.numbers_shown, Showing.CountsNone, declared.showing.Shown.Shown}

one-or-two : (which : Which) → (form_read_of which ≡ 1) ⊎ (form_read_of which ≡ 2)
one-or-two MigrateZero = inl refl
one-or-two MigrateOne = inl refl
one-or-two repairs = inr refl

pub numbers-are : (shown : Shown) → IsTrue (fits_layout shown.layout) → IsTrue (fits_meta shown.layout shown.meta.meta) → shown.trials ≤ trial_limit → shown.meta.form ≡ form_read_of shown.which → CountsNone shown → AreNumbers (numbers_shown shown)
numbers-are shown layout meta few form none =
    let fit = meta-fits shown.layout shown.meta.meta meta in
    let limit = limits shown.layout layout in
    record {
      form = elim (one-or-two shown.which) [
        | inl one ↦ inl (form ∙ one)
        | inr two ↦ inr (form ∙ two)
      ];
      fewest = omega (arith, fit.states, limit.fewest_banks);
      most = omega (arith, fit.states, limit.most_banks);
      images = length shown.layout.rows;
      fewest_images = limit.fewest_images;
      most_images = limit.most_images;
      rows = fit.rows;
      bits = fit.bits ∙ sym fit.states;
      active = omega (arith, fit.states, fit.active);
      previous = omega (arith, fit.states, fit.previous);
      few = few;
      none = none;
    }
