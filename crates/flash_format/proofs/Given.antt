-- What was given: a layout that fits a flash, and the images of a file. On any files, each answer is that of some bytes.
use Rattle.std.proofs.Common.{◌≡◌, ℕ, ◌*◌, ◌≤◌, List, length, Option, Result, Ok, Err, subst, arith, ltb, refl, [], inl}
use Rattle.host_io.specs.Contents.{Directory}
use Rattle.fip_tables.specs.Files.{Tells}
use Rattle.std.specs.Prelude.{IsTrue, not}
use Rattle.std.proofs.lemmas.Bool.{not-false, ltb-false}
use Rattle.fwu_formats.specs.{Layout.Layout, Layout.fits_layout, Layout.blocks_needed, Package.Entry, Package.Toc, Package.toc_of}
use Rattle.fwu_formats.specs.{declared.kinds.LayoutFault.LayoutFault}
use Rattle.fwu_model.specs.Answer.{images_of}
use Rattle.fwu_formats.proofs.SealLaws.{was_not_refused}
use Rattle.meta_layout.specs.Rows.{fitted}
use Rattle.flash_format.specs.{Formatted.HoldsImages, Places.AllStand, Choosing.IsPlan, Stops.FormatFinishes, Stops.IsOfBytes}
use Rattle.flash_format.specs.{declared.stops.FormatStop.FormatStop, declared.stops.FormatStop.TheVariants.Input}
use Rattle.flash_format.specs.declared.stops.InputFault.TheVariants.{Incomplete, Layout as BadLayout}
use Rattle.flash_format.proofs.{Plans.bank_within, Plans.same_ok, Formats.holds_images}

-- a layout that fits a flash
pub record IsFitted (L : Layout) (blocks : ℕ) (K : Layout) : Type 0 where
  pub is : K ≡ L
  pub fits : IsTrue (fits_layout K)
  pub inside : blocks_needed K ≤ blocks

pub fitted_is : (L : Layout) (blocks : ℕ) (K : Layout) → fitted L blocks ≡ Ok K → IsFitted L blocks K
unfolding fitted
fitted_is L blocks K e =
    let a = was_not_refused (not (fits_layout L)) _ _ K e in
    let b = was_not_refused (ltb blocks (blocks_needed L)) _ _ K a.1 in
    let same = same_ok {F = LayoutFault} L K b.1 in
    subst (IsFitted L blocks) same (record { is = refl; fits = not-false (fits_layout L) a.0; inside = ltb-false blocks (blocks_needed L) b.0 })

pub hold_given : (told : Option Directory) (name : List ℕ) (L K : Layout) (blocks : ℕ) (file : List ℕ) (toc : Toc) (entries : List Entry) (image : List ℕ) → IsFitted L blocks K → length image ≡ 4096 * blocks → IsPlan told name K entries
    → Tells told name file → toc_of file ≡ Ok toc → AllStand (length K.rows) K file entries image → HoldsImages L (images_of L.rows file toc) image
hold_given told name L K blocks file toc entries image fitted size plan tells is stand =
    let enough = bank_within K fitted.fits in
    let inside = fitted.inside in
    let holds = holds_images K file toc entries (plan.chosen file toc tells is) (λ k d below. (plan.stored k d below).within file tells) image (omega (arith, enough, inside, size)) fitted.fits stand in
    subst (λ (l : Layout). HoldsImages l (images_of l.rows file toc) image) fitted.is holds

-- a fact that follows
pub finishes_more : (T : Type 0) (result : Result T FormatStop) (A B : Type 0) → (A → B) → FormatFinishes result A → FormatFinishes result B
finishes_more T (Ok x) A B f a = f a
finishes_more T (Err (Input (Incomplete verdict))) A B f a = f a
finishes_more T other A B f a = tt

-- the same stop of another result
pub finishes_err : (T U : Type 0) (stop : FormatStop) (A B : Type 0) → (A → B) → FormatFinishes {T = T} (Err stop) A → FormatFinishes {T = U} (Err stop) B
finishes_err T U (Input (Incomplete verdict)) A B f a = f a
finishes_err T U other A B f a = tt

-- ---- each answer is that of some bytes

pub of_fault : (T : Type 0) (fault : LayoutFault) → IsOfBytes {T = T} (Err fault) (Err (Input (BadLayout fault)))
of_fault T fault = record { bytes = []; short = omega arith; answer = inl refl }

-- ---- what is done then
