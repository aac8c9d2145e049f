-- What holds of packages that are made from a number, and of the rounds that draw them.
use Rattle.std.specs.Prelude.{◌≡◌, ℕ, ◌+◌, ◌<◌, ◌≤◌, List, Some, None, Ok, IsTrue, slice_index_or}
use Rattle.fwu_formats.specs.{Manifest.is_complete, Manifest.version, Package.Toc, Package.toc_of}
use Rattle.fwu_formats.specs.Layout.{Layout, ImageRow, fits_layout}
use Rattle.fwu_model.specs.Answer.{images_of, first_image_fault, skipped}
use Rattle.gen_core.specs.{Calls.file_name, Calls.first_package, Calls.packages_of, Calls.round_package, Rounds.round_of}
use Rattle.gen_core.specs.{Rounds.sizes_in_round, Rounds.soak_rounds, Setup.soak_layout, declared.rounds.Round.Round}
use Rattle.gen_core.specs.Generated.{are_images, fit_sizes, generated, generated_images}

-- The file is a package that installs these images on a flash of these image rows. No image of the layout is missing or larger than
-- its slot, no entry is skipped, and the images are complete, of this security version.
pub record InstallsPackage (rows : List ImageRow) (file : List ℕ) (images : List (List ℕ)) (security : ℕ) : Type 0 where
  pub toc : Toc
  pub table : toc_of file ≡ Ok toc
  pub whole : first_image_fault rows toc ≡ None
  pub no_others : skipped rows toc ≡ 0
  pub images_are : images_of rows file toc ≡ images
  pub complete : IsTrue (is_complete rows images)
  pub version_is : version images ≡ security

-- a package that is made from a number installs its manifest and its images
abbrev pub GeneratedAreComplete : Type 0
GeneratedAreComplete =
    (rows : List ImageRow) (sizes : List ℕ) (number security : ℕ) → IsTrue (are_images rows) → IsTrue (fit_sizes rows sizes)
    → number < 4294967296 → security ≤ 223
    → InstallsPackage rows (generated rows sizes number security) (generated_images rows sizes number security) security

-- the images of a layout that fits are such
abbrev pub LayoutsHaveImages : Type 0
LayoutsHaveImages = (L : Layout) → IsTrue (fits_layout L) → IsTrue (are_images L.rows)

-- The package of each round of a soak stands under the round's name. The first package installs its images, of security version 1,
-- and that of a round its own.
pub record RoundsHavePackages : Type 0 where
  pub named : (seed n k : ℕ) (d : Round) → n < 4294967296 → k < n
      → packages_of (soak_rounds seed n) (file_name (k + 1)) ≡ Some (round_package (slice_index_or (soak_rounds seed n) k d))
  pub first : (seed : ℕ) → InstallsPackage soak_layout.rows (first_package seed)
      (generated_images soak_layout.rows (sizes_in_round seed) 0 1) 1
  pub each : (x number : ℕ) → number < 4294967296 → let r = round_of x number in
      InstallsPackage soak_layout.rows (round_package r) (generated_images soak_layout.rows r.sizes r.number r.security) r.security
