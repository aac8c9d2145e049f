-- What was read of a bank that gives its verdict.
use Rattle.std.proofs.Common.{◌≡◌, ℕ, zero, suc, ◌+◌, ◌-◌, ◌≤◌, ◌<◌, Bool, true, List, [], ◌∷◌, length, map, take, Result, Ok, Err, is_ok, refl, sym, ap, ◌∙◌, arith, eqb, eq-eqb, None}
use Rattle.std.proofs.lemmas.Bool.{and_from}
use Rattle.std.proofs.Math.Seq.{take-length}
use Rattle.std.specs.Prelude.{IsTrue}
use Rattle.std.specs.List.{range_with_len}
use Rattle.base_core.specs.Bytes.{listed}
use Rattle.fwu_formats.specs.{Layout.ImageRow, declared.kinds.ManifestFault.ManifestFault}
use Rattle.fwu_formats.specs.Manifest.{Manifest, manifest_of, manifest_at, manifest_size, row_at, all_paired, is_image_of, is_complete, version}
use Rattle.manifest_core.specs.Shown.{version_of}
use Rattle.manifest_core.proofs.Passed.{manifest_passed}
use Rattle.image_check.specs.{Verdict.ManifestFitsSlots, Passed.HasImage, Passed.HasImages, Passed.HasPackage, Passed.HasPackageBy}

-- the images that the rows from k on have
record Collected (manifest : List ℕ) (k n : ℕ) : Type 0 where
  images : List (List ℕ)
  count : length images ≡ n
  paired : all_paired is_image_of (map (row_at manifest) (range_with_len k n)) images ≡ true

collect : (manifest : List ℕ) (k n : ℕ) → ((i : ℕ) → k ≤ i → i < k + n → HasImage (row_at manifest i)) → Collected manifest k n
collect manifest k zero each = record { images = []; count = refl; paired = refl }
collect manifest k (suc n) each =
    let here = each k (omega arith) (omega arith) in
    let rest = collect manifest (k + 1) n (λ i low high. each i (omega (arith, low)) (omega (arith, high))) in
    record {
      images = here.0 ∷ rest.images;
      count = ap suc rest.count;
      paired = and_from (is_image_of (row_at manifest k) here.0) _ here.1 rest.paired;
    }

module _ (rows : List ImageRow) (manifest : List ℕ) (some : 1 ≤ length rows) (size : length manifest ≡ manifest_size (length rows - 1)) where
  whole : take (manifest_size (length rows - 1)) manifest ≡ manifest
  whole = ap (λ (n : ℕ). take n manifest) (sym size) ∙ take-length manifest

  module _ (passes : List ℕ → Bool) (v : ℕ) (passed : IsTrue (passes manifest)) (sizes : ManifestFitsSlots rows manifest) (each : HasImages manifest (length rows - 1) None) where
    of-manifest : (r : Result Manifest ManifestFault) → manifest_of rows manifest ≡ r → version_of r ≡ Ok v → HasPackageBy passes rows manifest v
    unfolding is_complete version
    of-manifest (Err f) h e = absurd cc
    of-manifest (Ok m) h e =
        let read = manifest_passed rows manifest m h in
        let is : manifest_at manifest ≡ m = ap manifest_at (sym whole) ∙ read.is in
        let all = collect manifest 0 (length rows - 1) (λ i low high. each i (omega (arith, high))) in
        let long : eqb (length (manifest ∷ all.images)) (length rows) ≡ true = eq-eqb _ _ (omega (arith, all.count, some)) in
        let ok : is_ok (manifest_of rows manifest) ≡ true = ap is_ok h in
        let sized : eqb (length manifest) (manifest_size (length rows - 1)) ≡ true = eq-eqb _ _ size in
        let security : m.security ≡ v = cc in
        record {
          others = all.images;
          complete = rw (long, ok, sized) (ap (λ (n : ℕ). all_paired is_image_of (listed n (row_at manifest)) all.images) read.count ∙ all.paired);
          sizes = sizes;
          version_is = ap (λ (k : Manifest). k.security) is ∙ security;
          passed = passed;
        }

    -- the manifest and the images are a complete package
    pub package-read : version_of (manifest_of rows manifest) ≡ Ok v → HasPackageBy passes rows manifest v
    package-read e = of-manifest (manifest_of rows manifest) refl e

-- such a package is one
pub package-by : (passes : List ℕ → Bool) (rows : List ImageRow) (manifest : List ℕ) (v : ℕ) → HasPackageBy passes rows manifest v → HasPackage passes rows v
package-by passes rows manifest v by = record { parts = manifest ∷ by.others; complete = by.complete; version_is = by.version_is; passed = by.passed }
