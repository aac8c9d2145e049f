-- The parts of a package that is made from a number.
use Rattle.std.proofs.Common.{◌≡◌, ℕ, zero, suc, ◌+◌, ◌*◌, ◌<◌, ◌≤◌, Bool, List, [], ◌∷◌, ◌++◌, length, get_or, take, drop, map, refl, sym, ap, ◌∙◌, arith, IsTrue, IsFalse, leb, leb-true, add-zero, eqb, eqb-true}
use Rattle.std.proofs.lemmas.Bool.{and_from, and_parts, le-leb}
use Rattle.std.proofs.lemmas.Bool.Decides.{nat_tests}
use Rattle.std.specs.List.{All, list_all}
use Rattle.base_core.specs.Bytes.{same_bytes}
use Rattle.fwu_formats.specs.{Manifest.all_paired, Package.Part}
use Rattle.fwu_formats.specs.Layout.{ImageRow, is_row, are_distinct, fits_layout, nil_guid}
use Rattle.gen_core.specs.{Law.LayoutsHaveImages, Setup.soak_layout}
use Rattle.gen_core.specs.Generated.{are_images, fit_sizes, image_bytes, image_parts}
use Rattle.std.proofs.lemmas.List.FromFn.{length-map-range_with_len}
use Rattle.std.proofs.Math.Seq.{take-length}

abbrev pub guids_of : List ImageRow → List (List ℕ)
guids_of rows = map (λ r. r.guid) rows

-- a size in bytes is within a slot
abbrev pub is_within : ImageRow → ℕ → Bool
is_within r size = leb size (4096 * r.slots)

-- ---- what a package is made for

pub record AreImages (rows : List ImageRow) : Type 0 where
  pub some : 2 ≤ length rows
  pub few : length rows ≤ 16
  pub each : IsTrue (list_all is_row rows)
  pub distinct : IsTrue (are_distinct (guids_of rows))

pub images-are : (rows : List ImageRow) → IsTrue (are_images rows) → AreImages rows
unfolding are_images
images-are rows h = search (arith, nat_tests)

pub layouts-have-images : LayoutsHaveImages
unfolding are_images fits_layout
layouts-have-images L h =
    let a = and_parts _ (are_distinct (guids_of L.rows)) h in
    let b = and_parts _ (list_all is_row L.rows) a.0 in
    let c = and_parts _ (leb (length L.rows) 16) b.0 in
    let d = and_parts _ (leb 2 (length L.rows)) c.0 in
    and_from _ _ (and_from _ _ (and_from _ _ d.1 c.1) b.1) a.1

pub record FitSizes (rows : List ImageRow) (sizes : List ℕ) : Type 0 where
  pub count : length sizes + 1 ≡ length rows
  pub within : IsTrue (all_paired is_within (drop 1 rows) sizes)

pub sizes-fit : (rows : List ImageRow) (sizes : List ℕ) → IsTrue (fit_sizes rows sizes) → FitSizes rows sizes
unfolding fit_sizes
sizes-fit rows sizes h =
    let a = and_parts (eqb (length sizes + 1) (length rows)) (all_paired is_within (drop 1 rows) sizes) h in
    record { count = eqb-true _ _ a.0; within = a.1 }

pub soak-images : IsTrue (are_images soak_layout.rows)
unfolding are_images
soak-images = refl

pub soak-sizes_fit : (a b : ℕ) → a ≤ 8192 → b ≤ 16384 → IsTrue (fit_sizes soak_layout.rows (a ∷ b ∷ []))
unfolding fit_sizes
soak-sizes_fit a b first second = and_from _ _ (le-leb a 8192 first) (and_from _ _ (le-leb b 16384 second) refl)

-- ---- a row

pub record IsRow (r : ImageRow) : Type 0 where
  pub sixteen : length r.guid ≡ 16
  pub some : IsFalse (same_bytes r.guid nil_guid)
  pub least : 1 ≤ r.slots
  pub most : r.slots ≤ 256

pub row-limits : (r : ImageRow) → IsTrue (is_row r) → IsRow r
row-limits r h = search (arith, nat_tests)

-- ---- the images

pub image-length : (number i size : ℕ) → length (image_bytes number i size) ≡ size
unfolding image_bytes
image-length number i size = length-map-range_with_len _ 0 size

-- one part more
pub image_parts-more : (number i : ℕ) (rows : List ImageRow) (sizes : List ℕ) (k : ℕ) (d : ImageRow) → k < length rows → k < length sizes
    → image_parts number i (take (suc k) rows) (take (suc k) sizes)
    ≡ image_parts number i (take k rows) (take k sizes)
    ++ record { guid = (get_or rows k d).guid; flags = 0; bytes = image_bytes number (i + k) (get_or sizes k 0) } ∷ []
image_parts-more number i [] sizes k d lt mt = absurd (omega (arith, lt))
image_parts-more number i (r ∷ rows) [] k d lt mt = absurd (omega (arith, mt))
image_parts-more number i (r ∷ rows) (size ∷ sizes) zero d lt mt =
    ap (λ (n : ℕ). record { guid = r.guid; flags = 0; bytes = image_bytes number n size } ∷ []) (sym (add-zero i))
image_parts-more number i (r ∷ rows) (size ∷ sizes) (suc k) d lt mt =
    let own : Part = record { guid = r.guid; flags = 0; bytes = image_bytes number i size } in
    let at : i + 1 + k ≡ i + suc k = omega arith in
    ap (λ (ps : List Part). own ∷ ps) (image_parts-more number (i + 1) rows sizes k d (omega (arith, lt)) (omega (arith, mt)))
    ∙ ap (λ (n : ℕ). own ∷ (image_parts number (i + 1) (take k rows) (take k sizes)
    ++ record { guid = (get_or rows k d).guid; flags = 0; bytes = image_bytes number n (get_or sizes k 0) } ∷ [])) at

-- no size is above that of the largest slot
sizes-small : (rows : List ImageRow) (sizes : List ℕ) → length sizes ≡ length rows → IsTrue (list_all is_row rows) → IsTrue (all_paired is_within rows sizes)
    → All (λ size. size ≤ 1048576) sizes
sizes-small [] [] e each within = λ k d lt. absurd (omega (arith, lt))
sizes-small [] (size ∷ sizes) e each within = absurd (omega (arith, e))
sizes-small (r ∷ rows) [] e each within = absurd (omega (arith, e))
sizes-small (r ∷ rows) (size ∷ sizes) e each within =
    let own = and_parts (is_row r) (list_all is_row rows) each in
    let fit = and_parts (is_within r size) (all_paired is_within rows sizes) within in
    let low = leb-true size (4096 * r.slots) fit.0 in
    let most = (row-limits r own.0).most in
    all-of size sizes (omega (arith, low, most)) (sizes-small rows sizes (omega (arith, e)) own.1 fit.1)
  where
    all-of : (size : ℕ) (sizes : List ℕ) → size ≤ 1048576 → All (λ size. size ≤ 1048576) sizes → All (λ size. size ≤ 1048576) (size ∷ sizes)
    all-of size sizes first others zero d lt = first
    all-of size sizes first others (suc k) d lt = others k d (omega (arith, lt))

-- the rows behind the first, and their sizes
pub record AreSizes (rows : List ImageRow) (sizes : List ℕ) : Type 0 where
  pub count : length (drop 1 rows) ≡ length sizes
  pub some : 1 ≤ length sizes
  pub few : length sizes ≤ 15
  pub small : All (λ size. size ≤ 1048576) sizes

pub are-sizes : (rows : List ImageRow) (sizes : List ℕ) → IsTrue (are_images rows) → IsTrue (fit_sizes rows sizes) → AreSizes rows sizes
are-sizes rows sizes h g = go rows (images-are rows h) (sizes-fit rows sizes g)
  where
    go : (rows : List ImageRow) → AreImages rows → FitSizes rows sizes → AreSizes rows sizes
    go [] images fit = absurd (omega (arith, images.some))
    go (r ∷ others) images fit = record {
      count = omega (arith, fit.count);
      some = omega (arith, fit.count, images.some);
      few = omega (arith, fit.count, images.few);
      small = sizes-small others sizes (omega (arith, fit.count)) (and_parts (is_row r) (list_all is_row others) images.each).1 fit.within;
    }

pub image_parts-small : (number i : ℕ) (rows : List ImageRow) (sizes : List ℕ) → All (λ size. size ≤ 1048576) sizes
    → All (λ p. length p.bytes ≤ 1048576) (image_parts number i rows sizes)
image_parts-small number i [] sizes low k d lt = absurd (omega (arith, lt))
image_parts-small number i (r ∷ rows) [] low k d lt = absurd (omega (arith, lt))
image_parts-small number i (r ∷ rows) (size ∷ sizes) low zero d lt =
    let own = low 0 0 (omega arith) in
    omega (arith, image-length number i size, own)
image_parts-small number i (r ∷ rows) (size ∷ sizes) low (suc k) d lt =
    image_parts-small number (i + 1) rows sizes (λ j e below. low (suc j) e (omega (arith, below))) k d (omega (arith, lt))

pub image_parts-length : (number i : ℕ) (rows : List ImageRow) (sizes : List ℕ) → length sizes ≡ length rows
    → length (image_parts number i rows sizes) ≡ length rows
image_parts-length number i [] sizes e = refl
image_parts-length number i (r ∷ rows) [] e = absurd (omega (arith, e))
image_parts-length number i (r ∷ rows) (size ∷ sizes) e = ap suc (image_parts-length number (i + 1) rows sizes (omega (arith, e)))

-- all rows and sizes were gone through
pub all-parts : (number : ℕ) (rows : List ImageRow) (sizes : List ℕ) (k : ℕ) (ps : List Part) → k ≡ length sizes → length rows ≡ length sizes
    → ps ≡ image_parts number 1 (take k rows) (take k sizes)
    → ps ≡ image_parts number 1 rows sizes
all-parts number rows sizes k ps e len is =
    let by_rows : k ≡ length rows = omega (arith, e, len) in
    is ∙ ap (λ (l : List ImageRow). image_parts number 1 l (take k sizes)) (ap (λ (n : ℕ). take n rows) by_rows ∙ take-length rows)
    ∙ ap (λ (l : List ℕ). image_parts number 1 rows l) (ap (λ (n : ℕ). take n sizes) e ∙ take-length sizes)
