-- The images of a package that is made from a number are complete, and it installs them.
use Rattle.std.proofs.Common.{◌≡◌, ℕ, suc, ◌-◌, ◌*◌, ◌<◌, ◌≤◌, List, [], ◌∷◌, length, get_or, take, drop, map, None, Ok, is_ok, refl, sym, ap, subst, ◌∙◌, arith, IsTrue, leb, eq-eqb, append-nil}
use Rattle.std.proofs.lemmas.Bool.{and_from, and_parts, le-leb, lt-ltb}
use Rattle.std.proofs.lemmas.List.{length-map}
use Rattle.std.proofs.Math.Seq.{take-length}
use Rattle.std.specs.List.{list_all}
use Rattle.sha2.specs.Sha256.{sha256}
use Rattle.sha2.proofs.Facts256.{length-sha256}
use Rattle.base_core.specs.Bytes.{same_bytes}
use Rattle.fwu_formats.specs.{Layout.ImageRow, Layout.is_row, Package.Part, Package.packed}
use Rattle.fwu_formats.specs.Manifest.{FitsImages, Manifest, all_paired, is_complete, is_image_of, is_manifest_row, manifest_at, manifest_bytes, manifest_of, manifest_size, version}
use Rattle.fwu_formats.proofs.{ManifestWritten.written-is-read, Read.manifest-holds, Tables.tables-are-read}
use Rattle.fip_tables.specs.Packing.{pack_fault}
use Rattle.fip_tables.proofs.Again.{passed-is-read}
use Rattle.gen_core.specs.Generated.{generated, generated_images, generated_parts, image_parts, manifest_for, parts_from, manifest_row_of}
use Rattle.gen_core.specs.Law.{GeneratedAreComplete, InstallsPackage}
use Rattle.gen_core.proofs.Making.{AreImages, FitSizes, guids_of, images-are, sizes-fit}
use Rattle.gen_core.proofs.Packing.{FitRows, NoRow, OneMore, fit-guids, fit-length, generated-fit, have-fields, image_parts-fit, manifest-length, parts-pass, sixteen}
use Rattle.gen_core.proofs.Installing.{entries-fit, images-found, none-missing, none-skipped}
use Rattle.base_core.proofs.Spelled.{same_by, same_refl}

-- ---- the manifest says what the images are

-- each number has room in its field
rows-have-room : (number : ℕ) {rs : List ImageRow} {ps : List Part} → number < 4294967296 → FitRows rs ps
    → IsTrue (list_all is_manifest_row (map (manifest_row_of number) ps))
rows-have-room number low NoRow = refl
rows-have-room number low (OneMore {p = p} own others) =
    let short = lt-ltb (length p.bytes) 4294967296 (omega (arith, own.row.most, own.size)) in
    and_from _ _
    (and_from _ _ (and_from _ _ (and_from _ _ (eq-eqb _ 16 (sixteen own)) short) (lt-ltb number 4294967296 low))
    (eq-eqb _ 32 (length-sha256 p.bytes)))
    (rows-have-room number low others)

rows-in-order : (number : ℕ) {rs : List ImageRow} {ps : List Part} → FitRows rs ps
    → IsTrue (all_paired (λ i r. same_bytes i.guid r.guid) rs (map (manifest_row_of number) ps))
rows-in-order number NoRow = refl
rows-in-order number (OneMore own others) = and_from _ _ (same_by _ _ (sym own.guid)) (rows-in-order number others)

rows-within : (number : ℕ) {rs : List ImageRow} {ps : List Part} → FitRows rs ps
    → IsTrue (all_paired (λ i r. leb r.size (4096 * i.slots)) rs (map (manifest_row_of number) ps))
rows-within number NoRow = refl
rows-within number (OneMore own others) = and_from _ _ (le-leb _ _ own.size) (rows-within number others)

images-are-said : (number : ℕ) (ps : List Part)
    → IsTrue (all_paired is_image_of (map (manifest_row_of number) ps) (map (λ p. p.bytes) ps))
images-are-said number [] = refl
images-are-said number (p ∷ ps) =
    and_from _ _ (and_from _ _ (eq-eqb (length p.bytes) (length p.bytes) refl) (same_refl (sha256 p.bytes))) (images-are-said number ps)

-- ---- the manifest is read again

module _ (r : ImageRow) (rows : List ImageRow) (sizes : List ℕ) (number security : ℕ) (images : AreImages (r ∷ rows)) (fit : FitSizes (r ∷ rows) sizes)
    (low : number < 4294967296) (least : security ≤ 223) where
  abbrev ps : List Part
  ps = image_parts number 1 rows sizes

  abbrev m : Manifest
  m = manifest_for number security ps

  abbrev bytes : List ℕ
  bytes = manifest_bytes m

  fits : FitRows rows ps
  fits = image_parts-fit number 1 rows sizes (omega (arith, fit.count)) (and_parts (is_row r) (list_all is_row rows) images.each).1
      fit.within

  counted : length ps ≡ length rows
  counted = fit-length fits

  suits : FitsImages (r ∷ rows) m
  suits = record {
    count = omega (arith, length-map ps (manifest_row_of number), counted);
    few = images.few;
    security = omega (arith, least);
    rows = rows-have-room number low fits;
    order = rows-in-order number fits;
    sizes = rows-within number fits;
  }

  read : manifest_of (r ∷ rows) bytes ≡ Ok m
  read = ap (manifest_of (r ∷ rows)) (sym (append-nil bytes)) ∙ written-is-read.manifest (r ∷ rows) m [] suits

  bytes-length : length bytes ≡ manifest_size (length (r ∷ rows) - 1)
  bytes-length = omega (arith, manifest-length number security fits, counted)

  at : manifest_at bytes ≡ m
  at = ap manifest_at (sym (ap (λ (n : ℕ). take n bytes) (sym bytes-length) ∙ take-length bytes)) ∙ (manifest-holds (r ∷ rows) bytes m read).is

  pub are-complete : IsTrue (is_complete (r ∷ rows) (generated_images (r ∷ rows) sizes number security))
  unfolding is_complete
  are-complete =
      let p = generated_images (r ∷ rows) sizes number security in
      let len : length p ≡ length (r ∷ rows) = omega (arith, length-map ps (λ q. q.bytes), counted) in
      and_from _ _
      (and_from _ _ (and_from _ _ (eq-eqb (length p) (length (r ∷ rows)) len) (ap is_ok read))
      (eq-eqb (length bytes) (manifest_size (length (r ∷ rows) - 1)) bytes-length))
      (subst (λ (x : Manifest). IsTrue (all_paired is_image_of x.rows (map (λ q. q.bytes) ps))) (sym at) (images-are-said number ps))

  pub version-is : version (generated_images (r ∷ rows) sizes number security) ≡ security
  unfolding version
  version-is = ap (λ (x : Manifest). x.security) at

-- ---- the package

installs-parts : (rows : List ImageRow) (sizes : List ℕ) (number security : ℕ) → AreImages rows → FitSizes rows sizes
    → IsTrue (is_complete rows (generated_images rows sizes number security)) → version (generated_images rows sizes number security) ≡ security
    → InstallsPackage rows (generated rows sizes number security) (generated_images rows sizes number security) security
unfolding generated
installs-parts rows sizes number security images fit complete is =
    let parts = generated_parts rows sizes number security in
    let file = packed 0x12345678 0 parts 1 in
    let fits = generated-fit rows sizes number security images fit in
    let again = passed-is-read 0x12345678 0 parts 1 (parts-pass rows parts images fits) (have-fields fits) (omega arith) (omega arith)
    (omega arith) in
    let toc = again.0 in
    let guids : map (λ e. e.guid) toc.entries ≡ guids_of rows = again.4 ∙ fit-guids fits in
    let table = tables-are-read.table file toc again.1 in
    record {
      toc = toc;
      table = again.1;
      whole = none-missing rows toc guids images.distinct (entries-fit file toc.entries table.within again.6 fits);
      no_others = none-skipped rows toc guids;
      images_are = images-found rows file toc guids images.distinct ∙ again.6;
      complete = complete;
      version_is = is;
    }

pub generated-install : (rows : List ImageRow) (sizes : List ℕ) (number security : ℕ) → AreImages rows → FitSizes rows sizes → number < 4294967296
    → security ≤ 223
    → InstallsPackage rows (generated rows sizes number security) (generated_images rows sizes number security) security
generated-install [] sizes number security images fit low least = absurd (let some = images.some in omega (arith, some))
generated-install (r ∷ rows) sizes number security images fit low least =
    installs-parts (r ∷ rows) sizes number security images fit (are-complete r rows sizes number security images fit low least)
    (version-is r rows sizes number security images fit low least)

pub generated-are-complete : GeneratedAreComplete
generated-are-complete rows sizes number security images sizes-are low least =
    generated-install rows sizes number security (images-are rows images) (sizes-fit rows sizes sizes-are) low least

-- ---- the parts as the code makes them

-- the first row's type, and the rows behind it
pub parts-made : (rows : List ImageRow) (sizes : List ℕ) (number security : ℕ) (d : ImageRow) → AreImages rows
    → parts_from (get_or rows 0 d).guid (take (length rows - 1) (drop 1 rows)) sizes number security ≡ generated_parts rows sizes number security
parts-made [] sizes number security d images = absurd (let some = images.some in omega (arith, some))
parts-made (r ∷ rows) sizes number security d images =
    let n : suc (length rows) - 1 ≡ length rows = omega arith in
    ap (λ (l : List ImageRow). parts_from r.guid l sizes number security) (ap (λ (k : ℕ). take k rows) n ∙ take-length rows)

pub made-pass : (rows : List ImageRow) (sizes : List ℕ) (number security : ℕ) → AreImages rows → FitSizes rows sizes
    → pack_fault (generated_parts rows sizes number security) 1 ≡ None
made-pass rows sizes number security images fit = parts-pass rows (generated_parts rows sizes number security) images
    (generated-fit rows sizes number security images fit)
