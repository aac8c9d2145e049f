-- Nothing keeps the parts of a package that is made from a number from being packed.
use Rattle.std.proofs.Common.{◌≡◌, ℕ, zero, suc, ◌+◌, ◌*◌, ◌<◌, ◌≤◌, true, false, not, List, [], ◌∷◌, ◌++◌, length, map, None, refl, sym, ap, subst, ◌∙◌, arith, IsTrue, IsFalse, leb-true, eq-eqb, length-append}
use Rattle.std.proofs.lemmas.Bool.{and_from, and_parts, or_from, or_parts, lt-ltb, not-true}
use lib.Count.{ones}
use Rattle.std.specs.Prelude.{flat_map}
use Rattle.std.specs.List.{list_all, list_any}
use Rattle.std.specs.Int.{next_multiple_of}
use Rattle.sha2.specs.Sha256.{sha256}
use Rattle.sha2.proofs.Facts256.{length-sha256}
use Rattle.base_core.specs.Bytes.{le, same_bytes}
use Rattle.fwu_formats.specs.{Layout.ImageRow, Layout.is_row, Layout.are_distinct, Layout.nil_guid, Package.Part}
use Rattle.fwu_formats.specs.Manifest.{Manifest, all_paired, manifest_row_bytes, manifest_body, manifest_bytes, manifest_size, manifest_magic, form_of}
use Rattle.fip_tables.specs.{Again.part_has_fields, Frame.AreSixteen, Frame.last_end, Frame.table_end}
use Rattle.fip_tables.specs.Packing.{is_alignment, is_nil, is_repeat, pack_fault, packed_part_at}
use Rattle.fip_tables.proofs.{Firsts.no-fault, Firsts.none-repeats, Firsts.none-shared, Firsts.position-none, Plans.packed-length}
use Rattle.gen_core.specs.Generated.{image_parts, manifest_row_of, manifest_for, generated_parts}
use Rattle.gen_core.proofs.Making.{AreImages, FitSizes, IsRow, guids_of, is_within, row-limits, image-length, image_parts-length}
use Rattle.base_core.proofs.Spelled.{same_sym}

-- ---- parts of images

-- the part is of the image's type, without flags, and within its slot
pub record FitsRow (r : ImageRow) (p : Part) : Type 0 where
  pub row : IsRow r
  pub guid : p.guid ≡ r.guid
  pub flags : p.flags ≡ 0
  pub size : length p.bytes ≤ 4096 * r.slots

-- each part is that of an image, in their order
pub data FitRows : List ImageRow → List Part → Type 0 where
  NoRow : FitRows [] []
  OneMore : {r : ImageRow} {p : Part} {rs : List ImageRow} {ps : List Part} → FitsRow r p → FitRows rs ps
      → FitRows (r ∷ rs) (p ∷ ps)

pub sixteen : {r : ImageRow} {p : Part} → FitsRow r p → length p.guid ≡ 16
sixteen own = ap length own.guid ∙ own.row.sixteen

pub fit-length : {rs : List ImageRow} {ps : List Part} → FitRows rs ps → length ps ≡ length rs
fit-length NoRow = refl
fit-length (OneMore own others) = ap suc (fit-length others)

pub fit-guids : {rs : List ImageRow} {ps : List Part} → FitRows rs ps → map (λ p. p.guid) ps ≡ guids_of rs
fit-guids NoRow = refl
fit-guids (OneMore own others) = let first = own.guid in let more = fit-guids others in cc

pub image_parts-fit : (number i : ℕ) (rows : List ImageRow) (sizes : List ℕ) → length sizes ≡ length rows
    → IsTrue (list_all is_row rows) → IsTrue (all_paired is_within rows sizes) → FitRows rows (image_parts number i rows sizes)
image_parts-fit number i [] sizes e each within = NoRow
image_parts-fit number i (r ∷ rows) [] e each within = absurd (omega (arith, e))
image_parts-fit number i (r ∷ rows) (size ∷ sizes) e each within =
    let own = and_parts (is_row r) (list_all is_row rows) each in
    let fit = and_parts (is_within r size) (all_paired is_within rows sizes) within in
    let low = leb-true size (4096 * r.slots) fit.0 in
    OneMore (record { row = row-limits r own.0; guid = refl; flags = refl; size = omega (arith, image-length number i size, low) })
    (image_parts-fit number (i + 1) rows sizes (omega (arith, e)) own.1 fit.1)

-- ---- the manifest

rows-length : (number : ℕ) {rs : List ImageRow} {ps : List Part} → FitRows rs ps
    → length (flat_map manifest_row_bytes (map (manifest_row_of number) ps)) ≡ 56 * length ps
rows-length number NoRow = refl
rows-length number (OneMore {p = p} {ps = ps} own others) =
    let row = manifest_row_of number p in
    let a = length-append p.guid (le 4 row.size) in
    let b = length-append (p.guid ++ le 4 row.size) (le 4 number) in
    let c = length-append ((p.guid ++ le 4 row.size) ++ le 4 number) (sha256 p.bytes) in
    let all = length-append (manifest_row_bytes row) (flat_map manifest_row_bytes (map (manifest_row_of number) ps)) in
    omega (arith, all, a, b, c, sixteen own, length-sha256 p.bytes, rows-length number others)

pub manifest-length : (number security : ℕ) {rs : List ImageRow} {ps : List Part} → FitRows rs ps
    → length (manifest_bytes (manifest_for number security ps)) ≡ manifest_size (length ps)
unfolding manifest_bytes
manifest-length number security {ps = ps} fit =
    let m = manifest_for number security ps in
    let all = length-append (manifest_body m) (sha256 (manifest_body m)) in
    omega (arith, all, length-sha256 (manifest_body m), body-length m, rows-length number fit)
  where
    body-length : (m : Manifest) → length (manifest_body m) ≡ 16 + length (flat_map manifest_row_bytes m.rows)
    body-length m = length-append (le 4 manifest_magic ++ le 4 (form_of m.security) ++ le 4 m.security ++ le 4 (length m.rows))
        (flat_map manifest_row_bytes m.rows)

-- ---- all parts

pub generated-fit : (rows : List ImageRow) (sizes : List ℕ) (number security : ℕ) → AreImages rows → FitSizes rows sizes
    → FitRows rows (generated_parts rows sizes number security)
generated-fit [] sizes number security images fit = NoRow
generated-fit (r ∷ rows) sizes number security images fit =
    let own = and_parts (is_row r) (list_all is_row rows) images.each in
    let len : length sizes ≡ length rows = omega (arith, fit.count) in
    let others = image_parts-fit number 1 rows sizes len own.1 fit.within in
    let row = row-limits r own.0 in
    let long = manifest-length number security others in
    let count = image_parts-length number 1 rows sizes len in
    OneMore (record { row = row; guid = refl; flags = refl; size = omega (arith, long, count, row.least, images.few) }) others

-- ---- no fault

other-type : (g : List ℕ) (ps : List Part) (k : ℕ) → IsFalse (list_any (same_bytes g) (map (λ p. p.guid) ps)) → k < length ps
    → same_bytes (packed_part_at ps k).guid g ≡ false
other-type g [] k none lt = absurd (omega (arith, lt))
other-type g (p ∷ ps) zero none lt = same_sym p.guid g ∙ (or_parts (same_bytes g p.guid) (list_any (same_bytes g) (map (λ q. q.guid) ps)) none).0
other-type g (p ∷ ps) (suc k) none lt = other-type g ps k (or_parts (same_bytes g p.guid) (list_any (same_bytes g) (map (λ q. q.guid) ps)) none).1
    (omega (arith, lt))

no-repeat : (ps : List Part) → IsTrue (are_distinct (map (λ p. p.guid) ps)) → (k : ℕ) → k < length ps → is_repeat ps k ≡ false
no-repeat [] h k lt = absurd (omega (arith, lt))
no-repeat (p ∷ ps) h zero lt = refl
no-repeat (p ∷ ps) h (suc k) lt =
    let both = and_parts (not (list_any (same_bytes p.guid) (map (λ q. q.guid) ps))) (are_distinct (map (λ q. q.guid) ps)) h in
    or_from (same_bytes (packed_part_at ps k).guid p.guid) (is_repeat ps k) (other-type p.guid ps k (not-true _ both.0) (omega (arith, lt)))
    (no-repeat ps both.1 k (omega (arith, lt)))

none-nil : {rs : List ImageRow} {ps : List Part} → FitRows rs ps → (k : ℕ) → k < length ps → is_nil (packed_part_at ps k) ≡ false
none-nil NoRow k lt = absurd (omega (arith, lt))
none-nil (OneMore own others) zero lt = ap (λ (g : List ℕ). same_bytes g nil_guid) own.guid ∙ own.row.some
none-nil (OneMore own others) (suc k) lt = none-nil others k (omega (arith, lt))

are-sixteen : {rs : List ImageRow} {ps : List Part} → FitRows rs ps → AreSixteen ps
are-sixteen NoRow = tt
are-sixteen (OneMore own others) = (sixteen own, are-sixteen others)

pub have-fields : {rs : List ImageRow} {ps : List Part} → FitRows rs ps → IsTrue (list_all part_has_fields ps)
have-fields NoRow = refl
have-fields (OneMore {p = p} own others) =
    let flags : p.flags ≡ 0 = own.flags in
    and_from _ _ (and_from _ _ (eq-eqb _ 16 (sixteen own)) (lt-ltb p.flags 18446744073709551616 (omega (arith, flags))))
    (have-fields others)

-- with an alignment of one there is nothing between payloads
next-one : (n : ℕ) → next_multiple_of n 1 ≡ n
next-one n = omega arith

short-end : (end : ℕ) {rs : List ImageRow} {ps : List Part} → FitRows rs ps → last_end 1 end ps ≤ end + 1048576 * length ps
short-end end NoRow = omega (arith, next-one end)
short-end end (OneMore {p = p} own others) =
    omega (arith, next-one end, own.size, own.row.most, short-end (next_multiple_of end 1 + length p.bytes) others)

one-aligns : is_alignment 1 ≡ true
unfolding ones
one-aligns = refl

pub parts-pass : (rows : List ImageRow) (parts : List Part) → AreImages rows → FitRows rows parts → pack_fault parts 1 ≡ None
parts-pass rows parts images fit =
    let len = fit-length fit in
    let few = images.few in
    let distinct = subst (λ (gs : List (List ℕ)). IsTrue (are_distinct gs)) (sym (fit-guids fit)) images.distinct in
    no-fault parts 1
    (none-shared parts (omega (arith, len, few)) (none-repeats parts (no-repeat parts distinct))
    (position-none is_nil parts (record { guid = []; flags = 0; bytes = [] }) (none-nil fit)))
    one-aligns
    (omega (arith, packed-length 0 0 parts 1 (are-sixteen fit), short-end (table_end parts) fit, len, few))
