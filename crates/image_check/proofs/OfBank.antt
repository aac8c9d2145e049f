-- What is found at a bank's block is the verdict on the bank.
use Rattle.std.proofs.Common.{◌≡◌, ℕ, suc, ◌+◌, ◌-◌, ◌*◌, ◌≤◌, ◌<◌, Bool, List, [], ◌∷◌, length, get_or, take, drop, Result, Ok, Err, refl, sym, ap, ◌∙◌, arith, add-one, Option, eq-eqb, leb, leb-true}
use Rattle.std.proofs.Math.Nat.{suc-mul, mul-le-mul_right}
use Rattle.std.proofs.lemmas.Bool.{and_parts}
use Rattle.std.proofs.lemmas.List.{take-take, length-take-le, length-drop}
use Rattle.std.proofs.lemmas.List.Sums.{sum_by_more_le}
use Rattle.std.proofs.lemmas.List.FromFn.{length-map-range_with_len, get_or-map-range_with_len}
use Rattle.std.specs.Prelude.{IsTrue, slice_range}
use Rattle.std.specs.List.{list_all}
use Rattle.base_core.specs.Bytes.{num_at, same_bytes}
use Rattle.sha2.specs.Sha256.{sha256}
use Rattle.fwu_formats.specs.{Image.slot, Image.images_in, declared.kinds.ManifestFault.ManifestFault}
use Rattle.fwu_formats.specs.Layout.{Layout, ImageRow, slot_total, fits_layout, is_row, no_row}
use Rattle.fwu_formats.specs.Manifest.{Row, Manifest, manifest_of, manifest_at, manifest_size, row_at, is_image_of}
use Rattle.fwu_formats.proofs.{SealLaws.limits, Spell.num_front}
use Rattle.manifest_core.specs.Shown.{version_of}
use Rattle.manifest_core.proofs.{InTurn.of_front, Passed.manifest_passed, Passed.sizes_fit}
use Rattle.image_check.specs.Verdict.{is_good, place, by_version, found, front_of, lowest_bad, by_manifest, package_has_image, verdict_on}
use Rattle.image_check.proofs.{Sums.total_more_le, Lowest.same_bad}

-- a bank's blocks are among those of all banks
pub bank_fits : (bank banks total blocks : ℕ) → bank < banks → 8 + banks * total ≤ blocks → 8 + bank * total + total ≤ blocks
bank_fits bank banks total blocks below fits =
    let one : suc bank * total ≡ bank * total + total = suc-mul bank total in
    let up : suc bank * total ≤ banks * total = mul-le-mul_right total (omega arith) in
    omega (arith, one, up, fits)

-- the first slot has a block
pub first-slot : (rows : List ImageRow) (d : ImageRow) → IsTrue (list_all is_row rows) → 0 < length rows → 1 ≤ (get_or rows 0 d).slots
first-slot [] d h some = absurd (omega (arith, some))
first-slot (r ∷ rows) d h some =
    let row = (and_parts (is_row r) _ h).0 in
    let most = and_parts _ (leb r.slots 256) row in
    leb-true 1 r.slots (and_parts _ (leb 1 r.slots) most.0).1

-- what stands past the end of a manifest's rows
abbrev pub none_said : Row
none_said = record { guid = []; size = 0; version = 0; digest = [] }

-- the front of an image's slot is the image
image-same : (row : Row) (bytes other : List ℕ) (n : ℕ) → bytes ≡ take n other → row.size ≤ n → n ≤ length other
    → same_bytes (sha256 (take row.size other)) row.digest ≡ is_image_of row (take row.size bytes)
image-same row bytes other n is small long =
    let whole : take row.size bytes ≡ take row.size other = ap (take row.size) is ∙ take-take row.size n other small in
    let size : length (take row.size bytes) ≡ row.size = ap length whole ∙ length-take-le row.size other (omega arith) in
    rw (eq-eqb _ _ size) (ap (λ (l : List ℕ). same_bytes (sha256 l) row.digest) (sym whole))

module _ (passes : List ℕ → Bool) (counter : ℕ) (image : List ℕ) (L : Layout) (bank first : ℕ)
    (fits : IsTrue (fits_layout L)) (at : first ≡ 8 + bank * slot_total L.rows) (room : 4096 * (first + slot_total L.rows) ≤ length image) where
  abbrev rows : List ImageRow
  rows = L.rows

  abbrev whole : List ℕ
  whole = front_of image rows first

  abbrev front : List ℕ
  front = slot L image bank 0

  rows-some : 2 ≤ length rows
  rows-some = (limits L fits).fewest_images

  rows-few : length rows ≤ 16
  rows-few = (limits L fits).most_images

  -- an image's slot lies in the flash
  slot-room : (i : ℕ) → i < length rows → 4096 * (first + slot_total (take i rows)) + 4096 * (get_or rows i no_row).slots ≤ length image
  slot-room i within = let more = total_more_le rows i no_row within in omega (arith, more, room)

  slot-is : (i : ℕ) → slot L image bank i ≡ take (4096 * (get_or rows i no_row).slots) (drop (4096 * place rows first i) image)
  slot-is i = ap (λ (n : ℕ). take (4096 * (get_or rows i no_row).slots) (drop (4096 * (n + slot_total (take i rows))) image)) (sym at)

  slot-long : (i : ℕ) → i < length rows → 4096 * (get_or rows i no_row).slots ≤ length (drop (4096 * place rows first i) image)
  slot-long i within = let fit = slot-room i within in omega (arith, fit, length-drop (4096 * place rows first i) image)

  one-block : 1 ≤ (get_or rows 0 no_row).slots
  unfolding fits_layout
  one-block = first-slot rows no_row (and_parts _ (list_all is_row rows) (and_parts _ _ fits).0).1 (omega (arith, rows-some))

  front-long : manifest_size (length rows - 1) ≤ length front
  front-long =
      let long = length-take-le (4096 * (get_or rows 0 no_row).slots) (drop (4096 * place rows first 0) image) (slot-long 0 (omega (arith, rows-some))) in
      let same = ap length (slot-is 0) in
      omega (arith, long, same, one-block, rows-few)

  whole-is : take (manifest_size (length rows - 1)) front ≡ whole
  whole-is =
      let none : first + 0 ≡ first = omega arith in
      ap (take (manifest_size (length rows - 1))) (slot-is 0)
      ∙ take-take _ (4096 * (get_or rows 0 no_row).slots) (drop (4096 * place rows first 0) image) (omega (arith, one-block, rows-few))
      ∙ ap (λ (n : ℕ). take (manifest_size (length rows - 1)) (drop (4096 * n) image)) none

  manifest-same : manifest_of rows whole ≡ manifest_of rows front
  manifest-same = ap (manifest_of rows) (sym whole-is) ∙ of_front rows front front-long

  whole-size : length whole ≡ manifest_size (length rows - 1)
  whole-size = ap length (sym whole-is) ∙ length-take-le (manifest_size (length rows - 1)) front front-long

  -- a manifest that passed
  module _ (m : Manifest) (h : manifest_of rows front ≡ Ok m) where
    is-whole : manifest_at whole ≡ m
    is-whole = ap manifest_at (sym whole-is) ∙ (manifest_passed rows front m h).is

    counted : num_at 4 whole 12 ≡ length rows - 1
    counted =
        ap (λ (b : List ℕ). num_at 4 b 12) (sym whole-is) ∙ num_front 4 12 (manifest_size (length rows - 1)) front (omega arith)
        ∙ (manifest_passed rows front m h).count

    count : length m.rows ≡ length rows - 1
    count =
        ap (λ (k : Manifest). length k.rows) (sym is-whole) ∙ length-map-range_with_len (row_at whole) 0 (num_at 4 whole 12)
        ∙ counted

    row-is : (i : ℕ) → i < length rows - 1 → get_or m.rows i none_said ≡ row_at whole i
    row-is i within =
        ap (λ (k : Manifest). get_or k.rows i none_said) (sym is-whole)
        ∙ get_or-map-range_with_len (row_at whole) 0 (num_at 4 whole 12) i i none_said (omega (arith, within, counted)) (omega arith)

    abbrev parts : List (List ℕ)
    parts = images_in L image bank m

    image-is : (i : ℕ) → i < length rows - 1 → get_or parts (i + 1) [] ≡ take (row_at whole i).size (slot L image bank (i + 1))
    image-is i within =
        ap (λ (n : ℕ). get_or parts n []) (add-one i)
        ∙ get_or-map-range_with_len (λ (j : ℕ). take (get_or m.rows j none_said).size (slot L image bank (j + 1))) 0 (length m.rows) i i [] (omega (arith, within, count)) (omega arith)
        ∙ ap (λ (r : Row). take r.size (slot L image bank (i + 1))) (row-is i within)

    each : (i : ℕ) → i < length rows - 1 → is_good image rows first whole i ≡ package_has_image m parts i
    each i within =
        let next : i + 1 < length rows = omega (arith, within) in
        let fit : (row_at whole i).size ≤ 4096 * (get_or rows (i + 1) no_row).slots = sizes_fit rows whole m.security whole-size (ap version_of (manifest-same ∙ h)) i no_row next in
        image-same (row_at whole i) (slot L image bank (i + 1)) (drop (4096 * place rows first (i + 1)) image) (4096 * (get_or rows (i + 1) no_row).slots)
        (slot-is (i + 1)) fit (slot-long (i + 1) next) ∙ ap (is_image_of (row_at whole i)) (sym (image-is i within))
        ∙ ap (λ (r : Row). is_image_of r (get_or parts (i + 1) [])) (sym (row-is i within))

    bads : lowest_bad (is_good image rows first whole) 0 (length rows - 1) ≡ lowest_bad (package_has_image m parts) 0 (length m.rows)
    bads =
        same_bad (is_good image rows first whole) (package_has_image m parts) 0 (length rows - 1) (λ i low high. each i (omega (arith, high)))
        ∙ ap (λ (n : ℕ). lowest_bad (package_has_image m parts) 0 n) (sym count)

    asked : take (manifest_size (length m.rows)) front ≡ whole
    asked = ap (λ (n : ℕ). take (manifest_size n) front) count ∙ whole-is

    of-package : by_version (passes whole) counter (lowest_bad (is_good image rows first whole) 0 (length rows - 1)) (Ok m.security) ≡ by_manifest passes counter L image bank (Ok m)
    of-package =
        ap (λ (bad : Option ℕ). by_version (passes whole) counter bad (Ok m.security)) bads
        ∙ ap (λ (b : List ℕ). by_version (passes b) counter (lowest_bad (package_has_image m parts) 0 (length m.rows)) (Ok m.security)) (sym asked)

  by-cases : (r : Result Manifest ManifestFault) → manifest_of rows front ≡ r
      → by_version (passes whole) counter (lowest_bad (is_good image rows first whole) 0 (length rows - 1)) (version_of r) ≡ by_manifest passes counter L image bank r
  by-cases (Err e) h = refl
  by-cases (Ok m) h = of-package m h

  -- what is found is the verdict
  pub found_is : found passes counter image rows first (front_of image rows first) ≡ verdict_on passes counter L image bank
  unfolding verdict_on
  found_is =
      ap (λ (r : Result Manifest ManifestFault). by_version (passes whole) counter (lowest_bad (is_good image rows first whole) 0 (length rows - 1)) (version_of r)) manifest-same
      ∙ by-cases (manifest_of rows front) refl

-- what was read there is the front
pub front_read : (image : List ℕ) (rows : List ImageRow) (first : ℕ) (out : List ℕ) (asked : ℕ) → out ≡ slice_range image (4096 * first) (4096 * first + asked)
    → asked ≡ manifest_size (length rows - 1) → out ≡ front_of image rows first
front_read image rows first out asked told size =
    let span : 4096 * first + asked - 4096 * first ≡ manifest_size (length rows - 1) = omega (arith, size) in
    told ∙ ap (λ (n : ℕ). take n (drop (4096 * first) image)) span

-- a layout's bank has a block
pub some_blocks : (L : Layout) → IsTrue (fits_layout L) → 1 ≤ slot_total L.rows
unfolding fits_layout
some_blocks L fits =
    let limit = limits L fits in
    let all = (and_parts _ (list_all is_row L.rows) (and_parts _ _ fits).0).1 in
    let some = first-slot L.rows no_row all (omega (arith, limit.fewest_images)) in
    let more = sum_by_more_le (λ r. r.slots) L.rows 0 no_row (omega (arith, limit.fewest_images)) in
    omega (arith, some, more)
