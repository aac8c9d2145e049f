-- Each image of a complete package is within its slot.
use Rattle.std.proofs.Common.{◌≡◌, ℕ, zero, suc, ◌-◌, ◌*◌, ◌<◌, ◌≤◌, ◌&&◌, ◌==◌, List, [], ◌∷◌, length, take, drop, get_or, refl, sym, ap, subst, ◌∙◌, arith, IsTrue, leb, leb-true, eqb-true}
use Rattle.std.specs.Prelude.{is_ok}
use Rattle.std.specs.List.{list_all}
use Rattle.std.proofs.lemmas.Bool.{and_parts}
use Rattle.std.proofs.lemmas.List.{length-drop}
use Rattle.std.proofs.lemmas.List.FromFn.{length-map-range_with_len}
use Rattle.std.proofs.Math.Seq.{take-length}
use Rattle.base_core.specs.Bytes.{num_at}
use Rattle.fwu_formats.specs.Layout.{ImageRow, Layout, slot_bytes, is_row, fits_layout}
use Rattle.fwu_formats.specs.Manifest.{Row, is_complete, manifest_of, manifest_at, manifest_part, manifest_size, row_at, is_image_of, all_paired}
use Rattle.base_core.proofs.Results.{ok-is}
use Rattle.fwu_formats.proofs.{Read.manifest-holds, SealLaws.limits, Written.rows-fit}
use Rattle.fwu_model.proofs.Matches.{no_row}

sized-at : (rows : List Row) (images : List (List ℕ)) (d : Row) (j : ℕ) → IsTrue (all_paired is_image_of rows images) → j < length rows
    → j < length images → length (get_or images j []) ≡ (get_or rows j d).size
sized-at [] images d j all lt other = absurd (omega (arith, lt))
sized-at (r ∷ rows) [] d j all lt other = absurd (omega (arith, other))
sized-at (r ∷ rows) (x ∷ xs) d zero all lt other = eqb-true _ _ (and_parts (length x == r.size) _ (and_parts (is_image_of r x) _ all).0).0
sized-at (r ∷ rows) (x ∷ xs) d (suc j) all lt other = sized-at rows xs d j (and_parts (is_image_of r x) _ all).1 (omega (arith, lt)) (omega (arith, other))

small-at : (images : List ImageRow) (rows : List Row) (d : Row) (j : ℕ) → IsTrue (all_paired (λ i r. leb r.size (4096 * i.slots)) images rows)
    → j < length images → j < length rows → (get_or rows j d).size ≤ 4096 * (get_or images j no_row).slots
small-at [] rows d j all lt other = absurd (omega (arith, lt))
small-at (i ∷ images) [] d j all lt other = absurd (omega (arith, other))
small-at (i ∷ images) (r ∷ rows) d zero all lt other = leb-true r.size (4096 * i.slots) (and_parts (leb r.size (4096 * i.slots)) _ all).0
small-at (i ∷ images) (r ∷ rows) d (suc j) all lt other = small-at images rows d j (and_parts (leb r.size (4096 * i.slots)) _ all).1 (omega (arith, lt)) (omega (arith, other))

one-slot : (rows : List ImageRow) (i : ℕ) → IsTrue (list_all is_row rows) → i < length rows → 1 ≤ (get_or rows i no_row).slots
one-slot [] i h lt = absurd (omega (arith, lt))
one-slot (r ∷ rows) zero h lt =
    leb-true 1 r.slots (and_parts _ (leb 1 r.slots) (and_parts _ (leb r.slots 256) (and_parts (is_row r) _ h).0).0).1
one-slot (r ∷ rows) (suc i) h lt = one-slot rows i (and_parts (is_row r) _ h).1 (omega (arith, lt))

rest-at : {X : Type 0} (l : List X) (d : X) (j : ℕ) → get_or (drop 1 l) j d ≡ get_or l (suc j) d
rest-at [] d j = refl
rest-at (x ∷ l) d j = refl

abbrev no_said : Row
no_said = record { guid = []; size = 0; version = 0; digest = [] }

module _ (L : Layout) (p : List (List ℕ)) (fits : IsTrue (fits_layout L)) (complete : IsTrue (is_complete L.rows p)) where
  abbrev said : List Row
  said = (manifest_at (manifest_part p)).rows

  parts : (length p ≡ length L.rows) × IsTrue (is_ok (manifest_of L.rows (manifest_part p)))
      × (length (manifest_part p) ≡ manifest_size (length L.rows - 1)) × IsTrue (all_paired is_image_of said (drop 1 p))
  unfolding is_complete
  parts =
      let bytes = manifest_part p in
      let a = and_parts ((length p == length L.rows) && is_ok (manifest_of L.rows bytes) && (length bytes == manifest_size (length L.rows - 1))) _ complete in
      let b = and_parts ((length p == length L.rows) && is_ok (manifest_of L.rows bytes)) _ a.0 in
      let c = and_parts (length p == length L.rows) _ b.0 in
      (eqb-true _ _ c.0, c.1, eqb-true _ _ b.1, a.1)

  says : (length said ≡ length L.rows - 1) × IsTrue (all_paired (λ i r. leb r.size (4096 * i.slots)) (drop 1 L.rows) said)
  says =
      let bytes = manifest_part p in
      let found = ok-is (manifest_of L.rows bytes) parts.1 in
      let it = manifest-holds L.rows bytes found.0 found.1 in
      let whole : take (manifest_size (length L.rows - 1)) bytes ≡ bytes = ap (λ (n : ℕ). take n bytes) (sym parts.2) ∙ take-length bytes in (
        length-map-range_with_len (row_at bytes) 0 (num_at 4 bytes 12) ∙ it.count,
        subst (λ (xs : List ℕ). IsTrue (all_paired (λ i r. leb r.size (4096 * i.slots)) (drop 1 L.rows) (manifest_at xs).rows)) whole it.sizes,
      )

  -- each image of a complete package is within its slot
  pub image-fits : (i : ℕ) → i < length L.rows → length (get_or p i []) ≤ slot_bytes L i
  image-fits zero lt =
      let few = limits L fits in
      let one = one-slot L.rows 0 (rows-fit L fits) lt in
      omega (arith, parts.2, few.most_images, one)
  image-fits (suc j) lt =
      let count = length-drop 1 p in
      let rows = length-drop 1 L.rows in
      let below : j < length said = omega (arith, lt, says.0) in
      let size = sized-at said (drop 1 p) no_said j parts.3 below (omega (arith, count, lt, parts.0)) in
      let small = small-at (drop 1 L.rows) said no_said j says.1 (omega (arith, rows, lt)) below in
      let image : length (get_or (drop 1 p) j []) ≡ length (get_or p (suc j) []) = ap (λ (l : List ℕ). length l) (rest-at p [] j) in
      let slots : (get_or (drop 1 L.rows) j no_row).slots ≡ (get_or L.rows (suc j) no_row).slots = ap (λ (r : ImageRow). r.slots) (rest-at L.rows no_row j) in
      omega (arith, size, small, image, slots)
