-- A bank whose slots begin with the images of a complete package holds the package.
use Rattle.std.proofs.Common.{◌≡◌, cond, ℕ, zero, suc, ◌+◌, ◌-◌, ◌*◌, ◌<◌, ◌≤◌, Bool, ◌&&◌, ◌==◌, List, [], ◌∷◌, length, get_or, take, drop, Some, None, Ok, refl, sym, ap, ◌∙◌, arith, IsTrue, ext_get_or, eqb-true, ltb, length-take, length-drop, get_or-drop}
use Rattle.std.proofs.lemmas.Bool.{and_parts, le-ltb}
use Rattle.std.proofs.lemmas.List.{take-take, drop-take}
use Rattle.std.proofs.lemmas.List.FromFn.{length-map-range_with_len, get_or-map-range_with_len}
use Rattle.std.specs.Prelude.{is_ok}
use Rattle.base_core.specs.Bytes.{num, num_at, listed}
use Rattle.fwu_formats.specs.Layout.{ImageRow, Layout}
use Rattle.fwu_formats.specs.Manifest.{Row, Manifest, manifest_of, manifest_at, manifest_size, manifest_part, all_paired, is_image_of, is_complete}
use Rattle.fwu_formats.specs.Image.{slot, images_in, if_complete, package_by, package_in}
use Rattle.fwu_formats.proofs.Read.{manifest-holds}
use Rattle.base_core.proofs.Results.{ok-is}

-- ---- a manifest is read from its own bytes alone

num-front : (xs : List ℕ) (n k : ℕ) → k + 4 ≤ n → num_at 4 (take n xs) k ≡ num_at 4 xs k
num-front xs n k le =
    let split : n ≡ k + (n - k) = omega (arith, le) in
    ap (λ (j : ℕ). num (take 4 (drop k (take j xs)))) split ∙ ap (λ (l : List ℕ). num (take 4 l)) (drop-take k (n - k) xs) ∙ ap num (take-take 4 (n - k) (drop k xs) (omega (arith, le)))

manifest-front : (rows : List ImageRow) (xs : List ℕ) (n : ℕ) → n ≡ manifest_size (length rows - 1) → n ≤ length xs → manifest_of rows (take n xs) ≡ manifest_of rows xs
unfolding manifest_of
manifest-front rows xs n is le =
    let count = length rows - 1 in
    let cut : take (manifest_size count) (take n xs) ≡ take (manifest_size count) xs = take-take (manifest_size count) n xs (omega (arith, is)) in
    let front : take (16 + 56 * count) (take n xs) ≡ take (16 + 56 * count) xs = take-take (16 + 56 * count) n xs (omega (arith, is)) in
    let size : length (take n xs) ≡ n = omega (arith, length-take n xs, le) in
    let first : ltb (length (take n xs)) (manifest_size count) ≡ ltb (length xs) (manifest_size count) = long (length (take n xs)) (length xs) (manifest_size count) (omega (arith, size, is)) (omega (arith, le, is)) in
    rw (first, cut, front, num-front xs n 0 (omega (arith, is)), num-front xs n 4 (omega (arith, is)), num-front xs n 8 (omega (arith, is)), num-front xs n 12 (omega (arith, is))) refl
  where
    long : (a b c : ℕ) → c ≤ a → c ≤ b → ltb a c ≡ ltb b c
    long a b c p q = le-ltb a c p ∙ sym (le-ltb b c q)

paired-at : (rows : List Row) (images : List (List ℕ)) (d : Row) (j : ℕ) → IsTrue (all_paired is_image_of rows images) → j < length rows → j < length images → length (get_or images j []) ≡ (get_or rows j d).size
paired-at [] images d j all lt other = absurd (omega (arith, lt))
paired-at (r ∷ rows) [] d j all lt other = absurd (omega (arith, other))
paired-at (r ∷ rows) (x ∷ xs) d zero all lt other = eqb-true _ _ (and_parts (length x == r.size) _ (and_parts (is_image_of r x) _ all).0).0
paired-at (r ∷ rows) (x ∷ xs) d (suc j) all lt other = paired-at rows xs d j (and_parts (is_image_of r x) _ all).1 (omega (arith, lt)) (omega (arith, other))

-- ---- the package

module _ (L : Layout) (image : List ℕ) (b : ℕ) (p : List (List ℕ)) (images : 1 ≤ length L.rows) (complete : IsTrue (is_complete L.rows p))
    (holds : (i : ℕ) → i < length p → take (length (get_or p i [])) (slot L image b i) ≡ get_or p i []) where
  abbrev bytes : List ℕ
  bytes = manifest_part p

  abbrev first : List ℕ
  first = slot L image b 0

  abbrev said : Manifest
  said = manifest_at bytes

  parts : (length p ≡ length L.rows) × IsTrue (is_ok (manifest_of L.rows bytes)) × (length bytes ≡ manifest_size (length L.rows - 1)) × IsTrue (all_paired is_image_of said.rows (drop 1 p))
  unfolding is_complete
  parts =
      let a = and_parts ((length p == length L.rows) && is_ok (manifest_of L.rows bytes) && (length bytes == manifest_size (length L.rows - 1))) _ complete in
      let b = and_parts ((length p == length L.rows) && is_ok (manifest_of L.rows bytes)) _ a.0 in
      let c = and_parts (length p == length L.rows) _ b.0 in
      (eqb-true _ _ c.0, c.1, eqb-true _ _ b.1, a.1)

  begins : take (length bytes) first ≡ bytes
  begins = holds 0 (omega (arith, parts.0, images))

  long : length bytes ≤ length first
  long = omega (arith, length-take (length bytes) first, ap length begins)

  reads : manifest_of L.rows first ≡ Ok said
  reads =
      let found = ok-is (manifest_of L.rows bytes) parts.1 in
      let at_first : manifest_of L.rows first ≡ Ok found.0 = sym (manifest-front L.rows first (length bytes) parts.2 long) ∙ ap (manifest_of L.rows) begins ∙ found.1 in
      let says = manifest-holds L.rows first found.0 at_first in
      at_first ∙ ap Ok (sym says.is ∙ ap (λ (n : ℕ). manifest_at (take n first)) (sym parts.2) ∙ ap manifest_at begins)

  rows-count : length said.rows ≡ length L.rows - 1
  rows-count =
      let says = manifest-holds L.rows first said reads in
      length-map-range_with_len _ 0 (num_at 4 bytes 12) ∙ ap (λ (l : List ℕ). num_at 4 l 12) (sym begins) ∙ num-front first (length bytes) 12 (omega (arith, parts.2)) ∙ says.count

  abbrev no_row : Row
  no_row = record { guid = []; size = 0; version = 0; digest = [] }

  abbrev other : ℕ → List ℕ
  other j = take (get_or said.rows j no_row).size (slot L image b (j + 1))

  others : (j : ℕ) → j < length said.rows → other j ≡ get_or p (j + 1) []
  others j lt =
      let there : get_or (drop 1 p) j [] ≡ get_or p (j + 1) [] = get_or-drop 1 p j [] ∙ ap (λ (n : ℕ). get_or p n []) (omega arith) in
      let size = paired-at said.rows (drop 1 p) no_row j parts.3 lt (omega (arith, lt, rows-count, parts.0, length-drop 1 p)) in
      ap (λ (n : ℕ). take n (slot L image b (j + 1))) (sym size ∙ ap length there) ∙ holds (j + 1) (omega (arith, lt, rows-count, parts.0))

  all-images : images_in L image b said ≡ p
  all-images =
      let n = length said.rows in
      let rest = listed n other in
      let rest-length = length-map-range_with_len other 0 n in
      let front : take (manifest_size n) first ≡ bytes = ap (λ (k : ℕ). take k first) (ap manifest_size rows-count ∙ sym parts.2) ∙ begins in
      ext_get_or [] (take (manifest_size n) first ∷ rest) p (omega (arith, rest-length, rows-count, parts.0, images)) (λ i below. at i below)
    where
      at : (i : ℕ) → i < length (take (manifest_size (length said.rows)) first ∷ listed (length said.rows) other) → get_or (take (manifest_size (length said.rows)) first ∷ listed (length said.rows) other) i [] ≡ get_or p i []
      at zero below = ap (λ (k : ℕ). take k first) (ap manifest_size rows-count ∙ sym parts.2) ∙ begins
      at (suc j) below =
          let lt : j < length said.rows = omega (arith, below, length-map-range_with_len other 0 (length said.rows)) in
          let one : j + 1 ≡ suc j = omega arith in
          get_or-map-range_with_len other 0 (length said.rows) j j [] lt (omega arith) ∙ others j lt ∙ ap (λ (n : ℕ). get_or p n []) one

  pub package-held : package_in L image b ≡ Some p
  unfolding package_in
  package-held =
      ap (package_by L image b) reads ∙ ap (if_complete L.rows) all-images ∙ ap (λ (v : Bool). cond v (Some p) None) complete
