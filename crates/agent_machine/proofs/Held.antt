-- What a bank holds is the first bytes of its slots.
use Rattle.std.proofs.Common.{◌≡◌, ℕ, zero, suc, ◌+◌, ◌-◌, ◌<◌, ◌≤◌, ◌&&◌, ◌==◌, List, [], length, get_or, take, Some, Result, Ok, Err, sym, ap, ◌∙◌, subst, arith, IsTrue, eqb-true}
use Rattle.std.proofs.lemmas.Bool.{and_parts}
use Rattle.std.proofs.lemmas.Option.{cond_some}
use Rattle.std.proofs.lemmas.List.{length-take, take_min}
use Rattle.std.proofs.lemmas.List.FromFn.{length-map-range_with_len, get_or-map-range_with_len}
use Rattle.std.specs.Prelude.{is_ok}
use Rattle.base_core.specs.Bytes.{num_at, listed}
use Rattle.fwu_formats.specs.{declared.kinds.ManifestFault.ManifestFault, Layout.Layout}
use Rattle.fwu_formats.specs.Manifest.{Row, Manifest, manifest_of, manifest_size, manifest_part, row_at, is_complete}
use Rattle.fwu_formats.specs.Image.{slot, images_in, if_complete, package_by, package_in}
use Rattle.base_core.proofs.Results.{ok-is}
use Rattle.fwu_model.specs.Answer.{version_in}
use Rattle.fwu_formats.proofs.Read.{manifest-holds}

pub record IsInSlots (L : Layout) (image : List ℕ) (b : ℕ) (p : List (List ℕ)) : Type 0 where
  pub count : length p ≡ length L.rows
  -- each image is the first bytes of its slot
  pub images : (i : ℕ) → i < length p → get_or p i [] ≡ take (length (get_or p i [])) (slot L image b i)
  pub manifest : manifest_part p ≡ take (manifest_size (length L.rows - 1)) (slot L image b 0)
  pub versions : (j : ℕ) → j + 1 < length L.rows → version_in p (suc j) ≡ (row_at (manifest_part p) j).version

-- a front of the list is the front of its own length
front-of : (n : ℕ) (xs : List ℕ) → take n xs ≡ take (length (take n xs)) xs
front-of n xs = sym (take_min n xs) ∙ ap (λ (k : ℕ). take k xs) (sym (length-take n xs))

whole : (L : Layout) (q p : List (List ℕ)) → if_complete L.rows q ≡ Some p → (q ≡ p) × IsTrue (is_complete L.rows p)
whole L q p e =
    let both = cond_some (is_complete L.rows q) q p e in
    (both.1, ap (is_complete L.rows) (sym both.1) ∙ both.0)

held-by : (L : Layout) (image : List ℕ) (b : ℕ) (r : Result Manifest ManifestFault) (p : List (List ℕ)) → package_by L image b r ≡ Some p
    → (m : Manifest) × (images_in L image b m ≡ p) × IsTrue (is_complete L.rows p)
held-by L image b (Err e) p h = absurd cc
held-by L image b (Ok m) p h = let is = whole L (images_in L image b m) p h in (m, is.0, is.1)

read-in : (L : Layout) (image : List ℕ) (b : ℕ) (p : List (List ℕ)) → package_in L image b ≡ Some p
    → package_by L image b (manifest_of L.rows (slot L image b 0)) ≡ Some p
unfolding package_in
read-in L image b p h = h

module _ (L : Layout) (image : List ℕ) (b : ℕ) (p : List (List ℕ)) (some : 1 ≤ length L.rows) (held : package_in L image b ≡ Some p) where
  found : (m : Manifest) × (images_in L image b m ≡ p) × IsTrue (is_complete L.rows p)
  found = held-by L image b (manifest_of L.rows (slot L image b 0)) p (read-in L image b p held)

  abbrev m : Manifest
  m = found.0

  parts : (length p ≡ length L.rows) × (length (manifest_part p) ≡ manifest_size (length L.rows - 1)) × IsTrue (is_ok (manifest_of L.rows (manifest_part p)))
  unfolding is_complete
  parts =
      let a = and_parts ((length p == length L.rows) && is_ok (manifest_of L.rows (manifest_part p)) &&
      (length (manifest_part p) == manifest_size (length L.rows - 1))) _ found.2 in
      let a1 = and_parts ((length p == length L.rows) && is_ok (manifest_of L.rows (manifest_part p))) _ a.0 in
      let d = and_parts (length p == length L.rows) _ a1.0 in
      (eqb-true _ _ d.0, eqb-true _ _ a1.1, d.1)

  rows-said : num_at 4 (manifest_part p) 12 ≡ length L.rows - 1
  rows-said = let read = ok-is (manifest_of L.rows (manifest_part p)) parts.2 in (manifest-holds L.rows (manifest_part p) read.0 read.1).count

  abbrev no_row : Row
  no_row = record { guid = []; size = 0; version = 0; digest = [] }

  abbrev size : ℕ → ℕ
  size j = (get_or m.rows j (record { guid = []; size = 0; version = 0; digest = [] })).size

  abbrev other : ℕ → List ℕ
  other j = take (size j) (slot L image b (j + 1))

  at : (i : ℕ) → i < length (images_in L image b m) → get_or (images_in L image b m) i [] ≡ take (length (get_or (images_in L image b m) i []))
      (slot L image b i)
  at zero lt = front-of (manifest_size (length m.rows)) (slot L image b 0)
  at (suc j) lt =
      let count : j < length m.rows = omega (arith, lt, length-map-range_with_len other 0 (length m.rows)) in
      let is : get_or (listed (length m.rows) other) j [] ≡ other j = get_or-map-range_with_len other 0 (length m.rows) j j [] count (omega arith) in
      let one : j + 1 ≡ suc j = omega arith in
      is ∙ front-of (size j) (slot L image b (j + 1)) ∙ ap (λ (l : List ℕ). take (length l) (slot L image b (j + 1))) (sym is)
      ∙ ap (λ (n : ℕ). take (length (get_or (listed (length m.rows) other) j [])) (slot L image b n)) one

  pub held-in-slots : IsInSlots L image b p
  held-in-slots = record {
    count = parts.0;
    images = λ i lt. subst (λ (q : List (List ℕ)). i < length q → get_or q i [] ≡ take (length (get_or q i [])) (slot L image b i)) found.1 (at i) lt;
    manifest =
        subst (λ (q : List (List ℕ)). 0 < length q → get_or q 0 [] ≡ take (length (get_or q 0 [])) (slot L image b 0)) found.1 (at 0)
        (omega (arith, parts.0, some))
        ∙ ap (λ (n : ℕ). take n (slot L image b 0)) parts.1;
    versions = λ j lt. ap (λ (r : Row). r.version) (get_or-map-range_with_len (row_at (manifest_part p)) 0 (num_at 4 (manifest_part p) 12) j j no_row
        (omega (arith, rows-said, lt)) (omega arith));
  }
