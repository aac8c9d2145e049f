-- What a manifest has that passed each test.
use Rattle.std.proofs.Common.{◌≡◌, ℕ, zero, suc, ◌+◌, ◌-◌, ◌*◌, ◌≤◌, ◌<◌, Bool, List, [], ◌∷◌, length, get_or, map, take, drop, Result, Ok, Err, refl, sym, ap, ◌∙◌, subst, arith, leb-true}
use Rattle.std.proofs.lemmas.Bool.{and_parts}
use Rattle.std.proofs.lemmas.List.{get_or-drop, length-map, length-drop}
use Rattle.std.specs.Prelude.{IsTrue}
use Rattle.std.specs.List.{range_with_len}
use Rattle.base_core.specs.Bytes.{num_at, listed}
use Rattle.fwu_formats.specs.{Layout.ImageRow, declared.kinds.ManifestFault.ManifestFault}
use Rattle.fwu_formats.specs.Manifest.{Row, Manifest, manifest_of, manifest_size, row_at, all_paired}
use Rattle.manifest_core.specs.{Shown.version_of, Shown.fits_slot, Shown.row, declared.rows.Row.Row as SpecRow}
use Rattle.std.proofs.lemmas.List.FromFn.{length-map-range_with_len}
use Rattle.fwu_formats.proofs.{Spell.num_front, Read.ManifestHolds, Read.manifest-holds}
use Rattle.base_core.proofs.Results.{same-Ok}

-- a test of two lists side by side holds at each place
paired_at : {X Y : Type 0} (test : X → Y → Bool) (f : ℕ → Y) (xs : List X) (from n k : ℕ) (d : X) → IsTrue (all_paired test xs (map f (range_with_len from n)))
    → k < length xs → k < n → IsTrue (test (get_or xs k d) (f (from + k)))
paired_at test f [] from n k d h short less = absurd (omega (arith, short))
paired_at test f (x ∷ xs) from zero k d h short less = absurd (omega (arith, less))
paired_at test f (x ∷ xs) from (suc n) zero d h short less =
    let P : ℕ → Type 0 = λ i. IsTrue (test x (f i)) in
    let at : from ≡ from + 0 = omega arith in
    subst P at (and_parts (test x (f from)) _ h).0
paired_at test f (x ∷ xs) from (suc n) (suc k) d h short less =
    let P : ℕ → Type 0 = λ i. IsTrue (test (get_or xs k d) (f i)) in
    let at : from + 1 + k ≡ from + suc k = omega arith in
    subst P at (paired_at test f xs (from + 1) n k d (and_parts (test x (f from)) _ h).1 (omega (arith, short)) (omega (arith, less)))

pub manifest_passed : (images : List ImageRow) (bytes : List ℕ) (m : Manifest) → manifest_of images bytes ≡ Ok m
    → ManifestHolds images bytes m
manifest_passed images bytes m e = manifest-holds images bytes m e

-- what the rows say fits the slots
pub sizes_fit : (rows : List ImageRow) (whole : List ℕ) (v : ℕ) → length whole ≡ manifest_size (length rows - 1)
    → version_of (manifest_of rows whole) ≡ Ok v
    → (k : ℕ) (d : ImageRow) → k + 1 < length rows → num_at 4 whole (32 + 56 * k) ≤ 4096 * (get_or rows (k + 1) d).slots
sizes_fit rows whole v size e k d within = by-cases (manifest_of rows whole) refl e
  where
    by-cases : (r : Result Manifest ManifestFault) → manifest_of rows whole ≡ r → version_of r ≡ Ok v
        → num_at 4 whole (32 + 56 * k) ≤ 4096 * (get_or rows (k + 1) d).slots
    by-cases (Err f) h e = absurd cc
    by-cases (Ok m) h e =
        let holds = manifest-holds rows whole m h in
        let front = take (manifest_size (length rows - 1)) whole in
        let count : num_at 4 whole 12 ≡ length rows - 1 = holds.count in
        let same : num_at 4 front 12 ≡ num_at 4 whole 12 = num_front 4 12 _ whole (omega arith) in
        let rest = drop 1 rows in
        let rest-long = length-drop 1 rows in
        let here = leb-true _ _ (paired_at fits_slot (row_at front) rest 0 (num_at 4 front 12) k d holds.sizes (omega arith) (omega arith)) in
        let row : get_or rest k d ≡ get_or rows (k + 1) d = get_or-drop 1 rows k d ∙ ap (λ (i : ℕ). get_or rows i d) (omega arith) in
        let slots : (get_or rest k d).slots ≡ (get_or rows (k + 1) d).slots = ap (λ (r : ImageRow). r.slots) row in
        let field : num_at 4 front (32 + 56 * (0 + k)) ≡ num_at 4 whole (32 + 56 * k) =
        ap (λ (i : ℕ). num_at 4 front (32 + 56 * i)) (omega arith) ∙ num_front 4 (32 + 56 * k) _ whole (omega arith) in
        omega (arith, here, slots, field)

-- ---- what is read of a manifest is the manifest

pub fault_is : (r : Result Manifest ManifestFault) (f : ManifestFault) → Err f ≡ version_of r → r ≡ Err f
fault_is (Ok m) f e = absurd cc
fault_is (Err g) f e = let same : f ≡ g = cc in ap Err (sym same)

pub read_is : (rows : List ImageRow) (bytes : List ℕ) (v : ℕ) (list : List Row) → Ok v ≡ version_of (manifest_of rows bytes)
    → list ≡ listed (length rows - 1) (row_at (take (manifest_size (length rows - 1)) bytes))
    → manifest_of rows bytes ≡ Ok (record { security = v; rows = list })
read_is rows bytes v list says are = by-cases (manifest_of rows bytes) refl says
  where
    by-cases : (r : Result Manifest ManifestFault) → manifest_of rows bytes ≡ r → Ok v ≡ version_of r → manifest_of rows bytes ≡ Ok (record { security = v; rows = list })
    by-cases (Err f) h e = absurd cc
    by-cases (Ok m) h e =
        let passed = manifest_passed rows bytes m h in
        let n = length rows - 1 in
        let front = take (manifest_size n) bytes in
        let count : num_at 4 front 12 ≡ n = num_front 4 12 (manifest_size n) bytes (omega arith) ∙ passed.count in
        let rows_are : list ≡ m.rows = are ∙ ap (λ (k : ℕ). listed k (row_at front)) (sym count) ∙ ap (λ (k : Manifest). k.rows) passed.is in
        let same : v ≡ m.security = same-Ok {F = ManifestFault} v m.security e in
        h ∙ rw (rows_are, same) refl

-- there are as many rows as were read
pub count_is : (rows : List SpecRow) (n : ℕ) (f : ℕ → Row) → map row rows ≡ listed n f → length rows ≡ n
count_is rows n f are = sym (length-map rows row) ∙ ap length are ∙ length-map-range_with_len f 0 n
