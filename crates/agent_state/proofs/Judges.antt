-- Lists by number, and the tests of what is installed.
use Rattle.std.proofs.Common.{◌≡◌, inl, inr, ℕ, zero, suc, ◌+◌, ◌-◌, ◌<◌, ◌≤◌, Bool, true, false, ◌&&◌, ◌==◌, leb, List, length, drop, take, map, Ok, Err, refl, sym, ap, ap₂, ◌∙◌, arith}
use Rattle.std.proofs.lemmas.Bool.{cases_lt}
use Rattle.std.proofs.lemmas.List.{take-take}
use Rattle.std.specs.List.{list_all, range_with_len}
use Rattle.std.specs.Prelude.{is_ok, Result}
use Rattle.base_core.specs.Bytes.{num_at, listed}
use Rattle.fwu_formats.specs.Manifest.{Row, Manifest, row_at, manifest_of, manifest_size, all_paired}
use Rattle.fwu_formats.specs.declared.kinds.ManifestFault.{ManifestFault}
use Rattle.manifest_core.specs.Shown.{version_of}
use Rattle.manifest_core.proofs.Passed.{fault_is, manifest_passed}
use Rattle.agent_kept.specs.{declared.parts.Part.Part, Kept.Kept, Kept.part_at, Kept.size_of}
use Rattle.agent_kept.specs.Judged.{is_installable, is_part_committed, is_part_of, manifest_kept, are_rows_kept, parts_of}

false-right : (b : Bool) → (b && false) ≡ false
false-right true = refl
false-right false = refl

all-range : {X : Type 0} (p : X → Bool) (f : ℕ → X) (a n : ℕ) → ((i : ℕ) → a ≤ i → i < a + n → p (f i) ≡ true) → list_all p (map f (range_with_len a n)) ≡ true
all-range p f a zero each = refl
all-range p f a (suc n) each = ap₂ (λ (x y : Bool). x && y) (each a (omega arith) (omega arith)) (all-range p f (a + 1) n (λ i low high. each i (omega (arith, low)) (omega (arith, high))))

one-range : {X : Type 0} (p : X → Bool) (f : ℕ → X) (a n i : ℕ) → a ≤ i → i < a + n → p (f i) ≡ false → list_all p (map f (range_with_len a n)) ≡ false
one-range p f a zero i low high bad = absurd (omega (arith, low, high))
one-range p f a (suc n) i low high bad =
    elim (cases_lt a i) [
      | inl more ↦ ap (λ (y : Bool). p (f a) && y) (one-range p f (a + 1) n i (omega (arith, more)) (omega (arith, high)) bad) ∙ false-right (p (f a))
      | inr same ↦ let e : a ≡ i = omega (arith, same, low) in ap (λ (x : Bool). x && list_all p (map f (range_with_len (a + 1) n))) (ap (λ (j : ℕ). p (f j)) e ∙ bad)
    ]

all-pairs : (t : Row → Part → Bool) (h : ℕ → Row) (q : ℕ → Part) (a n : ℕ) → ((i : ℕ) → a ≤ i → i < a + n → t (h i) (q (i + 1)) ≡ true) → all_paired t (map h (range_with_len a n)) (map q (range_with_len (a + 1) n)) ≡ true
all-pairs t h q a zero each = refl
all-pairs t h q a (suc n) each = ap₂ (λ (x y : Bool). x && y) (each a (omega arith) (omega arith)) (all-pairs t h q (a + 1) n (λ i low high. each i (omega (arith, low)) (omega (arith, high))))

one-pair : (t : Row → Part → Bool) (h : ℕ → Row) (q : ℕ → Part) (a n i : ℕ) → a ≤ i → i < a + n → t (h i) (q (i + 1)) ≡ false → all_paired t (map h (range_with_len a n)) (map q (range_with_len (a + 1) n)) ≡ false
one-pair t h q a zero i low high bad = absurd (omega (arith, low, high))
one-pair t h q a (suc n) i low high bad =
    elim (cases_lt a i) [
      | inl more ↦ ap (λ (y : Bool). t (h a) (q (a + 1)) && y) (one-pair t h q (a + 1) n i (omega (arith, more)) (omega (arith, high)) bad) ∙ false-right (t (h a) (q (a + 1)))
      | inr same ↦ let e : a ≡ i = omega (arith, same, low) in ap (λ (x : Bool). x && all_paired t (map h (range_with_len (a + 1) n)) (map q (range_with_len (a + 1 + 1) n))) (ap (λ (j : ℕ). t (h j) (q (j + 1))) e ∙ bad)
    ]

dropped : (h : ℕ → Part) (n : ℕ) → 1 ≤ n → drop 1 (listed n h) ≡ map h (range_with_len 1 (n - 1))
dropped h zero some = absurd (omega (arith, some))
dropped h (suc n) some = ap (λ (j : ℕ). map h (range_with_len 1 j)) (omega arith)

pub all-committed : (k : Kept) → ((i : ℕ) → i < length k.rows → is_part_committed (part_at k i) ≡ true) → list_all is_part_committed (parts_of k) ≡ true
all-committed k each = all-range is_part_committed (part_at k) 0 (length k.rows) (λ i low high. each i (omega (arith, high)))

pub one-open : (k : Kept) (i : ℕ) → i < length k.rows → is_part_committed (part_at k i) ≡ false → list_all is_part_committed (parts_of k) ≡ false
one-open k i lt bad = one-range is_part_committed (part_at k) 0 (length k.rows) i (omega arith) (omega (arith, lt)) bad

rows-is : (k : Kept) (m : List ℕ) → 1 ≤ length k.rows → num_at 4 m 12 ≡ length k.rows - 1 → are_rows_kept k m ≡ all_paired is_part_of (map (row_at m) (range_with_len 0 (length k.rows - 1))) (map (part_at k) (range_with_len (0 + 1) (length k.rows - 1)))
rows-is k m some count = ap₂ (λ (n : ℕ) (ps : List Part). all_paired is_part_of (listed n (row_at m)) ps) count (dropped (part_at k) (length k.rows) some)

pub all-rows : (k : Kept) (m : List ℕ) → 1 ≤ length k.rows → num_at 4 m 12 ≡ length k.rows - 1 → ((j : ℕ) → j + 1 < length k.rows → is_part_of (row_at m j) (part_at k (j + 1)) ≡ true) → true ≡ are_rows_kept k m
all-rows k m some count each = sym (rows-is k m some count ∙ all-pairs is_part_of (row_at m) (part_at k) 0 (length k.rows - 1) (λ i low high. each i (omega (arith, high, some))))

pub one-row : (k : Kept) (m : List ℕ) (i : ℕ) → 1 ≤ length k.rows → num_at 4 m 12 ≡ length k.rows - 1 → 1 ≤ i → i < length k.rows → is_part_of (row_at m (i - 1)) (part_at k i) ≡ false → false ≡ are_rows_kept k m
one-row k m i some count low high bad =
    let e : i ≡ (i - 1) + 1 = omega (arith, low) in
    sym (rows-is k m some count ∙ one-pair is_part_of (row_at m) (part_at k) 0 (length k.rows - 1) (i - 1) (omega arith) (omega (arith, low, high)) (ap (λ (j : ℕ). is_part_of (row_at m (i - 1)) (part_at k j)) (sym e) ∙ bad))

-- ---- the tests together

module _ (passes : List ℕ → Bool) (counter : ℕ) (k : Kept) where
  abbrev m : List ℕ
  m = manifest_kept k

  abbrev all : Bool
  all = list_all is_part_committed (parts_of k)

  abbrev sized : Bool
  sized = size_of (part_at k 0) == manifest_size (length k.rows - 1)

  abbrev reads : Bool
  reads = is_ok (manifest_of k.rows m)

  pub none-installed : all ≡ false → false ≡ is_installable passes counter k
  unfolding is_installable
  none-installed e = sym (ap (λ (a : Bool). ((((a && sized) && reads) && are_rows_kept k m) && leb counter (num_at 4 m 8)) && passes m) e)

  pub not-sized : all ≡ true → sized ≡ false → false ≡ is_installable passes counter k
  unfolding is_installable
  not-sized a z = sym (ap₂ (λ (a b : Bool). ((((a && b) && reads) && are_rows_kept k m) && leb counter (num_at 4 m 8)) && passes m) a z)

  not-read : all ≡ true → sized ≡ true → reads ≡ false → false ≡ is_installable passes counter k
  unfolding is_installable
  not-read a z o =
      sym (ap₂ (λ (a b : Bool). ((((a && b) && reads) && are_rows_kept k m) && leb counter (num_at 4 m 8)) && passes m) a z
      ∙ ap (λ (o : Bool). (((true && o) && are_rows_kept k m) && leb counter (num_at 4 m 8)) && passes m) o)

  three : (r v p : Bool) → (r && (v && p)) ≡ ((r && v) && p)
  three true v p = refl
  three false v p = refl

  tested : all ≡ true → sized ≡ true → reads ≡ true → (are_rows_kept k m && (leb counter (num_at 4 m 8) && passes m)) ≡ is_installable passes counter k
  unfolding is_installable
  tested a z o =
      three (are_rows_kept k m) (leb counter (num_at 4 m 8)) (passes m)
      ∙ sym (ap₂ (λ (a b : Bool). ((((a && b) && reads) && are_rows_kept k m) && leb counter (num_at 4 m 8)) && passes m) a z
      ∙ ap (λ (o : Bool). (((true && o) && are_rows_kept k m) && leb counter (num_at 4 m 8)) && passes m) o)

  pub faulty : (f : ManifestFault) → all ≡ true → sized ≡ true → Err f ≡ version_of (manifest_of k.rows m) → false ≡ is_installable passes counter k
  faulty f a z e = not-read a z (ap is_ok (fault_is (manifest_of k.rows m) f e))

  pub counted : (v : ℕ) → Ok v ≡ version_of (manifest_of k.rows m) → num_at 4 m 12 ≡ length k.rows - 1
  counted v e = by (manifest_of k.rows m) refl e
    where
      by : (r : Result Manifest ManifestFault) → manifest_of k.rows m ≡ r → Ok v ≡ version_of r → num_at 4 m 12 ≡ length k.rows - 1
      by (Err f) h e = absurd cc
      by (Ok x) h e = (manifest_passed k.rows m x h).count

  pub installed : (v : ℕ) (rows ok : Bool) → all ≡ true → sized ≡ true → Ok v ≡ version_of (manifest_of k.rows m) → take (manifest_size (length k.rows - 1)) m ≡ m → rows ≡ are_rows_kept k m → ok ≡ passes m
      → (rows && (leb counter v && ok)) ≡ is_installable passes counter k
  installed v rows ok a z e whole r p =
      ap₂ (λ (x y : Bool). x && (leb counter v && y)) r p ∙ ap (λ (n : ℕ). are_rows_kept k m && (leb counter n && passes m)) (by (manifest_of k.rows m) refl e).0 ∙ tested a z (by (manifest_of k.rows m) refl e).1
    where
      by : (r : Result Manifest ManifestFault) → manifest_of k.rows m ≡ r → Ok v ≡ version_of r → (v ≡ num_at 4 m 8) × (reads ≡ true)
      by (Err f) h e = absurd cc
      by (Ok x) h e =
          let same : v ≡ x.security = cc in
          (same ∙ ap (λ (y : Manifest). y.security) (sym (manifest_passed k.rows m x h).is) ∙ ap (λ (l : List ℕ). num_at 4 l 8) whole, ap is_ok h)

pub front-whole : (k : Kept) → take (manifest_size (length k.rows - 1)) (manifest_kept k) ≡ manifest_kept k
front-whole k = take-take (manifest_size (length k.rows - 1)) (manifest_size (length k.rows - 1)) k.front (omega arith)
