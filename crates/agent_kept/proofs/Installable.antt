-- What is kept of committed images decides whether they are a complete package that may be installed.
use Rattle.std.proofs.Common.{◌≡◌, inl, inr, ℕ, zero, suc, ◌+◌, ◌-◌, ◌<◌, ◌≤◌, min, Bool, true, false, ◌&&◌, ◌==◌, List, [], ◌∷◌, length, get_or, take, drop, map, refl, sym, ap, ap₂, ◌∙◌, arith, leb, eqb-true, eq-eqb}
use Rattle.std.proofs.lemmas.Bool.{and_parts, cases_lt}
use Rattle.std.proofs.lemmas.List.{take_all}
use Rattle.std.proofs.lemmas.List.Folds.{list_all-map}
use Rattle.std.proofs.lemmas.List.FromFn.{length-map-range_with_len, get_or-map-range_with_len}
use Rattle.std.specs.List.{list_all, range_with_len}
use Rattle.std.specs.Prelude.{is_ok}
use Rattle.base_core.specs.Bytes.{num_at, same_bytes, listed}
use Rattle.sha2.specs.Sha256.{sha256}
use Rattle.fwu_formats.specs.Layout.{ImageRow}
use Rattle.fwu_formats.specs.Manifest.{Row, manifest_of, manifest_at, manifest_size, manifest_part, version, all_paired, is_image_of, is_complete}
use Rattle.fwu_model.specs.{State.State, Sound.Setting, Session.is_committed}
use Rattle.fwu_model.specs.Answer.{staged_bytes, staged_package, may_end}
use Rattle.agent_kept.specs.declared.parts.Part.{Part}
use Rattle.agent_kept.specs.declared.parts.Part.TheVariants.{Nothing, Committed}
use Rattle.agent_kept.specs.Kept.{Kept, IsKept, part_at, part_meant, parts_meant, size_of}
use Rattle.agent_kept.specs.Judged.{is_installable, is_part_committed, is_part_of, manifest_kept, are_rows_kept, parts_of}

-- ---- tests in another order

dead : (o p r : Bool) → false ≡ (((o && false) && p) && r)
dead true p r = refl
dead false p r = refl

grouped : (p n v : Bool) → ((p && n) && v) ≡ (p && (n && v))
grouped true n v = refl
grouped false n v = refl

shuffled : (c s o p n v l o2 s2 p2 n2 v2 : Bool) → (c ≡ true → (l ≡ true) × (s ≡ s2)) → (c ≡ true → s ≡ true → (o ≡ o2) × (n ≡ n2) × (v ≡ v2)) → (c ≡ true → s ≡ true → o ≡ true → p ≡ p2)
    → (((((c && s) && o) && p) && n) && v) ≡ (c && ((((l && o2) && s2) && p2) && (n2 && v2)))
shuffled false s o p n v l o2 s2 p2 n2 v2 a b d = refl
shuffled true false o p n v l o2 s2 p2 n2 v2 a b d = let x = a refl in dead o2 p2 (n2 && v2) ∙ ap₂ (λ (i j : Bool). (((i && o2) && j) && p2) && (n2 && v2)) (sym x.0) x.1
shuffled true true false p n v l o2 s2 p2 n2 v2 a b d = let x = a refl in let y = b refl refl in ap₂ (λ (i j : Bool). (((i && j) && s2) && p2) && (n2 && v2)) (sym x.0) y.0
shuffled true true true p n v l o2 s2 p2 n2 v2 a b d =
    let x = a refl in
    let y = b refl refl in
    grouped p n v ∙ ap₂ (λ (i j : Bool). i && (j && v)) (d refl refl refl) y.1 ∙ ap (λ (j : Bool). p2 && (n2 && j)) y.2
    ∙ ap₂ (λ (i j : Bool). (((i && j) && true) && p2) && (n2 && v2)) (sym x.0) y.0 ∙ ap (λ (j : Bool). (((l && o2) && j) && p2) && (n2 && v2)) x.1

-- ---- lists by number

all-same : (p q : ℕ → Bool) (a n : ℕ) → ((i : ℕ) → p i ≡ q i) → list_all p (range_with_len a n) ≡ list_all q (range_with_len a n)
all-same p q a zero same = refl
all-same p q a (suc n) same = ap₂ (λ (x y : Bool). x && y) (same a) (all-same p q (a + 1) n same)

all-at : (p : ℕ → Bool) (a n : ℕ) → list_all p (range_with_len a n) ≡ true → (i : ℕ) → a ≤ i → i < a + n → p i ≡ true
all-at p a zero all i low high = absurd (omega (arith, low, high))
all-at p a (suc n) all i low high =
    let both = and_parts (p a) _ all in
    elim (cases_lt a i) [
      | inl more ↦ all-at p (a + 1) n both.1 i (omega (arith, more)) (omega (arith, high))
      | inr same ↦ let e : i ≡ a = omega (arith, same, low) in ap p e ∙ both.0
    ]

paired-same : {X Y : Type 0} (f : Row → X → Bool) (g : Row → Y → Bool) (h : ℕ → X) (k : ℕ → Y) (rows : List Row) (a n : ℕ) → ((i : ℕ) → a ≤ i → i < a + n → (r : Row) → f r (h i) ≡ g r (k i))
    → all_paired f rows (map h (range_with_len a n)) ≡ all_paired g rows (map k (range_with_len a n))
paired-same f g h k [] a n same = refl
paired-same f g h k (r ∷ rows) a zero same = refl
paired-same f g h k (r ∷ rows) a (suc n) same =
    ap₂ (λ (x y : Bool). x && y) (same a (omega arith) (omega arith) r) (paired-same f g h k rows (a + 1) n (λ i low high. same i (omega (arith, low)) (omega (arith, high))))

dropped : {X : Type 0} (h : ℕ → X) (n : ℕ) → 1 ≤ n → drop 1 (listed n h) ≡ map h (range_with_len 1 (n - 1))
dropped h zero some = absurd (omega (arith, some))
dropped h (suc n) some = ap (λ (j : ℕ). map h (range_with_len 1 j)) (omega arith)

pub map-twice : {X Y Z : Type 0} (f : Y → Z) (g : X → Y) (xs : List X) → map f (map g xs) ≡ map (λ (x : X). f (g x)) xs
map-twice f g [] = refl
map-twice f g (x ∷ xs) = ap (λ l. f (g x) ∷ l) (map-twice f g xs)

-- ---- one image

-- the length, and the digest of a committed image
abbrev IsPartOf : Part → List ℕ → Type 0
IsPartOf (Committed size digest bit) bytes = (size ≡ length bytes) × (digest ≡ sha256 bytes)
IsPartOf other bytes = Unit {0}

part-of : (k : Kept) (staged : ℕ → List ℕ) (i : ℕ) (p : Part) → IsKept k staged → i < length k.rows → part_at k i ≡ p → IsPartOf p (staged i)
part-of k staged i (Committed size digest bit) is lt e = is.committed i size digest bit lt e
part-of k staged i other is lt e = tt

committed-same : (p : Part) (bytes : List ℕ) → is_part_committed p ≡ is_committed (part_meant p bytes)
committed-same Nothing bytes = refl
committed-same other bytes = refl

bytes-of : (p : Part) (bytes : List ℕ) → is_part_committed p ≡ true → staged_bytes (part_meant p bytes) ≡ bytes
bytes-of (Committed size digest bit) bytes is = refl
bytes-of other bytes is = absurd cc

size-of : (p : Part) (bytes : List ℕ) → is_part_committed p ≡ true → IsPartOf p bytes → size_of p ≡ length bytes
size-of (Committed size digest bit) bytes is part = part.0
size-of other bytes is part = absurd cc

row-same : (r : Row) (p : Part) (bytes : List ℕ) → is_part_committed p ≡ true → IsPartOf p bytes → is_part_of r p ≡ is_image_of r bytes
row-same r (Committed size digest bit) bytes is part = ap₂ (λ (n : ℕ) (d : List ℕ). (n == r.size) && same_bytes d r.digest) part.0 part.1
row-same r other bytes is part = absurd cc

-- ---- all of them

module _ (E : Setting) (s : State) (k : Kept) (staged : ℕ → List ℕ) (rows : k.rows ≡ E.layout.rows) (some : 1 ≤ length k.rows) (is : IsKept k staged) where
  abbrev n : ℕ
  n = length k.rows

  abbrev p : List (List ℕ)
  p = staged_package (parts_meant k staged)

  abbrev all : Bool
  all = list_all is_part_committed (parts_of k)

  abbrev size : ℕ
  size = manifest_size (n - 1)

  all-committed : all ≡ list_all is_committed (parts_meant k staged)
  all-committed =
      list_all-map is_part_committed (part_at k) (range_with_len 0 n) ∙ all-same _ _ 0 n (λ i. committed-same (part_at k i) (staged i))
      ∙ sym (list_all-map is_committed (λ (i : ℕ). part_meant (part_at k i) (staged i)) (range_with_len 0 n))

  each : all ≡ true → (i : ℕ) → i < n → is_part_committed (part_at k i) ≡ true
  each done i lt = all-at (λ (j : ℕ). is_part_committed (part_at k j)) 0 n (sym (list_all-map is_part_committed (part_at k) (range_with_len 0 n)) ∙ done) i (omega arith) (omega (arith, lt))

  p-is : p ≡ listed n (λ (i : ℕ). staged_bytes (part_meant (part_at k i) (staged i)))
  p-is = map-twice staged_bytes (λ (i : ℕ). part_meant (part_at k i) (staged i)) (range_with_len 0 n)

  count : length p ≡ length E.layout.rows
  count = ap length p-is ∙ length-map-range_with_len _ 0 n ∙ ap (λ (l : List ImageRow). length l) rows

  first : all ≡ true → manifest_part p ≡ staged 0
  first done =
      let zero-lt : 0 < n = omega (arith, some) in
      ap (λ (l : List (List ℕ)). get_or l 0 []) p-is ∙ get_or-map-range_with_len (λ (i : ℕ). staged_bytes (part_meant (part_at k i) (staged i))) 0 n 0 0 [] zero-lt refl ∙ bytes-of (part_at k 0) (staged 0) (each done 0 zero-lt)

  manifest-same : all ≡ true → size_of (part_at k 0) ≡ size → manifest_kept k ≡ staged 0
  manifest-same done sized =
      let long : size ≡ length (staged 0) = sym sized ∙ size-of (part_at k 0) (staged 0) (each done 0 (omega (arith, some))) (part-of k staged 0 (part_at k 0) is (omega (arith, some)) refl) in
      let whole : take (size_of (part_at k 0)) (staged 0) ≡ staged 0 = take_all _ (staged 0) (omega (arith, long, sized)) in
      let m : min size (length (take (size_of (part_at k 0)) (staged 0))) ≡ size = omega (arith, ap length whole, long) in
      ap (λ (j : ℕ). take j k.front) (sym m) ∙ is.front ∙ take_all size _ (omega (arith, ap length whole, long)) ∙ whole

  paired : all ≡ true → (rs : List Row) → all_paired is_part_of rs (drop 1 (parts_of k)) ≡ all_paired is_image_of rs (drop 1 p)
  paired done rs =
      ap (all_paired is_part_of rs) (dropped (part_at k) n some)
      ∙ paired-same is_part_of is_image_of (part_at k) (λ (i : ℕ). staged_bytes (part_meant (part_at k i) (staged i))) rs 1 (n - 1)
      (λ i low high r.
      let lt : i < n = omega (arith, high, some) in
      let one = each done i lt in
      row-same r (part_at k i) (staged i) one (part-of k staged i (part_at k i) is lt refl) ∙ ap (is_image_of r) (sym (bytes-of (part_at k i) (staged i) one)))
      ∙ ap (all_paired is_image_of rs) (sym (ap (λ (l : List (List ℕ)). drop 1 l) p-is ∙ dropped (λ (i : ℕ). staged_bytes (part_meant (part_at k i) (staged i))) n some))

  pub judging-exact : is_installable E.passes s.counter k ≡ may_end E s (parts_meant k staged)
  unfolding is_installable is_complete version
  judging-exact =
      shuffled all (size_of (part_at k 0) == size) (is_ok (manifest_of k.rows (manifest_kept k))) (are_rows_kept k (manifest_kept k)) (leb s.counter (num_at 4 (manifest_kept k) 8)) (E.passes (manifest_kept k))
      (length p == length E.layout.rows) (is_ok (manifest_of E.layout.rows (manifest_part p))) (length (manifest_part p) == manifest_size (length E.layout.rows - 1)) (all_paired is_image_of (manifest_at (manifest_part p)).rows (drop 1 p))
      (leb s.counter (num_at 4 (manifest_part p) 8)) (E.passes (manifest_part p))
      (λ done.
      let zero-lt : 0 < n = omega (arith, some) in (
        eq-eqb _ _ count,
        ap₂ (λ (i j : ℕ). i == j) (size-of (part_at k 0) (staged 0) (each done 0 zero-lt) (part-of k staged 0 (part_at k 0) is zero-lt refl) ∙ ap length (sym (first done))) (ap (λ (l : List ImageRow). manifest_size (length l - 1)) rows),
      ))
      (λ done sized.
      let same : manifest_kept k ≡ manifest_part p = manifest-same done (eqb-true _ _ sized) ∙ sym (first done) in
      (ap₂ (λ (l : List ImageRow) (m : List ℕ). is_ok (manifest_of l m)) rows same, ap (λ (m : List ℕ). leb s.counter (num_at 4 m 8)) same, ap E.passes same))
      (λ done sized read.
      let same : manifest_kept k ≡ manifest_part p = manifest-same done (eqb-true _ _ sized) ∙ sym (first done) in
      paired done (manifest_at (manifest_kept k)).rows ∙ ap (λ (m : List ℕ). all_paired is_image_of (manifest_at m).rows (drop 1 p)) same)
      ∙ ap (λ (c : Bool). c && ((((length p == length E.layout.rows) && is_ok (manifest_of E.layout.rows (manifest_part p))) && (length (manifest_part p) == manifest_size (length E.layout.rows - 1))) && all_paired is_image_of (manifest_at (manifest_part p)).rows (drop 1 p) && (leb s.counter (num_at 4 (manifest_part p) 8) && E.passes (manifest_part p)))) all-committed

-- each image is committed where the staged ones are
pub each-committed : (k : Kept) (staged : ℕ → List ℕ) → list_all is_committed (parts_meant k staged) ≡ true → (i : ℕ) → i < length k.rows → is_part_committed (part_at k i) ≡ true
each-committed k staged done i lt =
    committed-same (part_at k i) (staged i)
    ∙ all-at (λ (j : ℕ). is_committed (part_meant (part_at k j) (staged j))) 0 (length k.rows) (sym (list_all-map is_committed (λ (j : ℕ). part_meant (part_at k j) (staged j)) (range_with_len 0 (length k.rows))) ∙ done) i (omega arith) (omega (arith, lt))
