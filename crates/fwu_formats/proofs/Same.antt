-- Parts of two images that agree: ranges, blocks, marks, slots, and what is read from them.
use Rattle.std.proofs.Common.{◌≡◌, ℕ, zero, suc, ◌+◌, ◌*◌, ◌<◌, ◌≤◌, Bool, not, ◌||◌, ltb, List, [], ◌∷◌, length, get_or, take, drop, map, Option, Result, Ok, Err, refl, sym, ap, ◌∙◌, arith, length-take, length-drop, get_or-take, get_or-drop, ext_get_or}
use Rattle.std.proofs.lemmas.List.Sums.{sum_by-cons}
use Rattle.std.proofs.lemmas.List.FromFn.{length-map-range_with_len, get_or-map-range_with_len}
use Rattle.std.specs.List.{range_with_len, list_all}
use Rattle.std.specs.Option.{option_or}
use Rattle.base_core.specs.{Bytes.listed, Block.block, Block.granule}
use Rattle.fwu_formats.specs.{Layout.ImageRow, Layout.Layout, Layout.slot_total, Counter.counter_in}
use Rattle.fwu_formats.specs.Manifest.{Manifest, manifest_of, manifest_size, ManifestFault}
use Rattle.fwu_formats.specs.Image.{is_blank, marks, is_tidy, slot, images_in, if_complete, package_by, package_in}
use Rattle.base_core.proofs.Lists.{prefix-same}
use Rattle.fwu_formats.proofs.Spell.{listed-is}

-- ---- equal parts of two images

pub map-same : {X Y : Type 0} (f g : X → Y) (xs : List X) → ((x : X) → f x ≡ g x) → map f xs ≡ map g xs
map-same f g [] h = refl
map-same f g (x ∷ xs) h =
    let first = h x in
    let rest = map-same f g xs h in
    cc

-- the same below a bound
pub listed-same : {X : Type 0} (f g : ℕ → X) (n : ℕ) (d : X) → ((i : ℕ) → i < n → f i ≡ g i) → listed n f ≡ listed n g
listed-same f g n d h =
    listed-is f n d (listed n g) (length-map-range_with_len g 0 n)
    (λ i lt. h i lt ∙ sym (get_or-map-range_with_len g 0 n i i d lt (omega arith)))

-- two lists of one length that agree in a range have the same bytes there
pub range-same : (xs ys : List ℕ) (at n : ℕ) → length xs ≡ length ys → ((place : ℕ) → at ≤ place → place < at + n → get_or xs place 0 ≡ get_or ys place 0) → take n (drop at xs) ≡ take n (drop at ys)
range-same xs ys at n len same =
    let long = λ (zs : List ℕ). length-take n (drop at zs) in
    ext_get_or 0 (take n (drop at xs)) (take n (drop at ys)) (omega (arith, long xs, long ys, length-drop {A = ℕ}, len)) (λ i below.
    let lt : i < n = omega (arith, below, long xs) in
    get_or-take n (drop at xs) i 0 lt ∙ get_or-drop at xs i 0 ∙ same (at + i) (omega arith) (omega (arith, lt))
    ∙ sym (get_or-drop at ys i 0) ∙ sym (get_or-take n (drop at ys) i 0 lt))

pub block-same : (xs ys : List ℕ) (k : ℕ) → length xs ≡ length ys → ((place : ℕ) → 4096 * k ≤ place → place < 4096 * (k + 1) → get_or xs place 0 ≡ get_or ys place 0) → block k xs ≡ block k ys
unfolding block
block-same xs ys k len same = range-same xs ys (4096 * k) 4096 len (λ place low high. same place low (omega (arith, high)))

granule-same : (xs ys : List ℕ) (b j : ℕ) → length xs ≡ length ys → j < 256 → ((place : ℕ) → 4096 * b ≤ place → place < 4096 * (b + 1) → get_or xs place 0 ≡ get_or ys place 0) → granule b j xs ≡ granule b j ys
unfolding granule
granule-same xs ys b j len below same = range-same xs ys (4096 * b + 16 * j) 16 len (λ place low high. same place (omega (arith, low)) (omega (arith, high, below)))

all-same : (p q : ℕ → Bool) (from n : ℕ) → ((j : ℕ) → from ≤ j → j < from + n → p j ≡ q j) → list_all p (range_with_len from n) ≡ list_all q (range_with_len from n)
all-same p q from zero h = refl
all-same p q from (suc n) h = rw (h from (omega arith) (omega arith), all-same p q (from + 1) n (λ j low high. h j (omega (arith, low)) (omega (arith, high)))) refl

module _ (xs ys : List ℕ) (b limit : ℕ) (len : length xs ≡ length ys) (few : limit ≤ 256) (same : (place : ℕ) → 4096 * b ≤ place → place < 4096 * (b + 1) → get_or xs place 0 ≡ get_or ys place 0) where
  blank-same : (j : ℕ) → j < limit → is_blank (granule b j xs) ≡ is_blank (granule b j ys)
  blank-same j lt = ap is_blank (granule-same xs ys b j len (omega (arith, lt, few)) same)

  pub marks-same : marks xs b limit ≡ marks ys b limit
  unfolding marks
  marks-same = prefix-same (λ j. not (is_blank (granule b j xs))) (λ j. not (is_blank (granule b j ys))) 0 limit (λ j low high. ap not (blank-same j (omega (arith, high))))

  pub tidy-same : is_tidy xs b limit ≡ is_tidy ys b limit
  unfolding is_tidy
  tidy-same =
      all-same (λ j. ltb j (marks xs b limit) || is_blank (granule b j xs)) (λ j. ltb j (marks ys b limit) || is_blank (granule b j ys)) 0 limit (λ j low high.
      either (ap (ltb j) marks-same) (blank-same j (omega (arith, high))))
    where
      either : {a c d e : Bool} → a ≡ c → d ≡ e → (a || d) ≡ (c || e)
      either p q = cc

-- ---- slots lie in their bank

pub total-cons : (r : ImageRow) (rows : List ImageRow) → slot_total (r ∷ rows) ≡ r.slots + slot_total rows
total-cons r rows = sum_by-cons (λ (x : ImageRow). x.slots) r rows

pub slots-fit : (rows : List ImageRow) (i : ℕ) → slot_total (take i rows) + (get_or rows i (record { guid = []; slots = 0 })).slots ≤ slot_total rows
slots-fit [] zero = omega arith
slots-fit [] (suc i) = omega arith
slots-fit (r ∷ rows) zero = omega (arith, total-cons r rows)
slots-fit (r ∷ rows) (suc i) = omega (arith, total-cons r rows, total-cons r (take i rows), slots-fit rows i)

-- ---- a bank, and the counter

pub images-same : (L : Layout) (xs ys : List ℕ) (b : ℕ) (m : Manifest) → ((i : ℕ) → slot L xs b i ≡ slot L ys b i) → images_in L xs b m ≡ images_in L ys b m
images-same L xs ys b m same =
    let first : take (manifest_size (length m.rows)) (slot L xs b 0) ≡ take (manifest_size (length m.rows)) (slot L ys b 0) = ap (take (manifest_size (length m.rows))) (same 0) in
    let size_of = λ (j : ℕ). (get_or m.rows j (record { guid = []; size = 0; version = 0; digest = [] })).size in
    let rest = map-same (λ (j : ℕ). take (size_of j) (slot L xs b (j + 1))) (λ (j : ℕ). take (size_of j) (slot L ys b (j + 1))) (range_with_len 0 (length m.rows)) (λ j. ap (take (size_of j)) (same (j + 1))) in
    cc

pub by-same : (L : Layout) (xs ys : List ℕ) (b : ℕ) (r : Result Manifest ManifestFault) → ((i : ℕ) → slot L xs b i ≡ slot L ys b i) → package_by L xs b r ≡ package_by L ys b r
by-same L xs ys b (Err e) same = refl
by-same L xs ys b (Ok m) same = ap (if_complete L.rows) (images-same L xs ys b m same)

pub package-same : (L : Layout) (xs ys : List ℕ) (b : ℕ) → ((i : ℕ) → slot L xs b i ≡ slot L ys b i) → package_in L xs b ≡ package_in L ys b
unfolding package_in
package-same L xs ys b same = ap (λ (bytes : List ℕ). package_by L xs b (manifest_of L.rows bytes)) (same 0) ∙ by-same L xs ys b (manifest_of L.rows (slot L ys b 0)) same

pub front-block : (xs ys : List ℕ) → length xs ≡ length ys → ((place : ℕ) → place < 4096 * 8 → get_or xs place 0 ≡ get_or ys place 0) → (k : ℕ) → k < 8 → block k xs ≡ block k ys
front-block xs ys len front k lt = block-same xs ys k len (λ place low high. front place (omega (arith, high, lt)))

pub counter-same : (xs ys : List ℕ) → length xs ≡ length ys → ((place : ℕ) → place < 4096 * 8 → get_or xs place 0 ≡ get_or ys place 0) → counter_in xs ≡ counter_in ys
unfolding counter_in
counter-same xs ys len front =
    let four = marks-same xs ys 4 223 len (omega arith) (λ place low high. front place (omega (arith, high))) in
    let five = front-block xs ys len front 5 (omega arith) in
    let six = front-block xs ys len front 6 (omega arith) in
    rw (four, five, six) refl

pub first-same : {X : Type 0} (a b c d : Option X) → a ≡ b → c ≡ d → option_or a c ≡ option_or b d
first-same {X} a b c d p q = ap (λ (o : Option X). option_or o c) p ∙ ap (λ (o : Option X). option_or b o) q
