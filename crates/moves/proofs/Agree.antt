-- Two images that agree in all that counts but for a range of the blocks at the front: the frame of every write.
use Rattle.std.proofs.Common.{◌≡◌, ◌⊎◌, inl, inr, ℕ, ◌+◌, ◌*◌, ◌/◌, ◌<◌, ◌≤◌, cond, List, [], length, get_or, Option, Some, None, Ok, refl, sym, ap, ◌∙◌, arith, IsTrue, IsFalse}
use Rattle.std.proofs.lemmas.Bool.{cases_Bool}
use Rattle.std.proofs.lemmas.Option.{same_Some}
use Rattle.std.proofs.lemmas.List.FromFn.{length-map-range_with_len, get_or-map-range_with_len}
use Rattle.base_core.specs.{Block.block, Bytes.listed}
use Rattle.flash_core.specs.{Told.Told, May.Leaves, May.Keeps, May.Quiet}
use Rattle.fwu_formats.specs.{Layout.Layout, Layout.layout_of, Layout.start, Counter.counter_in, Places.trial_limit}
use Rattle.fwu_formats.specs.Metadata.{Meta, MetaRead, state_at}
use Rattle.fwu_formats.specs.Image.{layout_seen, deciding, marks, is_tidy, is_blank, package_in}
use Rattle.fwu_model.specs.State.{State, Bank, bank, no_bank, is_invalid, is_valid}
use Rattle.fwu_model.specs.Seen.{state_of, bank_in, IsTidy}
use Rattle.fwu_model.proofs.{Banks.in_range, Shown.seen-by-metadata}
use Rattle.fwu_formats.proofs.Same.{block-same, listed-same, marks-same, range-same, package-same as package-by_slots}
use Rattle.fwu_formats.proofs.Marks.{marks-are-counted}
use Rattle.marks_core.proofs.Counting.{same_granule}
use Rattle.replicas.proofs.Reading.{deciding_of}
use Rattle.moves.specs.Moved.{IsShown}
pub use Rattle.fwu_formats.proofs.Same.{slots-fit}

-- the images have the same bytes in the bank
pub package-same : (L : Layout) (xs ys : List ℕ) (b : ℕ) → length xs ≡ length ys → ((place : ℕ) → 4096 * start L b 0 ≤ place → place < 4096 * start L (b + 1) 0 → get_or xs place 0 ≡ get_or ys place 0)
    → package_in L xs b ≡ package_in L ys b
package-same L xs ys b size same =
    package-by_slots L xs ys b (λ i.
    range-same xs ys (4096 * start L b i) (4096 * (get_or L.rows i (record { guid = []; slots = 0 })).slots) size (λ place low high.
    same place (omega (arith, low)) (omega (arith, high, slots-fit L.rows i))))

-- ---- what an image shows, by its metadata

module _ (L : Layout) (now : List ℕ) (s : State) (shown : IsShown L now s) where
  -- the metadata by which an image shows a state
  pub shown-meta : (r : MetaRead) × (deciding L now ≡ Some r) × (state_of L now r ≡ s)
  shown-meta = seen-by-metadata.comes L now s shown.layout shown.shows

  pub shown-by : (r : MetaRead) → deciding L now ≡ Some r → state_of L now r ≡ s
  shown-by r is = let found = shown-meta in ap (state_of L now) (same_Some r found.0 (sym is ∙ found.1)) ∙ found.2

  pub shown-counter : counter_in now ≡ s.counter
  shown-counter = ap (λ (x : State). x.counter) shown-meta.2

pub shown-as : (L : Layout) (image : List ℕ) (r : MetaRead) (s : State) → layout_seen image ≡ Ok L → deciding L image ≡ Some r → state_of L image r ≡ s → IsShown L image s
shown-as L image r s layout decides is = record { layout = layout; shows = seen-by-metadata.gives L image r layout decides ∙ ap (λ (x : State). Some x) is }

-- a bank's state is what the metadata says
module _ (L : Layout) (image : List ℕ) (r : MetaRead) (s : State) (is : state_of L image r ≡ s) where
  pub bank-count : length s.banks ≡ L.banks
  bank-count = ap (λ (x : State). length x.banks) (sym is) ∙ length-map-range_with_len (bank_in L image r.meta) 0 L.banks

  pub state-is : (b : ℕ) → b < L.banks → (bank s b).state ≡ state_at r.meta b
  state-is b lt =
      ap (λ (x : State). (bank x b).state) (sym is)
      ∙ ap (λ (k : Bank). k.state) (get_or-map-range_with_len (bank_in L image r.meta) 0 L.banks b b no_bank lt (omega arith))

  pub used-below : (b : ℕ) → IsFalse (is_invalid (bank s b).state) → b < L.banks
  used-below b used = omega (arith, in_range s.banks b used, bank-count)

  -- a bank in use is so by the metadata
  pub used-at : (b : ℕ) → IsFalse (is_invalid (bank s b).state) → IsFalse (is_invalid (state_at r.meta b))
  used-at b used = ap is_invalid (sym (state-is b (used-below b used))) ∙ used

  pub at-used : (b : ℕ) → b < L.banks → IsFalse (is_invalid (state_at r.meta b)) → IsFalse (is_invalid (bank s b).state)
  at-used b lt used = ap is_invalid (state-is b lt) ∙ used

-- ---- the frame

-- The images agree in blocks 0 to 7 but for the bytes from low to high, and in each bank that the metadata calls valid or accepted.
pub record Agrees (L : Layout) (m : Meta) (low high : ℕ) (now image : List ℕ) : Type 0 where
  pub size : length image ≡ length now
  pub front : (place : ℕ) → place < 32768 → (place < low) ⊎ (high ≤ place) → get_or image place 0 ≡ get_or now place 0
  pub banks : (b : ℕ) → b < L.banks → IsFalse (is_invalid (state_at m b)) → (place : ℕ) → 4096 * start L b 0 ≤ place → place < 4096 * start L (b + 1) 0 → get_or image place 0 ≡ get_or now place 0

-- what a write at the front leaves as it is now
pub agrees-now : (L : Layout) (m : Meta) (low high : ℕ) (s t : Told) → high ≤ 32768 → Keeps low high s t → Agrees L m low high s.now t.now
agrees-now L m low high s t le keeps = record {
  size = keeps.size;
  front = λ place lt out. keeps.now place out;
  banks = λ b lt used place above below. keeps.now place (inr (omega (arith, le, above)));
}

-- the banks that the metadata calls valid or accepted are quiet
abbrev pub QuietUsed : Layout → Meta → Told → Type 0
QuietUsed L m t = (b : ℕ) → b < L.banks → IsFalse (is_invalid (state_at m b)) → Quiet (4096 * start L b 0) (4096 * start L (b + 1) 0) t

-- and what it leaves in each image, of what was quiet
pub agrees-left : (L : Layout) (m : Meta) (low high : ℕ) (s t : Told) (image : List ℕ) → high ≤ 32768 → Keeps low high s t → Quiet 0 32768 s → QuietUsed L m s → Leaves t image → Agrees L m low high s.now image
agrees-left L m low high s t image le keeps front banks leaves = record {
  size = leaves.size ∙ keeps.size;
  front = λ place lt out. leaves.sure place (keeps.sure place out (front place (omega arith) lt)) ∙ keeps.now place out;
  banks = λ b lt used place above below.
      let out = inr (omega (arith, le, above)) in
      leaves.sure place (keeps.sure place out (banks b lt used place above below)) ∙ keeps.now place out;
}

outside : (low high from to place : ℕ) → (to ≤ low) ⊎ (high ≤ from) → from ≤ place → place < to → (place < low) ⊎ (high ≤ place)
outside low high from to place (inl l) above below = inl (omega (arith, l, below))
outside low high from to place (inr r) above below = inr (omega (arith, r, above))

module _ (L : Layout) (r : MetaRead) (low high : ℕ) (now image : List ℕ) (agree : Agrees L r.meta low high now image) where
  -- a block at the front
  same-place : (k place : ℕ) → k < 8 → (4096 * k + 4096 ≤ low) ⊎ (high ≤ 4096 * k) → 4096 * k ≤ place → place < 4096 * k + 4096 → get_or image place 0 ≡ get_or now place 0
  same-place k place lt apart above below = agree.front place (omega (arith, lt, below)) (outside low high (4096 * k) (4096 * k + 4096) place apart above below)

  pub block-agrees : (k : ℕ) → k < 8 → (4096 * k + 4096 ≤ low) ⊎ (high ≤ 4096 * k) → block k image ≡ block k now
  block-agrees k lt apart = block-same image now k agree.size (λ place above below. same-place k place lt apart above (omega (arith, below)))

  pub marks-agree : (k limit : ℕ) → k < 8 → (4096 * k + 4096 ≤ low) ⊎ (high ≤ 4096 * k) → limit ≤ 256 → marks image k limit ≡ marks now k limit
  marks-agree k limit lt apart few = marks-same image now k limit agree.size few (λ place above below. same-place k place lt apart above (omega (arith, below)))

  pub tidy-agrees : (k limit : ℕ) → k < 8 → (4096 * k + 4096 ≤ low) ⊎ (high ≤ 4096 * k) → limit ≤ 256 → IsTrue (is_tidy now k limit) → IsTrue (is_tidy image k limit)
  tidy-agrees k limit lt apart few tidy =
      let count = marks-agree k limit lt apart few in
      marks-are-counted.where_blank image k limit (λ j from below.
      ap is_blank (same_granule k j image now agree.size (λ place above under. same-place k place lt apart (omega (arith, above)) (omega (arith, under, below, few))))
      ∙ marks-are-counted.then_blank now k limit tidy j (omega (arith, from, count)) below)

  pub layout-agrees : 4096 ≤ low → layout_seen now ≡ Ok L → layout_seen image ≡ Ok L
  layout-agrees above is =
      ap (λ (bytes : List ℕ). layout_of bytes (length image / 4096)) (block-agrees 0 (omega arith) (inl (omega (arith, above)))) ∙ ap (λ (n : ℕ). layout_of (block 0 now) (n / 4096)) agree.size ∙ is

  pub counter-agrees : (28672 ≤ low) ⊎ (high ≤ 16384) → counter_in image ≡ counter_in now
  unfolding counter_in
  counter-agrees apart =
      let four = marks-agree 4 223 (omega arith) (beside 4 (omega arith) (omega arith) apart) (omega arith) in
      let five = block-agrees 5 (omega arith) (beside 5 (omega arith) (omega arith) apart) in
      let six = block-agrees 6 (omega arith) (beside 6 (omega arith) (omega arith) apart) in
      rw (four, five, six) refl
    where
      beside : (k : ℕ) → 4 ≤ k → k ≤ 6 → (28672 ≤ low) ⊎ (high ≤ 16384) → (4096 * k + 4096 ≤ low) ⊎ (high ≤ 4096 * k)
      beside k from to (inl l) = inl (omega (arith, l, to))
      beside k from to (inr h) = inr (omega (arith, h, from))

  banks-agree : listed L.banks (bank_in L image r.meta) ≡ listed L.banks (bank_in L now r.meta)
  banks-agree = listed-same (bank_in L image r.meta) (bank_in L now r.meta) L.banks no_bank each
    where
      each : (b : ℕ) → b < L.banks → bank_in L image r.meta b ≡ bank_in L now r.meta b
      each b below = elim (cases_Bool (is_invalid (state_at r.meta b))) [
        | inl e ↦ rw e refl
        | inr e ↦ ap (λ (o : Option (List (List ℕ))). record { state = state_at r.meta b; bits = get_or r.meta.bits b []; held = cond (is_invalid (state_at r.meta b)) None o }) (package-same L image now b agree.size (agree.banks b below e))
      ]

  -- THE FRAME: the state is that of the other image, with these trials and this counter.
  pub state-agrees : (trials counter : ℕ) → cond (is_valid (state_at r.meta r.meta.active)) (marks image 3 trial_limit) 0 ≡ trials → counter_in image ≡ counter
      → state_of L image r ≡ record (state_of L now r) { trials = trials; counter = counter }
  state-agrees trials counter tries count =
      ap (λ (x : List Bank × ℕ × ℕ). record { form = r.form; active = r.meta.active; previous = r.meta.previous; banks = x.0; trials = x.1; counter = x.2 })
      (triple banks-agree tries count)
    where
      triple : {a b : List Bank} {c d e f : ℕ} → a ≡ b → c ≡ d → e ≡ f → ◌≡◌ {A = List Bank × ℕ × ℕ} (a, c, e) (b, d, f)
      triple p q r = cc

  -- what decides, where the replicas agree
  pub decides-agrees : 12288 ≤ low → deciding L image ≡ deciding L now
  decides-agrees above = deciding_of L image now (block-agrees 1 (omega arith) (inl (omega (arith, above)))) (block-agrees 2 (omega arith) (inl (omega (arith, above))))

-- ---- what is shown after a write

-- where the metadata alone was written: an image that has this metadata shows what it says of the image before
pub meta-shows : (L : Layout) (new : MetaRead) (now image : List ℕ) (next : State) → Agrees L new.meta 4096 12288 now image → layout_seen now ≡ Ok L → deciding L image ≡ Some new → state_of L now new ≡ next → IsShown L image next
meta-shows L new now image next agree layout decides is =
    shown-as L image new next (layout-agrees L new 4096 12288 now image agree (omega arith) layout) decides
    (state-agrees L new 4096 12288 now image agree (state_of L now new).trials (state_of L now new).counter
    (ap (λ (n : ℕ). cond (is_valid (state_at new.meta new.meta.active)) n 0) (marks-agree L new 4096 12288 now image agree 3 trial_limit (omega arith) (inr (omega arith)) (omega arith)))
    (counter-agrees L new 4096 12288 now image agree (inr (omega arith)))
    ∙ is)

-- and an image is as tidy as the one before
pub meta-tidy : (L : Layout) (new : MetaRead) (now image : List ℕ) (next : State) → Agrees L new.meta 4096 12288 now image → IsTidy now next → IsTidy image next
meta-tidy L new now image next agree tidy valid = tidy-agrees L new 4096 12288 now image agree 3 trial_limit (omega arith) (inr (omega arith)) (omega arith) (tidy valid)

-- where nothing before block 3 was written: the trials and the counter alone may be others
pub beside-shows : (L : Layout) (r : MetaRead) (low high : ℕ) (now image : List ℕ) (s : State) (trials counter : ℕ) → 12288 ≤ low → Agrees L r.meta low high now image → layout_seen now ≡ Ok L → deciding L now ≡ Some r → state_of L now r ≡ s
    → cond (is_valid (state_at r.meta r.meta.active)) (marks image 3 trial_limit) 0 ≡ trials → counter_in image ≡ counter → IsShown L image (record s { trials = trials; counter = counter })
beside-shows L r low high now image s trials counter above agree layout decided is tries count =
    shown-as L image r (record s { trials = trials; counter = counter }) (layout-agrees L r low high now image agree (omega (arith, above)) layout) (decides-agrees L r low high now image agree above ∙ decided)
    (state-agrees L r low high now image agree trials counter tries count ∙ ap (λ (x : State). record x { trials = trials; counter = counter }) is)

-- ---- the layout

-- metadata by which no bank is in use
abbrev pub no_meta : MetaRead
no_meta = record { form = 2; meta = record { active = 0; previous = 0; states = []; bits = [] } }

-- whatever the banks have
pub front-kept : (L : Layout) (low high : ℕ) (s t : Told) → Keeps low high s t → Agrees L no_meta.meta low high s.now t.now
front-kept L low high s t keeps = record { size = keeps.size; front = λ place lt out. keeps.now place out; banks = λ b lt used. absurd cc }

-- a call that leaves block 0 alone leaves the layout, at any exit
pub layout-kept : (L : Layout) (low high : ℕ) (s t : Told) → 4096 ≤ low → Keeps low high s t → layout_seen s.now ≡ Ok L → layout_seen t.now ≡ Ok L
layout-kept L low high s t above keeps is = layout-agrees L no_meta low high s.now t.now (front-kept L low high s t keeps) above is
