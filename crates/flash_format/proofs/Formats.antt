-- What is seen of a flash with its first blocks erased, of one with the first metadata, and of one that was formatted.
-- What its bank 0 holds, and what a loss leaves while the records are written.
use Rattle.std.proofs.Common.{◌≡◌, ℕ, ◌+◌, ◌-◌, ◌*◌, ◌<◌, ◌≤◌, ◌&&◌, Bool, true, false, List, [], ◌++◌, length, get_or, take, Some, None, Ok, refl, sym, ap, subst, ◌∙◌, arith, inr, leb, IsTrue, ◌⊎◌, inl, Result, Err, cond, zero, suc, ◌/◌, ◌∷◌, drop, replicate, Option, ext_get_or}
use Rattle.std.specs.List.{All}
use Rattle.std.proofs.lemmas.Bool.{and_parts, and_from, le-leb, cases_lt}
use Rattle.std.proofs.lemmas.List.{get_or-map, length-map, take_at, get_or-take, take-take, length-take-le, length-replicate, get_or-replicate, get_or_past}
use Rattle.base_core.specs.{Block.blank, Block.block, Block.granule, Bytes.listed, Bytes.num_at}
use Rattle.flash_core.specs.{Told.Told, Told.NothingDirty, Told.fresh, May.Keeps, May.Leaves, May.May}
use Rattle.fwu_formats.specs.{Counter.counter_in, Counter.recorded, Counter.is_record, declared.kinds.BankState.BankState, Layout.no_row}
use Rattle.fwu_formats.specs.Layout.{ImageRow, Layout, fits_layout, slot_total, slot_bytes, start, layout_of}
use Rattle.fwu_formats.specs.Metadata.{first_meta, Meta, MetaRead, state_at, meta_read}
use Rattle.fwu_formats.specs.Manifest.{is_complete, manifest_part, version}
use Rattle.fwu_formats.specs.Image.{layout_seen, package_in, slot, deciding, is_blank, marks}
use Rattle.fwu_formats.specs.Package.{Entry, Toc, entry_of, payload}
use Rattle.fwu_formats.specs.declared.kinds.BankState.TheVariants.{Accepted, Invalid, Valid}
use Rattle.fwu_model.specs.{Answer.images_of, Answer.payload_or, Replica.BothHold, Replica.in_version, Sound.Setting}
use Rattle.fwu_model.specs.Seen.{seen, bank_in, state_of, SoundFlash}
use Rattle.fwu_model.specs.State.{State, Bank, no_bank, bank, is_invalid, is_valid, is_accepted, all_set}
use Rattle.fwu_formats.proofs.{SealLaws.limits, SealLaws.layout-sealed, SealLaws.record-sealed, Marks.marks-are-counted}
use Rattle.fwu_model.proofs.Shown.{shown-are-formed, seen-by-metadata, shown-are-sound}
use Rattle.image_check.specs.{declared.bank.Verdict.Verdict, Law.verdict_may_start, Verdict.verdict_on}
use Rattle.image_check.specs.declared.bank.Verdict.TheVariants.{Good}
use Rattle.image_check.proofs.Permitted.{good, permitted}
use Rattle.moves.proofs.{Agree.package-same, Packages.package-held}
use Rattle.fip_tables.specs.Images.{AreImages, no_entry}
use Rattle.flash_format.specs.Formatted.{first_state, HoldsImages, IsFormatted, IsRefusedFormat, IsOrdered, IsWholeFormat, full_bank, empty_bank}
use Rattle.flash_format.specs.Places.{AllStand, Erased, HoldsThenErased}
use Rattle.flash_format.proofs.Ranges.{length-payload, erased_stays, stands_whole, stands_stays, erased_range}
use Rattle.std.specs.Prelude.{IsErr, IsTrue, IsFalse, IsSome, max}
use Rattle.flash_core.proofs.Calls.{fresh_dirty, guard-fresh, now-fresh, quiet_fresh}
use Rattle.std.proofs.lemmas.List.Sums.{sum_by_more, sum_by_more_le}
use Rattle.std.proofs.lemmas.List.FromFn.{length-map-range_with_len, get_or-map-range_with_len}
use Rattle.std.specs.Option.{option_or}
use Rattle.base_core.proofs.Seals.{blank_unsealed, is_false}

-- ---- erased blocks

pub block_blank : (b : ℕ) (image : List ℕ) → 4096 * b + 4096 ≤ length image → Erased (4096 * b) (4096 * b + 4096) image → block b image ≡ blank 4096
unfolding block
block_blank b image inside erased = ap (λ (n : ℕ). take n (drop (4096 * b) image)) (sixteen b) ∙ erased_range (4096 * b) 4096 image inside erased
  where
    sixteen : (k : ℕ) → 4096 ≡ 4096 * k + 4096 - 4096 * k
    sixteen k = omega arith

no_layout : (blocks : ℕ) (L : Layout) → layout_of (blank 4096) blocks ≡ Ok L → ⊥
no_layout blocks L is = blank_unsealed 4096 (omega arith) (layout-sealed (blank 4096) blocks L is)

err_from : {X F : Type 0} (r : Result X F) → ((x : X) → r ≡ Ok x → ⊥) → IsErr r
err_from (Ok x) none = absurd (none x refl)
err_from (Err e) none = refl

-- a flash whose block 0 is erased has no layout
pub unlaid : (image : List ℕ) → 4096 ≤ length image → Erased 0 4096 image → IsErr (layout_seen image)
unlaid image inside erased =
    err_from (layout_seen image) (λ L is. no_layout (length image / 4096) L (sym (ap (λ (l : List ℕ). layout_of l (length image / 4096)) (block_blank 0 image inside erased)) ∙ is))

-- the same by block 0 alone
pub unlaid_by : (image : List ℕ) → block 0 image ≡ blank 4096 → IsErr (layout_seen image)
unlaid_by image is = err_from (layout_seen image) (λ L h. no_layout (length image / 4096) L (sym (ap (λ (l : List ℕ). layout_of l (length image / 4096)) is) ∙ h))

-- ---- the counter

recorded_blank : recorded (blank 4096) ≡ 0
recorded_blank = ap (λ (b : Bool). cond b (num_at 4 (blank 4096) 8) 0) (sym (is_false (is_record (blank 4096)) (λ h. blank_unsealed 4096 (omega arith) (record-sealed (blank 4096) h))))

granule_blank : IsTrue (is_blank (blank 16))
unfolding blank
granule_blank = refl

first_granule : (image : List ℕ) → 20480 ≤ length image → Erased 16384 20480 image → IsTrue (is_blank (granule 4 0 image))
unfolding granule
first_granule image inside erased =
    let is = erased_range 16384 16 image (omega arith) (λ i above below. erased i above (omega arith)) in
    subst (λ (l : List ℕ). IsTrue (is_blank l)) (sym is) granule_blank

no_marks : (image : List ℕ) → 20480 ≤ length image → Erased 16384 20480 image → marks image 4 223 ≡ 0
no_marks image inside erased = marks-are-counted.is image 4 223 0 (omega arith) (λ j lt. absurd (omega arith)) (λ lt. first_granule image inside erased)

max_zero : (a b c : ℕ) → a ≡ 0 → b ≡ 0 → c ≡ 0 → max a (max b c) ≡ 0
max_zero a b c p q r = rw (p, q, r) refl

pub counter_zero : (image : List ℕ) → 28672 ≤ length image → Erased 16384 28672 image → counter_in image ≡ 0
unfolding counter_in
counter_zero image inside erased =
    let five = block_blank 5 image (omega arith) (λ i above below. erased i (omega arith) (omega arith)) in
    let six = block_blank 6 image (omega arith) (λ i above below. erased i (omega arith) (omega arith)) in
    max_zero _ _ _ (no_marks image (omega arith) (λ i above below. erased i above (omega arith))) (ap recorded five ∙ recorded_blank) (ap recorded six ∙ recorded_blank)

-- ---- the state

module _ (L : Layout) (image : List ℕ) (p : List (List ℕ)) (held : package_in L image 0 ≡ Some p) (fits : IsTrue (fits_layout L)) where
  abbrev m : Meta
  m = first_meta L

  full : bank_in L image m 0 ≡ full_bank L p
  full = ap (λ (o : Option (List (List ℕ))). record { state = Accepted; bits = replicate (length L.rows) true; held = o }) held

  empty_by : (k : BankState) (bits : List Bool) → k ≡ Invalid → bits ≡ replicate (length L.rows) false → (b : ℕ) → record { state = k; bits = bits; held = cond (is_invalid k) None (package_in L image b) } ≡ empty_bank L
  empty_by k bits is same b = rw (is, same) refl

  empty : (j : ℕ) → j < L.banks - 1 → bank_in L image m (suc j) ≡ empty_bank L
  empty j lt = empty_by (state_at m (suc j)) (get_or m.bits (suc j) []) (get_or-replicate (L.banks - 1) j Invalid Invalid lt) (get_or-replicate (L.banks - 1) j (replicate (length L.rows) false) [] lt) (suc j)

  banks-are : listed L.banks (bank_in L image m) ≡ full_bank L p ∷ replicate (L.banks - 1) (empty_bank L)
  banks-are =
      let few = (limits L fits).fewest_banks in
      let count = length-map-range_with_len (bank_in L image m) 0 L.banks in
      ext_get_or no_bank (listed L.banks (bank_in L image m)) (full_bank L p ∷ replicate (L.banks - 1) (empty_bank L)) (omega (arith, count, few, length-replicate (L.banks - 1) (empty_bank L))) (λ i below. at i (omega (arith, count, below)))
    where
      at : (i : ℕ) → i < L.banks → get_or (listed L.banks (bank_in L image m)) i no_bank ≡ get_or (full_bank L p ∷ replicate (L.banks - 1) (empty_bank L)) i no_bank
      at zero lt = get_or-map-range_with_len (bank_in L image m) 0 L.banks 0 0 no_bank lt (omega arith) ∙ full
      at (suc j) lt =
          let less : j < L.banks - 1 = omega arith in
          get_or-map-range_with_len (bank_in L image m) 0 L.banks (suc j) (suc j) no_bank lt (omega arith) ∙ empty j less ∙ sym (get_or-replicate (L.banks - 1) j (empty_bank L) no_bank less)

  pub state_is : counter_in image ≡ 0 → state_of L image (in_version 2 m) ≡ first_state L p
  state_is none = ap (λ (banks : List Bank). state_with banks (counter_in image)) banks-are ∙ ap (state_with (full_bank L p ∷ replicate (L.banks - 1) (empty_bank L))) none
    where
      state_with : List Bank → ℕ → State
      state_with banks counter = record { form = 2; active = 0; previous = 0; banks = banks; trials = 0; counter = counter }

decided : (L : Layout) (r : MetaRead) (image : List ℕ) → meta_read L (block 1 image) ≡ Some r → deciding L image ≡ Some r
unfolding deciding
decided L r image is = ap (λ (o : Option MetaRead). option_or o (meta_read L (block 2 image))) is

pub shows_first : (L : Layout) (image : List ℕ) (p : List (List ℕ)) → package_in L image 0 ≡ Some p → IsTrue (fits_layout L) → counter_in image ≡ 0 → layout_seen image ≡ Ok L → BothHold L (in_version 2 (first_meta L)) image
    → seen image ≡ Some (first_state L p)
shows_first L image p held fits none is both =
    seen-by-metadata.gives L image (in_version 2 (first_meta L)) is (decided L (in_version 2 (first_meta L)) image both.zero) ∙ ap Some (state_is L image p held fits none)

-- ---- it is sound

all_true : (n : ℕ) → IsTrue (all_set (replicate n true))
all_true zero = refl
all_true (suc n) = all_true n

-- a bank of another number is invalid
other_invalid : (L : Layout) (p : List (List ℕ)) (j : ℕ) → IsTrue (is_invalid (bank (first_state L p) (suc j)).state)
other_invalid L p j = elim (cases_lt j (L.banks - 1)) [
  | inl lt ↦ ap (λ (k : Bank). is_invalid k.state) (get_or-replicate (L.banks - 1) j (empty_bank L) no_bank lt)
  | inr le ↦ ap (λ (k : Bank). is_invalid k.state) (get_or_past (replicate (L.banks - 1) (empty_bank L)) j no_bank (omega (arith, le, length-replicate (L.banks - 1) (empty_bank L))))
]

not_both : (k : BankState) → IsTrue (is_invalid k) → IsTrue (is_accepted k) → ⊥
not_both Invalid a b = cc
not_both Valid a b = cc
not_both Accepted a b = cc

not_valid : (k : BankState) → IsTrue (is_invalid k) → IsTrue (is_valid k) → ⊥
not_valid Invalid a b = cc
not_valid Valid a b = cc
not_valid Accepted a b = cc

pub sound_first : (E : Setting) (image : List ℕ) (p : List (List ℕ)) → layout_seen image ≡ Ok E.layout → seen image ≡ Some (first_state E.layout p) → IsTrue (E.passes (manifest_part p)) → SoundFlash E image
sound_first E image p is shows passes = record {
  layout = is;
  state = s;
  shows = shows;
  sound = shown-are-sound E image s is shows refl held accepted valid (and_from _ _ (le-leb 0 (version p) (omega arith)) passes) (λ trial. absurd cc);
  tidy = λ trial. absurd cc;
}
  where
    s : State
    s = first_state E.layout p

    held : (b : ℕ) → IsFalse (is_invalid (bank s b).state) → IsSome (bank s b).held
    held zero used = refl
    held (suc j) used = absurd (let invalid = other_invalid E.layout p j in cc)

    accepted : (b : ℕ) → IsTrue (is_accepted (bank s b).state) → IsTrue (all_set (bank s b).bits)
    accepted zero is_so = all_true (length E.layout.rows)
    accepted (suc j) is_so = absurd (not_both (bank s (suc j)).state (other_invalid E.layout p j) is_so)

    valid : (b : ℕ) → IsTrue (is_valid (bank s b).state) → IsFalse (all_set (bank s b).bits)
    valid zero is_so = absurd cc
    valid (suc j) is_so = absurd (not_valid (bank s (suc j)).state (other_invalid E.layout p j) is_so)

module _ (rows : List ImageRow) (k : ℕ) (below : k < length rows) where
  pub slots_more : slot_total (take (k + 1) rows) ≡ slot_total (take k rows) + (get_or rows k no_row).slots
  slots_more = sum_by_more (λ r. r.slots) rows k no_row below

  pub slots_more_le : slot_total (take k rows) + (get_or rows k no_row).slots ≤ slot_total rows
  slots_more_le = sum_by_more_le (λ r. r.slots) rows k no_row below

  -- the slot of a lower image ends before
  pub slots_before : (j : ℕ) → j < k → slot_total (take j rows) + (get_or rows j no_row).slots ≤ slot_total (take k rows)
  slots_before j lt =
      let size : length (take k rows) ≡ k = length-take-le k rows (omega arith) in
      let h = sum_by_more_le (λ r. r.slots) (take k rows) j no_row (omega (arith, size, lt)) in
      let front = ap slot_total (take-take j k rows (omega arith)) in
      let same = ap (λ (r : ImageRow). r.slots) (get_or-take k rows j no_row lt) in
      omega (arith, h, front, same)

-- one image more
pub all_stand_more : (L : Layout) (k : ℕ) (file : List ℕ) (entries : List Entry) (s t : Told) → k < length L.rows → Keeps (4096 * start L 0 k) (4096 * (start L 0 k + (get_or L.rows k no_row).slots)) s t
    → AllStand k L file entries s.now → HoldsThenErased (4096 * start L 0 k) (slot_bytes L k) (payload file (get_or entries k no_entry)) t.now → AllStand (k + 1) L file entries t.now
all_stand_more L k file entries s t below keeps before here j lt = at (cases_lt j k)
  where
    at : (j < k) ⊎ (k ≤ j) → HoldsThenErased (4096 * start L 0 j) (slot_bytes L j) (payload file (get_or entries j no_entry)) t.now
    at (inl l) =
        let ends = slots_before L.rows k below j l in
        stands_stays (4096 * start L 0 j) (slot_bytes L j) (4096 * start L 0 k) (4096 * (start L 0 k + (get_or L.rows k no_row).slots)) (payload file (get_or entries j no_entry)) s t (inl (omega (arith, ends))) keeps (before j l)
    at (inr r) = let same : k ≡ j = omega arith in subst (λ (n : ℕ). HoldsThenErased (4096 * start L 0 n) (slot_bytes L n) (payload file (get_or entries n no_entry)) t.now) same here

-- a setting with this layout and these passes
abbrev setting : Layout → (List ℕ → Bool) → Setting
setting L passes = record { layout = L; files = λ _. None; passes = passes }

-- ---- a good bank, and then the records

module _ (passes : List ℕ → Bool) (L : Layout) (v : ℕ) (s t : Told) (fits : IsTrue (fits_layout L)) (room : 32768 ≤ length s.now) (erased : Erased 0 32768 s.now)
    (is_good : verdict_on passes 0 L s.now 0 ≡ Good v) (keeps : Keeps 0 12288 s t) (both : BothHold L (in_version 2 (first_meta L)) t.now) (laid : layout_seen t.now ≡ Ok L) where
  found : (p : List (List ℕ)) × (package_in L s.now 0 ≡ Some p) × IsTrue (leb 0 (version p) && passes (manifest_part p)) × (version p ≡ v)
  found = good (setting L passes) 0 s.now 0 v fits is_good

  abbrev p : List (List ℕ)
  p = found.0

  in_bank : package_in L t.now 0 ≡ Some p
  in_bank = package-same L t.now s.now 0 keeps.size (λ place low high. keeps.now place (inr (omega (arith, low)))) ∙ found.1

  passed : IsTrue (passes (manifest_part p))
  passed = (and_parts (leb 0 (version p)) (passes (manifest_part p)) found.2).1

  shows : seen t.now ≡ Some (first_state L p)
  shows =
      let behind = erased_stays 16384 28672 0 12288 s t (inr (omega arith)) keeps (λ i above below. erased i (omega arith) (omega (arith, below))) in
      shows_first L t.now p in_bank fits (counter_zero t.now (omega (arith, room, keeps.size)) behind) laid both

  pub formatted : NothingDirty t → IsFormatted passes L v t
  formatted clean = record {
    layout = laid;
    replicas = both;
    clean = clean;
    installed = p;
    held = in_bank;
    complete = (shown-are-formed L t.now (first_state L p) laid shows).complete 0 p refl;
    passed = passed;
    version_is = found.3;
    shows = shows;
    sound = λ E is same.
        sound_first E t.now p (laid ∙ ap Ok (sym is)) (subst (λ (l : Layout). seen t.now ≡ Some (first_state l p)) (sym is) shows)
        (subst (λ (f : List ℕ → Bool). IsTrue (f (manifest_part p))) (sym same) passed);
  }

-- ---- a bank that isn't good

pub refused : (passes : List ℕ → Bool) (L : Layout) (found : Verdict) (s t : Told) → t ≡ s → 32768 ≤ length s.now → Erased 0 32768 s.now → verdict_on passes 0 L s.now 0 ≡ found → verdict_may_start found ≡ false → IsRefusedFormat passes L found t.now
refused passes L found s t same room erased is bad = subst (λ (u : Told). IsRefusedFormat passes L found u.now) (sym same) (record {
  blank = unlaid s.now (omega arith) (λ i above below. erased i above (omega arith));
  front = erased;
  found_is = is;
  bad = bad;
})

-- ---- the images

module _ (L : Layout) (file : List ℕ) (toc : Toc) (entries : List Entry) (chosen : AreImages L.rows toc entries) (stored : All (λ e. e.offset + e.size ≤ length file) entries) where
  abbrev images : List (List ℕ)
  images = images_of L.rows file toc

  image-is : (i : ℕ) → i < length L.rows → get_or images i [] ≡ payload file (get_or entries i no_entry)
  unfolding images_of
  image-is i below = get_or-map (λ (r : ImageRow). payload_or file [] (entry_of toc r.guid)) L.rows i no_row [] below ∙ ap (payload_or file []) (chosen.each i below)

  images-length : length images ≡ length L.rows
  unfolding images_of
  images-length = length-map L.rows (λ (r : ImageRow). payload_or file [] (entry_of toc r.guid))

  module _ (image : List ℕ) (room : 4096 * (8 + slot_total L.rows) ≤ length image) (fits : IsTrue (fits_layout L)) (stand : AllStand (length L.rows) L file entries image) where
    slot-is : (i : ℕ) → i < length L.rows → slot L image 0 i ≡ get_or images i [] ++ blank (slot_bytes L i - length (get_or images i []))
    slot-is i below =
        let bytes = payload file (get_or entries i no_entry) in
        let whole = length-payload file (get_or entries i no_entry) (stored i no_entry (omega (arith, below, chosen.count))) in
        let fit = chosen.fit i below in
        let more = slots_more_le L.rows i below in
        let placed = stands_whole (4096 * start L 0 i) (slot_bytes L i) bytes image (omega (arith, more, room)) (omega (arith, whole, fit)) (stand i below) in
        subst (λ (x : List ℕ). slot L image 0 i ≡ x ++ blank (slot_bytes L i - length x)) (sym (image-is i below)) placed

    pub holds_images : HoldsImages L images image
    holds_images = record {
      slots = slot-is;
      held = λ complete.
          package-held L image 0 images (let few = (limits L fits).fewest_images in omega (arith, few)) complete
          (λ i below. ap (take (length (get_or images i []))) (slot-is i (omega (arith, below, images-length))) ∙ take_at (get_or images i []) (blank (slot_bytes L i - length (get_or images i []))) (length (get_or images i [])) refl);
    }

-- complete images that pass aren't refused
pub not_refused : (passes : List ℕ → Bool) (L : Layout) (found : Verdict) (images : List (List ℕ)) (image : List ℕ) → IsTrue (fits_layout L) → IsRefusedFormat passes L found image → HoldsImages L images image → IsTrue (is_complete L.rows images)
    → IsTrue (passes (manifest_part images)) → ⊥
not_refused passes L found images image fits refused holds complete passed =
    let is = permitted (setting L passes) 0 image 0 (version images) fits (images, holds.held complete, and_from (leb 0 (version images)) (passes (manifest_part images)) (le-leb 0 (version images) (omega arith)) passed, refl) in
    let starts : verdict_may_start found ≡ true = ap verdict_may_start (sym refused.found_is ∙ is) in
    let bad = refused.bad in
    absurd cc

-- ---- what a loss leaves is formatted where it has the layout

err_not_ok : {X F : Type 0} (r : Result X F) (x : X) → IsErr r → r ≡ Ok x → ⊥
err_not_ok (Ok y) x err is = cc
err_not_ok (Err e) x err is = cc

fresh-clean : (guard image : List ℕ) → NothingDirty (fresh guard image)
fresh-clean guard image = fresh_dirty (fresh guard image) guard (ap (fresh guard) (sym (now-fresh guard image)))

-- the flash after the power came, beside the one that had nothing dirty
keeps_left : (low high : ℕ) (s t : Told) (image : List ℕ) → NothingDirty s → Keeps low high s t → Leaves t image → Keeps low high s (fresh t.guard image)
keeps_left low high s t image clean keeps leaves = record {
  guard = guard-fresh t.guard image ∙ keeps.guard;
  size = ap length (now-fresh t.guard image) ∙ leaves.size ∙ keeps.size;
  now = λ i out. ap (λ (l : List ℕ). get_or l i 0) (now-fresh t.guard image) ∙ leaves.sure i (keeps.sure i out (quiet_fresh 0 (i + 1) s clean i (omega arith) (omega arith))) ∙ keeps.now i out;
  sure = λ i out sure. quiet_fresh 0 (i + 1) (fresh t.guard image) (fresh-clean t.guard image) i (omega arith) (omega arith);
}

-- no loss leaves a layout
pub whole_before : (passes : List ℕ → Bool) (L : Layout) (t : Told) → ((image : List ℕ) → May t image → IsErr (layout_seen image)) → IsWholeFormat passes L t
whole_before passes L t none image may is = absurd (err_not_ok (layout_seen image) L (none image may) is)

-- bank 0 is good, and since then the records alone were touched
pub whole_after : (passes : List ℕ → Bool) (L : Layout) (v : ℕ) (s t : Told) → IsTrue (fits_layout L) → 32768 ≤ length s.now → Erased 0 32768 s.now → NothingDirty s → verdict_on passes 0 L s.now 0 ≡ Good v → Keeps 0 12288 s t → IsOrdered L t → IsWholeFormat passes L t
whole_after passes L v s t fits room erased clean is_good keeps ordered image may is = from (ordered image may)
  where
    from : IsErr (layout_seen image) ⊎ BothHold L (in_version 2 (first_meta L)) image → (n : ℕ) × IsFormatted passes L n (fresh t.guard image)
    from (inl none) = absurd (err_not_ok (layout_seen image) L none is)
    from (inr both) = (
      v,
      formatted passes L v s (fresh t.guard image) fits room erased is_good (keeps_left 0 12288 s t image clean keeps may.leaves) (subst (BothHold L (in_version 2 (first_meta L))) (sym (now-fresh t.guard image)) both)
          (ap layout_seen (now-fresh t.guard image) ∙ is) (fresh-clean t.guard image),
    )
