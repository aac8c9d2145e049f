-- What is read has one spelling: the bytes follow from the value.
use Rattle.std.proofs.Common.{◌≡◌, ℕ, zero, suc, ◌+◌, ◌-◌, ◌*◌, ◌/◌, ◌%◌, ◌<◌, ◌≤◌, inl, inr, Bool, false, ◌==◌, IsTrue, ltb, eqb-true, ltb-true, List, [], ◌∷◌, ◌++◌, length, get_or, take, drop, drop-cons, map, replicate, Ok, refl, sym, ap, subst, ◌∙◌, arith, length-drop, zero-add, append-nil, append_assoc}
use Rattle.std.proofs.lemmas.Bool.Decides.{nat_tests}
use Rattle.std.specs.Prelude.{flat_map, nat_lt}
use Rattle.std.specs.List.{list_all, range_with_len}
use Rattle.std.proofs.Math.Nat.{suc-mul}
use Rattle.std.proofs.Math.Seq.{take-add}
use Rattle.std.proofs.lemmas.Bool.{and_parts, and_from}
use Rattle.std.proofs.lemmas.List.{drop-drop, length-take-le, get_or-take, get_or-drop}
use Rattle.std.proofs.lemmas.List.FromFn.{get_or-map-range_with_len, length-map-range_with_len, map-range_with_len_more}
use Rattle.base_core.specs.Bytes.{num, le, num_at, part, same_bytes, listed, are_bytes}
use Rattle.base_core.specs.Crc.{crc}
use Rattle.base_core.proofs.{Spelled.same_is, Lists.piece-within}
use Rattle.fwu_formats.specs.Layout.{Layout, ImageRow, nil_guid, fits_layout, layout_magic, layout_of, layout_at, layout_size, layout_body, layout_bytes, row_bytes, has_zeros}
use Rattle.fwu_formats.specs.Metadata.{Field, Meta, MetaRead, meta_of, meta_bytes, meta_body, meta_size, entry_size, entry_place, entry_bytes, entries_bytes, bit_at, bit_number, bits_from, has_bank_entry, has_entry, has_entries, has_states, has_indices, has_fields, header_fields, is_state_byte, state_byte, state_of_byte, meta_at, fits_v2, BankState}
use Rattle.fwu_formats.specs.Counter.{is_record, record_magic, record_size, record_body, record_bytes, recorded}
use Rattle.fwu_formats.proofs.{SealLaws.layout-holds, SealLaws.meta-holds, SealLaws.limits, Spell.each-range}
pub use Rattle.fwu_formats.proofs.Spell.{all-at}

-- ---- lists

flat-last : {X : Type 0} (f : X → List ℕ) (xs : List X) (x : X) → flat_map f (xs ++ x ∷ []) ≡ flat_map f xs ++ f x
flat-last f [] x = append-nil (f x)
flat-last f (y ∷ xs) x = ap (λ l. f y ++ l) (flat-last f xs x) ∙ sym (append_assoc (f y) (flat_map f xs) (f x))

-- one more piece of a loop that writes the pieces of 0, 1, ..
pub listed-more : (f : ℕ → List ℕ) (i : ℕ) (first before after : List ℕ) → before ≡ first ++ flat_map f (listed i (λ k. k)) → after ≡ before ++ f i → after ≡ first ++ flat_map f (listed (i + 1) (λ k. k))
listed-more f i first before after so next =
    next ∙ ap (λ l. l ++ f i) so ∙ append_assoc first (flat_map f (listed i (λ k. k))) (f i)
    ∙ ap (λ l. first ++ l) (sym (flat-last f (listed i (λ k. k)) i) ∙ ap (flat_map f) (sym (map-range_with_len_more (λ k. k) 0 i i (zero-add i))))

pub map-last : (xs : List BankState) (x : BankState) → map state_byte (xs ++ x ∷ []) ≡ map state_byte xs ++ state_byte x ∷ []
map-last [] x = refl
map-last (y ∷ xs) x = ap (λ l. state_byte y ∷ l) (map-last xs x)

pub all-take : {X : Type 0} (test : X → Bool) (n : ℕ) (xs : List X) → IsTrue (list_all test xs) → IsTrue (list_all test (take n xs))
all-take test zero xs h = refl
all-take test (suc n) [] h = refl
all-take test (suc n) (x ∷ xs) h = let both = and_parts (test x) _ h in and_from _ _ both.0 (all-take test n xs both.1)

all-drop : {X : Type 0} (test : X → Bool) (n : ℕ) (xs : List X) → IsTrue (list_all test xs) → IsTrue (list_all test (drop n xs))
all-drop test zero xs h = h
all-drop test (suc n) [] h = refl
all-drop test (suc n) (x ∷ xs) h = all-drop test n xs (and_parts (test x) _ h).1

-- bytes are the spelling of their number
le-num : (bytes : List ℕ) → IsTrue (are_bytes bytes) → le (length bytes) (num bytes) ≡ bytes
le-num [] h = refl
le-num (b ∷ bytes) h =
    let both = and_parts (ltb b 256) (are_bytes bytes) h in
    let small = ltb-true b 256 both.0 in
    let low : (b + 256 * num bytes) % 256 ≡ b = omega (arith, small) in
    let high : (b + 256 * num bytes) / 256 ≡ num bytes = omega (arith, small) in
    rw (low, high) (ap (λ l. b ∷ l) (le-num bytes both.1))

all-one : (v : ℕ) (bytes : List ℕ) → IsTrue (list_all (λ b. b == v) bytes) → bytes ≡ replicate (length bytes) v
all-one v [] h = refl
all-one v (b ∷ bytes) h = let both = and_parts (b == v) _ h in let first = eqb-true b v both.0 in let rest = all-one v bytes both.1 in cc

small-bit : (v : ℕ) → v < 2 → bit_number (v == 1) ≡ v
small-bit v h = grind (arith, nat_tests)

record IsState (v : ℕ) : Type 0 where
  back : state_byte (state_of_byte v) ≡ v
  small : v < 256

a-state : (v : ℕ) → IsTrue (is_state_byte v) → IsState v
a-state v h = search (arith, nat_tests)

module _ (block : List ℕ) (bytes : IsTrue (are_bytes block)) where
  pub field : (at n : ℕ) → at + n ≤ length block → take n (drop at block) ≡ le n (num_at n block at)
  field at n room =
      let long : length (take n (drop at block)) ≡ n = length-take-le n (drop at block) (omega (arith, length-drop at block, room)) in
      let fit : IsTrue (are_bytes (take n (drop at block))) = all-take (λ b. nat_lt b 256) n (drop at block) (all-drop (λ b. nat_lt b 256) at block bytes) in
      sym (le-num (take n (drop at block)) fit) ∙ ap (λ k. le k (num_at n block at)) long

  -- one piece more, behind those from a place on
  pub next : (from at n : ℕ) (front piece : List ℕ) → take at (drop from block) ≡ front → take n (drop (from + at) block) ≡ piece → take (at + n) (drop from block) ≡ front ++ piece
  next from at n front piece so is =
      take-add at n (drop from block) ∙ ap (λ l. l ++ take n (drop at (drop from block))) so ∙ ap (λ (l : List ℕ). front ++ take n l) (drop-drop at from block) ∙ ap (λ l. front ++ l) is

  pub next-num : (from at n v : ℕ) (front : List ℕ) → from + at + n ≤ length block → take at (drop from block) ≡ front → num_at n block (from + at) ≡ v → take (at + n) (drop from block) ≡ front ++ le n v
  next-num from at n v front room so is = next from at n front (le n v) so (field (from + at) n room ∙ ap (le n) is)

  pub pieces : (f : ℕ → List ℕ) (from size count : ℕ) → ((i : ℕ) → i < count → take size (drop (from + i * size) block) ≡ f i) → take (count * size) (drop from block) ≡ flat_map f (listed count (λ k. k))
  pieces f from size zero h = let none : 0 * size ≡ 0 = omega arith in ap (λ (k : ℕ). take k (drop from block)) none
  pieces f from size (suc n) h =
      let so = pieces f from size n (λ i lt. h i (omega arith)) in
      let more : suc n * size ≡ n * size + size = suc-mul n size ∙ omega arith in
      let all = next from (n * size) size (flat_map f (listed n (λ k. k))) (f n) so (h n (omega arith)) in
      let one : n + 1 ≡ suc n = omega arith in
      ap (λ (k : ℕ). take k (drop from block)) more ∙ listed-more f n [] (flat_map f (listed n (λ k. k))) (take (n * size + size) (drop from block)) refl all ∙ ap (λ (k : ℕ). flat_map f (listed k (λ x. x))) one

  one-at : (at : ℕ) → at < length block → num_at 1 block at ≡ get_or block at 0
  one-at at lt = ap (λ (l : List ℕ). num (take 1 l)) (drop-cons block at 0 lt) ∙ omega arith

  -- bytes that are all one
  filled : (v at n : ℕ) → at + n ≤ length block → IsTrue (list_all (λ b. b == v) (take n (drop at block)))
      → take n (drop at block) ≡ replicate n v
  filled v at n room h =
      all-one v (take n (drop at block)) h
      ∙ ap (λ k. replicate k v) (length-take-le n (drop at block) (omega (arith, length-drop at block, room)))

  -- a body behind its checksum
  sealed : (size : ℕ) (body : List ℕ) → 4 ≤ size → 4 ≤ length block → num_at 4 block 0 ≡ crc (part block 4 size)
      → part block 4 size ≡ body
      → take size block ≡ le 4 (crc body) ++ body
  sealed size body low room sum is =
      let n : size ≡ 4 + (size - 4) = omega (arith, low) in
      ap (λ (k : ℕ). take k block) n ∙ next 0 4 (size - 4) (le 4 (crc body)) body (field 0 4 room ∙ ap (le 4) (sum ∙ ap crc is)) is

  -- ---- the states

  state-at : (banks bank : ℕ) → 24 + banks ≤ length block → IsTrue (list_all is_state_byte (take banks (drop 24 block))) → bank < banks → IsState (num_at 1 block (24 + bank))
  state-at banks bank room h lt =
      let long : length (take banks (drop 24 block)) ≡ banks = length-take-le banks (drop 24 block) (omega (arith, length-drop 24 block, room)) in
      let here : get_or (take banks (drop 24 block)) bank 0 ≡ num_at 1 block (24 + bank) = get_or-take banks (drop 24 block) bank 0 lt ∙ get_or-drop 24 block bank 0 ∙ sym (one-at (24 + bank) (omega (arith, lt, room))) in
      subst IsState here (a-state _ (all-at is_state_byte (take banks (drop 24 block)) bank 0 h (omega (arith, long, lt))))

  states-spelled : (banks n : ℕ) → 24 + banks ≤ length block → IsTrue (list_all is_state_byte (take banks (drop 24 block))) → n ≤ banks
      → take n (drop 24 block) ≡ map state_byte (listed n (λ bank. state_of_byte (num_at 1 block (24 + bank))))
  states-spelled banks zero room h few = refl
  states-spelled banks (suc n) room h few =
      let g : ℕ → BankState = λ bank. state_of_byte (num_at 1 block (24 + bank)) in
      let so = states-spelled banks n room h (omega (arith, few)) in
      let s = state-at banks n room h (omega (arith, few)) in
      let low : num_at 1 block (24 + n) % 256 ≡ num_at 1 block (24 + n) = omega (arith, s.small) in
      let piece : take 1 (drop (24 + n) block) ≡ state_byte (g n) ∷ [] = field (24 + n) 1 (omega (arith, few, room)) ∙ ap (λ (v : ℕ). v ∷ []) (low ∙ sym s.back) in
      let one : suc n ≡ n + 1 = omega arith in
      ap (λ (k : ℕ). take k (drop 24 block)) one ∙ next 24 n 1 (map state_byte (listed n g)) (state_byte (g n) ∷ []) so piece
      ∙ sym (map-last (listed n g) (g n)) ∙ ap (map state_byte) (sym (map-range_with_len_more g 0 n n (zero-add n))) ∙ ap (λ (k : ℕ). map state_byte (listed k g)) (sym one)

  unused-spelled : (banks : ℕ) → banks ≤ 4 → 28 ≤ length block → IsTrue (list_all (λ b. b == 0xFF) (part block (24 + banks) 28)) → take (4 - banks) (drop (24 + banks) block) ≡ replicate (4 - banks) 0xFF
  unused-spelled banks few room h =
      let n : 28 - (24 + banks) ≡ 4 - banks = omega arith in
      filled 0xFF (24 + banks) (4 - banks) (omega (arith, room, few))
      (subst (λ (k : ℕ). IsTrue (list_all (λ b. b == 0xFF) (take k (drop (24 + banks) block)))) n h)

  module _ (L : Layout) (fits : IsTrue (fits_layout L)) (room : meta_size L ≤ length block) where
    abbrev m : Meta
    m = meta_at L block

    abbrev guid_of : ℕ → List ℕ
    guid_of image = (get_or L.rows image (record { guid = nil_guid; slots = 0 })).guid

    abbrev bank_bytes : ℕ → ℕ → List ℕ
    bank_bytes image bank = guid_of image ++ le 4 (bit_number (bit_at m bank image)) ++ le 4 0

    bit-is : (image bank : ℕ) → image < length L.rows → bank < L.banks → bit_at m bank image ≡ (num_at 4 block (entry_place L 0x28 image + 32 + 24 * bank + 16) == 1)
    bit-is image bank lt below =
        ap (λ (l : List Bool). get_or l image false) (get_or-map-range_with_len (bits_from L 0x28 block) 0 L.banks bank bank [] below (omega arith))
        ∙ get_or-map-range_with_len (λ (i : ℕ). num_at 4 block (entry_place L 0x28 i + 32 + 24 * bank + 16) == 1) 0 (length L.rows) image image false lt (omega arith)

    bank-spelled : (image bank : ℕ) → image < length L.rows → bank < L.banks → entry_place L 0x28 image + entry_size L ≤ length block
        → IsTrue (has_bank_entry (guid_of image) block (entry_place L 0x28 image + 32 + 24 * bank)) → take 24 (drop (entry_place L 0x28 image + 32 + 24 * bank) block) ≡ bank_bytes image bank
    bank-spelled image bank lt below inside h =
        let p = entry_place L 0x28 image + 32 + 24 * bank in
        let bit : num_at 4 block (p + 16) ≡ bit_number (bit_at m bank image) =
        sym (small-bit (num_at 4 block (p + 16)) (grind (arith, nat_tests))) ∙ ap bit_number (sym (bit-is image bank lt below)) in
        let typed = same_is (take 16 (drop p block)) (guid_of image) (grind (arith, nat_tests)) in
        next-num p 20 4 0 (guid_of image ++ le 4 (bit_number (bit_at m bank image))) (omega (arith, below, inside))
        (next-num p 16 4 (bit_number (bit_at m bank image)) (guid_of image) (omega (arith, below, inside)) typed bit)
        (grind (arith, nat_tests))

    entry-spelled : (image : ℕ) → image < length L.rows → entry_place L 0x28 image + entry_size L ≤ length block → IsTrue (has_entry L 0x28 block image) → take (entry_size L) (drop (entry_place L 0x28 image) block) ≡ entry_bytes L m image
    entry-spelled image lt inside h =
        let at = entry_place L 0x28 image in
        let test = λ (bank : ℕ). has_bank_entry (guid_of image) block (at + 32 + 24 * bank) in
        let outer = and_parts _ (list_all test (range_with_len 0 L.banks)) h in
        let inner = and_parts (same_bytes (take 16 (drop at block)) (guid_of image)) (same_bytes (take 16 (drop (at + 16) block)) nil_guid) outer.0 in
        let typed = same_is (take 16 (drop at block)) (guid_of image) inner.0 in
        let nowhere = same_is (take 16 (drop (at + 16) block)) nil_guid inner.1 in
        let banked = pieces (bank_bytes image) (at + 32) 24 L.banks (λ bank below.
        ap (λ (k : ℕ). take 24 (drop k block)) (omega arith) ∙ bank-spelled image bank lt below inside
        (each-range test 0 L.banks outer.1 bank (omega arith) (omega (arith, below)))) in
        let size : entry_size L ≡ 32 + L.banks * 24 = omega arith in
        ap (λ (k : ℕ). take k (drop at block)) size ∙ next at 32 (L.banks * 24) (guid_of image ++ nil_guid) (flat_map (bank_bytes image) (listed L.banks (λ bank. bank))) (next at 16 16 (guid_of image) nil_guid typed nowhere) banked

    entries-spelled : IsTrue (has_entries L 0x28 block) → take (length L.rows * entry_size L) (drop 0x28 block) ≡ entries_bytes L m
    entries-spelled h =
        pieces (entry_bytes L m) 0x28 (entry_size L) (length L.rows) (λ image lt.
        entry-spelled image lt (let h = piece-within image (length L.rows) (entry_size L) lt in omega (arith, h, room))
        (each-range (has_entry L 0x28 block) 0 (length L.rows) h image (omega arith) (omega (arith, lt))))

    body-spelled : num_at 4 block 4 ≡ 2 → num_at 4 block 16 ≡ meta_size L → IsTrue (fits_v2 L block) → part block 4 (meta_size L) ≡ meta_body L m
    body-spelled version size h =
        let limit = limits L fits in
        let e = and_parts _ (has_entries L 0x28 block) h in
        let s = and_parts _ (has_states L block) e.0 in
        let i = and_parts (has_fields (header_fields L) block) (has_indices L block) s.0 in
        let none : Field = record { bytes = 0; at = 0; value = 0 } in
        let said = λ (k : ℕ) (lt : k < 8).
        let f = get_or (header_fields L) k none in
        eqb-true (num_at f.bytes block f.at) f.value
        (all-at (λ f. num_at f.bytes block f.at == f.value) (header_fields L) k none i.0 lt) in
        let st = and_parts (list_all is_state_byte (take L.banks (drop 0x18 block))) _ s.1 in
        let few : L.banks ≤ 4 = limit.most_banks in
        let a = next-num 4 0 4 2 [] (omega (arith, room)) refl version in
        let b = next-num 4 4 4 m.active _ (omega (arith, room)) a refl in
        let c = next-num 4 8 4 m.previous _ (omega (arith, room)) b refl in
        let d = next-num 4 12 4 (meta_size L) _ (omega (arith, room)) c size in
        let f = next-num 4 16 2 0x20 _ (omega (arith, room)) d (said 0 (omega arith)) in
        let g = next-num 4 18 2 0 _ (omega (arith, room)) f (said 1 (omega arith)) in
        let states = next 4 20 L.banks _ (map state_byte m.states) g (states-spelled L.banks L.banks (omega (arith, room, few)) st.0 (omega arith)) in
        let place : 4 + (20 + L.banks) ≡ 24 + L.banks = omega arith in
        let erased = next 4 (20 + L.banks) (4 - L.banks) _ (replicate (4 - L.banks) 0xFF) states
        (ap (λ (k : ℕ). take (4 - L.banks) (drop k block)) place ∙ unused-spelled L.banks few (omega (arith, room)) st.1) in
        let whole : 24 ≡ 20 + L.banks + (4 - L.banks) = omega (arith, few) in
        let o =
        next-num 4 24 4 0 _ (omega (arith, room)) (ap (λ (k : ℕ). take k (drop 4 block)) whole ∙ erased) (said 2 (omega arith)) in
        let p = next-num 4 28 1 L.banks _ (omega (arith, room)) o (said 3 (omega arith)) in
        let q = next-num 4 29 1 0 _ (omega (arith, room)) p (said 4 (omega arith)) in
        let r = next-num 4 30 2 (length L.rows) _ (omega (arith, room)) q (said 5 (omega arith)) in
        let u = next-num 4 32 2 (entry_size L) _ (omega (arith, room)) r (said 6 (omega arith)) in
        let v = next-num 4 34 2 24 _ (omega (arith, room)) u (said 7 (omega arith)) in
        let w = next 4 36 (length L.rows * entry_size L) _ (entries_bytes L m) v (entries-spelled e.1) in
        let n : meta_size L - 4 ≡ 36 + length L.rows * entry_size L = omega arith in
        ap (λ (k : ℕ). take k (drop 4 block)) n ∙ w

-- metadata of version 2 has one spelling
pub meta-one-spelling : (L : Layout) (m : Meta) (block : List ℕ) → IsTrue (fits_layout L) → IsTrue (are_bytes block) → meta_of L block ≡ Ok (record { form = 2; meta = m }) → take (meta_size L) block ≡ meta_bytes L m
unfolding meta_bytes
meta-one-spelling L m block fits bytes e =
    let all = meta-holds L block (record { form = 2; meta = m }) e in
    elim all.1 [
      | inl two ↦
          let body = body-spelled block bytes L fits all.0 two.version two.size two.fits in
          sealed block bytes (meta_size L) (meta_body L (meta_at L block)) (omega arith) (omega (arith, all.0)) two.sum body
          ∙ ap (λ (x : MetaRead). meta_bytes L x.meta) two.is
      | inr one ↦ absurd (let forms : 1 ≡ 2 = ap (λ (x : MetaRead). x.form) one.is in omega (arith, forms))
    ]

-- ---- layouts

-- the row that a layout block has at an index
abbrev row_at : List ℕ → ℕ → ImageRow
row_at block i = record { guid = take 16 (drop (32 + 24 * i) block); slots = num_at 4 block (48 + 24 * i) }

pub flat-map : {X Y : Type 0} (f : Y → List ℕ) (g : X → Y) (xs : List X) → flat_map f (map g xs) ≡ flat_map (λ x. f (g x)) xs
flat-map f g [] = refl
flat-map f g (x ∷ xs) = ap (λ l. f (g x) ++ l) (flat-map f g xs)

module _ (block : List ℕ) (bytes : IsTrue (are_bytes block)) (images : ℕ) (few : images ≤ 16) (room : 32 + 24 * images ≤ length block) where
  row-spelled : (i : ℕ) → i < images → num_at 4 block (52 + 24 * i) ≡ 0 → take 24 (drop (32 + i * 24) block) ≡ row_bytes (row_at block i)
  row-spelled i lt zeros =
      let p = 32 + 24 * i in
      let place : 32 + i * 24 ≡ p = omega arith in
      let slots : num_at 4 block (p + 16) ≡ num_at 4 block (48 + 24 * i) = ap (num_at 4 block) (omega arith) in
      let rest : num_at 4 block (p + 20) ≡ 0 = ap (num_at 4 block) (omega arith) ∙ zeros in
      ap (λ (k : ℕ). take 24 (drop k block)) place
      ∙ next-num block bytes p 20 4 0 (take 16 (drop p block) ++ le 4 (num_at 4 block (48 + 24 * i))) (omega (arith, lt, room))
      (next-num block bytes p 16 4 (num_at 4 block (48 + 24 * i)) (take 16 (drop p block)) (omega (arith, lt, room)) refl slots) rest

  rows-spelled : IsTrue (list_all (λ i. num_at 4 block (52 + 24 * i) == 0) (range_with_len 0 images)) → take (images * 24) (drop 32 block) ≡ flat_map row_bytes (listed images (row_at block))
  rows-spelled zeros =
      pieces block bytes (λ i. row_bytes (row_at block i)) 32 24 images (λ i lt.
      row-spelled i lt
      (eqb-true _ 0 (each-range (λ k. num_at 4 block (52 + 24 * k) == 0) 0 images zeros i (omega arith) (omega (arith, lt)))))
      ∙ flat-map (λ i. row_bytes (row_at block i)) (λ (k : ℕ). k) (range_with_len 0 images) ∙ sym (flat-map row_bytes (row_at block) (range_with_len 0 images))

  layout_body-spelled : num_at 4 block 4 ≡ layout_magic → num_at 4 block 12 ≡ images → num_at 4 block 16 ≡ 32 + 24 * images → IsTrue (has_zeros block) → part block 4 (32 + 24 * images) ≡ layout_body (layout_at block)
  layout_body-spelled magic count size zeros =
      let L = layout_at block in
      let z = and_parts (list_all (λ b. b == 0) (part block 20 32)) _ zeros in
      let gap = filled block bytes 0 20 12 (omega (arith, room)) z.0 in
      let rows : length L.rows ≡ images = length-map-range_with_len (row_at block) 0 (num_at 4 block 12) ∙ count in
      let whole : 32 + 24 * images ≡ layout_size L = omega (arith, rows) in
      let a = next-num block bytes 4 0 4 layout_magic [] (omega (arith, room)) refl magic in
      let b = next-num block bytes 4 4 4 L.banks _ (omega (arith, room)) a refl in
      let c = next-num block bytes 4 8 4 (length L.rows) _ (omega (arith, room)) b (count ∙ sym rows) in
      let d = next-num block bytes 4 12 4 (layout_size L) _ (omega (arith, room)) c (size ∙ whole) in
      let e = next block bytes 4 16 12 _ (replicate 12 0) d gap in
      let zero-rows : IsTrue (list_all (λ i. num_at 4 block (52 + 24 * i) == 0) (range_with_len 0 images)) = subst (λ (k : ℕ). IsTrue (list_all (λ i. num_at 4 block (52 + 24 * i) == 0) (range_with_len 0 k))) count z.1 in
      let f = next block bytes 4 28 (images * 24) _ (flat_map row_bytes L.rows) e (rows-spelled zero-rows ∙ ap (λ (k : ℕ). flat_map row_bytes (listed k (row_at block))) (sym count)) in
      let n : 32 + 24 * images - 4 ≡ 28 + images * 24 = omega arith in
      ap (λ (k : ℕ). take k (drop 4 block)) n ∙ f

-- a layout has one spelling
pub layout-one-spelling : (L : Layout) (blocks : ℕ) (block : List ℕ) → IsTrue (are_bytes block) → layout_of block blocks ≡ Ok L → take (layout_size L) block ≡ layout_bytes L
unfolding layout_bytes
layout-one-spelling L blocks block bytes e =
    let r = layout-holds block blocks L e in
    let images = num_at 4 block 12 in
    let size = 32 + 24 * images in
    let room : size ≤ length block = omega (arith, r.size, r.whole) in
    let sum : num_at 4 block 0 ≡ crc (part block 4 size) = r.sum ∙ ap (λ (k : ℕ). crc (part block 4 k)) r.size in
    let whole : layout_size (layout_at block) ≡ size = omega (arith, length-map-range_with_len (row_at block) 0 images) in
    let body = layout_body-spelled block bytes images r.few room r.magic refl r.size r.zeros in
    subst (λ (x : Layout). take (layout_size x) block ≡ layout_bytes x) r.is
    (ap (λ (k : ℕ). take k block) whole
    ∙ sealed block bytes size (layout_body (layout_at block)) (omega arith) (omega (arith, room)) sum body)

-- ---- records of the counter

pub record-one-spelling : (block : List ℕ) → IsTrue (are_bytes block) → IsTrue (is_record block) → take record_size block ≡ record_bytes (recorded block)
unfolding is_record record_bytes
record-one-spelling block bytes is =
    let v = num_at 4 block 8 in
    let zeros : IsTrue (list_all (λ b. b == 0) (part block 20 32)) = grind (arith, nat_tests) in
    let room : 32 ≤ length block = grind (arith, nat_tests) in
    let sum : num_at 4 block 0 ≡ crc (part block 4 32) = grind (arith, nat_tests) in
    let value : recorded block ≡ v = rw is refl in
    let gap = filled block bytes 0 20 12 (omega (arith, room)) zeros in
    let a = next-num block bytes 4 0 4 record_magic [] (omega (arith, room)) refl (grind (arith, nat_tests)) in
    let b = next-num block bytes 4 4 4 v _ (omega (arith, room)) a refl in
    let c = next-num block bytes 4 8 4 0 _ (omega (arith, room)) b (grind (arith, nat_tests)) in
    let d = next-num block bytes 4 12 4 32 _ (omega (arith, room)) c (grind (arith, nat_tests)) in
    let body : take 28 (drop 4 block) ≡ record_body v = next block bytes 4 16 12 _ (replicate 12 0) d gap in
    sealed block bytes 32 (record_body v) (omega arith) (omega (arith, room)) sum body
    ∙ ap (λ (n : ℕ). le 4 (crc (record_body n)) ++ record_body n) (sym value)
