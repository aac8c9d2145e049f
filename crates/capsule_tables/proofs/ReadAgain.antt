-- What is made is read again.
use Rattle.std.proofs.Common.{◌≡◌, ◌∙◌, ◌≤◌, ◌<◌, ◌+◌, ◌*◌, ◌&&◌, ◌==◌, ◌++◌, ◌∷◌, [], ℕ, zero, suc, Bool, true, false, not, inl, inr, List, length, get_or, take, drop, map, replicate, None, Ok, Err, ap, sym, subst, refl, arith, ltb, le-ltb, append_assoc, append-nil, length-append}
use Rattle.std.proofs.lemmas.Bool.{and_from, cases_Bool}
use Rattle.std.proofs.lemmas.List.{get_or-take, get_or_default, length-take}
use Rattle.std.proofs.lemmas.List.Folds.{list_any_at, list_any_none}
use Rattle.std.proofs.lemmas.List.FromFn.{get_or-map-range_with_len, length-map-range_with_len}
use Rattle.std.proofs.Math.Seq.{drop-append_seam}
use Rattle.std.specs.Prelude.{nat_le}
use Rattle.std.specs.List.{list_any, range_with_len}
use Rattle.base_core.specs.{Bytes.le, Bytes.num, Bytes.num_at, Bytes.same_bytes, Guid.nil_guid}
use Rattle.fwu_formats.specs.Package.{Entry, Part, Toc, entry_limit, has_guid, payload}
use Rattle.fwu_formats.specs.Capsule.{Item, Shape, capsule_of, checked, entries_in, entry_in, fmp_guid, has_sizes, is_item, item_at, item_fault, item_place, places_end, shape_in, shape_of, swapped, usual_serial}
use Rattle.fwu_formats.proofs.Spell.{at-place, num-le, num-le4, within}
use Rattle.fip_tables.proofs.{Again.no-repeat, Again.none-at, Again.nil-passes, Again.repeat-passes, Again.same-sym, Steps.skips}
use Rattle.fip_tables.specs.{Frame.AreSixteen, Packing.is_nil, Packing.packed_part_at}
use Rattle.capsule_tables.specs.Making.{IsCapsuleOf, MadeIsRead, capsule_bytes, capsule_size, capsule_front_bytes, headers_bytes, item_bytes, item_head, items_bytes, made_head, make_fault, places_bytes}
use Rattle.fwu_formats.specs.declared.kinds.CapsuleFault.TheVariants as fault
use Rattle.capsule_tables.proofs.Made.{parts-pass, size-passes, few-parts, sizes, sizes-cons}
use Rattle.capsule_tables.proofs.OneByOne.{capsule-is, passes-all}

-- ---- a type turned round twice

pub swapped-twice : (g : List ℕ) → length g ≡ 16 → swapped (swapped g) ≡ g
swapped-twice (a ∷ b ∷ c ∷ d ∷ e ∷ f ∷ g ∷ h ∷ rest) long = refl
swapped-twice g long = absurd (omega (arith, long))

pub swapped-length : (g : List ℕ) → length g ≡ 16 → length (swapped g) ≡ 16
swapped-length (a ∷ b ∷ c ∷ d ∷ e ∷ f ∷ g ∷ h ∷ rest) long = long
swapped-length g long = absurd (omega (arith, long))

-- ---- where the items begin

-- the place of an item, the first at a place
abbrev place_of : ℕ → List Part → ℕ → ℕ
place_of at [] i = at
place_of at (p ∷ ps) zero = at
place_of at (p ∷ ps) (suc i) = place_of (at + made_head + length p.bytes) ps i

-- the bytes of all items
abbrev pub total : List Part → ℕ
total ps = made_head * length ps + sizes ps

place-low : (at : ℕ) (ps : List Part) (i : ℕ) → at ≤ place_of at ps i
place-low at [] i = omega arith
place-low at (p ∷ ps) zero = omega arith
place-low at (p ∷ ps) (suc i) = omega (arith, place-low (at + made_head + length p.bytes) ps i)

place-high : (at : ℕ) (ps : List Part) (i : ℕ) (d : Part) → i < length ps → place_of at ps i + made_head + length (get_or ps i d).bytes ≤ at + total ps
place-high at [] i d lt = absurd (omega (arith, lt))
place-high at (p ∷ ps) zero d lt = omega (arith, sizes-cons p ps)
place-high at (p ∷ ps) (suc i) d lt = omega (arith, sizes-cons p ps, place-high (at + made_head + length p.bytes) ps i d (omega (arith, lt)))

places-length : (at : ℕ) (ps : List Part) → length (places_bytes at ps) ≡ 8 * length ps
places-length at [] = refl
places-length at (p ∷ ps) =
    let more = places_bytes (at + made_head + length p.bytes) ps in
    omega (arith, length-append (le 8 at) more, places-length (at + made_head + length p.bytes) ps)

-- what stands before the items, and the items
pub front-total : (ps : List Part) → length (capsule_front_bytes ps) + total ps ≡ capsule_size ps
front-total ps =
    let headers = headers_bytes (capsule_size ps) (length ps) in
    let places = places_bytes (8 + 8 * length ps) ps in
    let known : length headers ≡ 36 = refl in
    omega (arith, known, length-append headers places, places-length (8 + 8 * length ps) ps)

place-read : (at : ℕ) (ps : List Part) (pre rest : List ℕ) (i : ℕ) → i < length ps → at + total ps < 18446744073709551616
    → num_at 8 (pre ++ (places_bytes at ps ++ rest)) (length pre + 8 * i) ≡ place_of at ps i
place-read at [] pre rest i lt low = absurd (omega (arith, lt))
place-read at (p ∷ ps) pre rest zero lt low =
    let more = places_bytes (at + made_head + length p.bytes) ps in
    ap (λ (xs : List ℕ). num_at 8 (pre ++ xs) (length pre + 8 * 0)) (append_assoc (le 8 at) more rest)
    ∙ ap num (at-place pre (le 8 at) (more ++ rest) (length pre + 8 * 0) 8 (omega arith) refl)
    ∙ num-le 8 at (omega (arith, low))
place-read at (p ∷ ps) pre rest (suc i) lt low =
    let next = at + made_head + length p.bytes in
    let more = places_bytes next ps in
    let at-next : length pre + 8 * suc i ≡ length (pre ++ le 8 at) + 8 * i = omega (arith, length-append pre (le 8 at)) in
    ap (λ (xs : List ℕ). num_at 8 (pre ++ xs) (length pre + 8 * suc i)) (append_assoc (le 8 at) more rest)
    ∙ ap (λ (xs : List ℕ). num_at 8 xs (length pre + 8 * suc i)) (sym (append_assoc pre (le 8 at) (more ++ rest)))
    ∙ ap (num_at 8 ((pre ++ le 8 at) ++ (more ++ rest))) at-next
    ∙ place-read next ps (pre ++ le 8 at) rest i (omega (arith, lt)) (omega (arith, low, sizes-cons p ps))

-- ---- an item

abbrev made_item : ℕ → Part → Item
made_item at p = record { version = 2; guid = p.guid; image = at + made_head; size = length p.bytes; vendor = 0 }

same-item : (at : ℕ) {v w s t x y : ℕ} {g h : List ℕ} → v ≡ w → g ≡ h → s ≡ t → x ≡ y
    → ◌≡◌ {A = Item} (record { version = v; guid = g; image = at + (24 + 8 * v); size = s; vendor = x }) (record { version = w; guid = h; image = at + (24 + 8 * w); size = t; vendor = y })
same-item at a b c d = cc

module _ (index : ℕ) (p : Part) (sixteen : length p.guid ≡ 16) (short : length p.bytes < 4294967296) where
  abbrev head : List ℕ
  head = item_head index p

  abbrev number : List ℕ
  number = index ∷ 0 ∷ 0 ∷ 0 ∷ []

  abbrev size : List ℕ
  size = le 4 (length p.bytes)

  pub head-length : length head ≡ 40
  head-length =
      omega (
        arith,
        swapped-length p.guid sixteen,
        length-append (le 4 2 ++ swapped p.guid ++ number ++ size) (replicate 12 0),
        length-append (le 4 2 ++ swapped p.guid ++ number) size,
        length-append (le 4 2 ++ swapped p.guid) number,
        length-append (le 4 2) (swapped p.guid),
      )

  guid-in : take 16 (drop 4 head) ≡ swapped p.guid
  guid-in =
      ap (λ (xs : List ℕ). take 16 (drop 4 xs)) (append_assoc (le 4 2 ++ swapped p.guid ++ number) size (replicate 12 0) ∙ append_assoc (le 4 2 ++ swapped p.guid) number (size ++ replicate 12 0)
      ∙ append_assoc (le 4 2) (swapped p.guid) (number ++ (size ++ replicate 12 0)))
      ∙ at-place (le 4 2) (swapped p.guid) (number ++ (size ++ replicate 12 0)) 4 16 refl (swapped-length p.guid sixteen)

  size-in : take 4 (drop 24 head) ≡ size
  size-in =
      ap (λ (xs : List ℕ). take 4 (drop 24 xs)) (append_assoc (le 4 2 ++ swapped p.guid ++ number) size (replicate 12 0))
      ∙ at-place (le 4 2 ++ swapped p.guid ++ number) size (replicate 12 0) 24 4
      (omega (arith, swapped-length p.guid sixteen, length-append (le 4 2 ++ swapped p.guid) number, length-append (le 4 2) (swapped p.guid))) refl

  vendor-in : take 4 (drop 28 head) ≡ replicate 4 0
  vendor-in =
      at-place (le 4 2 ++ swapped p.guid ++ number ++ size) (replicate 4 0) (replicate 8 0) 28 4
      (omega (arith, swapped-length p.guid sixteen, length-append (le 4 2 ++ swapped p.guid ++ number) size, length-append (le 4 2 ++ swapped p.guid) number, length-append (le 4 2) (swapped p.guid))) refl

  module _ (pre tail : List ℕ) (at : ℕ) (is : length pre ≡ at) where
    abbrev whole : List ℕ
    whole = pre ++ (item_bytes index p ++ tail)

    here : drop at whole ≡ head ++ (p.bytes ++ tail)
    here = ap (λ (n : ℕ). drop n whole) (sym is) ∙ drop-append_seam pre (item_bytes index p ++ tail) ∙ append_assoc head p.bytes tail

    -- what stands in the head, from a place of it on
    inside : (k n : ℕ) → k + n ≤ 40 → take n (drop (at + k) whole) ≡ take n (drop k head)
    inside k n fits = within whole head (p.bytes ++ tail) at k n here (omega (arith, fits, head-length))

    version-is : num_at 4 whole at ≡ 2
    version-is =
        let z : at ≡ at + 0 = omega arith in
        ap (num_at 4 whole) z ∙ ap num (inside 0 4 (omega arith))

    pub item-read : item_at whole at ≡ made_item at p
    item-read =
        same-item at version-is (ap swapped (inside 4 16 (omega arith) ∙ guid-in) ∙ swapped-twice p.guid sixteen)
        (ap num (inside 24 4 (omega arith) ∙ size-in) ∙ num-le4 (length p.bytes) short)
        (ap num (inside 28 4 (omega arith) ∙ vendor-in))

    pub image-read : take (length p.bytes) (drop (at + made_head) whole) ≡ p.bytes
    image-read =
        ap (λ (xs : List ℕ). take (length p.bytes) (drop (at + made_head) xs)) (ap (λ (xs : List ℕ). pre ++ xs) (append_assoc head p.bytes tail) ∙ sym (append_assoc pre head (p.bytes ++ tail)))
        ∙ at-place (pre ++ head) p.bytes tail (at + made_head) (length p.bytes) (omega (arith, length-append pre head, head-length, is)) refl

-- ---- all items

-- an item of these parts, and its image
record ReadsAs (bytes : List ℕ) (at : ℕ) (p : Part) : Type 0 where
  item : item_at bytes at ≡ made_item at p
  image : take (length p.bytes) (drop (at + made_head) bytes) ≡ p.bytes

items-read : (index at : ℕ) (ps : List Part) (pre rest : List ℕ) (i : ℕ) (d : Part) → i < length ps → AreSixteen ps → sizes ps < 4294967296 → length pre ≡ 28 + at
    → ReadsAs (pre ++ (items_bytes index ps ++ rest)) (28 + place_of at ps i) (get_or ps i d)
items-read index at [] pre rest i d lt types low is = absurd (omega (arith, lt))
items-read index at (p ∷ ps) pre rest zero d lt types low is =
    let more = items_bytes (index + 1) ps in
    let short : length p.bytes < 4294967296 = omega (arith, low, sizes-cons p ps) in
    subst (λ (xs : List ℕ). ReadsAs (pre ++ xs) (28 + at) p) (sym (append_assoc (item_bytes index p) more rest))
    (record { item = item-read index p types.0 short pre (more ++ rest) (28 + at) is; image = image-read index p types.0 short pre (more ++ rest) (28 + at) is })
items-read index at (p ∷ ps) pre rest (suc i) d lt types low is =
    let more = items_bytes (index + 1) ps in
    let short : length p.bytes < 4294967296 = omega (arith, low, sizes-cons p ps) in
    let one = item_bytes index p in
    let same : pre ++ ((one ++ more) ++ rest) ≡ (pre ++ one) ++ (more ++ rest) = ap (λ (xs : List ℕ). pre ++ xs) (append_assoc one more rest) ∙ sym (append_assoc pre one (more ++ rest)) in
    let long : length (pre ++ one) ≡ 28 + (at + made_head + length p.bytes) =
    omega (arith, length-append pre one, length-append (item_head index p) p.bytes, head-length index p types.0 short, is) in
    subst (λ (xs : List ℕ). ReadsAs xs (28 + place_of (at + made_head + length p.bytes) ps i) (get_or ps i d)) (sym same)
    (items-read (index + 1) (at + made_head + length p.bytes) ps (pre ++ one) rest i d (omega (arith, lt)) types.1 (omega (arith, low, sizes-cons p ps)) long)

pub items-length : (index : ℕ) (ps : List Part) → AreSixteen ps → sizes ps < 4294967296 → length (items_bytes index ps) ≡ total ps
items-length index [] types low = refl
items-length index (p ∷ ps) types low =
    let short : length p.bytes < 4294967296 = omega (arith, low, sizes-cons p ps) in
    let more = items_bytes (index + 1) ps in
    omega (arith, length-append (item_bytes index p) more, length-append (item_head index p) p.bytes, head-length index p types.0 short, sizes-cons p ps, items-length (index + 1) ps types.1 (omega (arith, low, sizes-cons p ps)))

-- ---- lists by their places

listed-as : {X Y Z : Type 0} (f : ℕ → Y) (e : Y → Z) (g : X → Z) (xs : List X) (from : ℕ) → ((k : ℕ) (d : X) → k < length xs → e (f (from + k)) ≡ g (get_or xs k d))
    → map e (map f (range_with_len from (length xs))) ≡ map g xs
listed-as f g h [] from same = refl
listed-as {X} {Y} {Z} f e g (x ∷ xs) from same =
    let first : e (f from) ≡ g x = ap (λ (n : ℕ). e (f n)) (let z : from ≡ from + 0 = omega arith in z) ∙ same 0 x (omega arith) in
    let rest = listed-as f e g xs (from + 1) (λ k d lt. ap (λ (n : ℕ). e (f n)) (let z : from + 1 + k ≡ from + suc k = omega arith in z) ∙ same (suc k) d (omega (arith, lt))) in
    ap (λ (z : Z). z ∷ map e (map f (range_with_len (from + 1) (length xs)))) first ∙ ap (λ (zs : List Z). g x ∷ zs) rest

fails-at : {X : Type 0} (p : X → Bool) (xs : List X) → list_any p xs ≡ false → (k : ℕ) (d : X) → k < length xs → p (get_or xs k d) ≡ false
fails-at p xs none k d lt =
    elim (cases_Bool (p (get_or xs k d))) [
      | inl is ↦ absurd (let e : list_any p xs ≡ true = list_any_at p xs k d lt is in cc)
      | inr other ↦ other
    ]

-- ---- the whole capsule

module _ (parts : List Part) (fits : make_fault parts ≡ None) (types : AreSixteen parts) where
  abbrev n : ℕ
  n = length parts

  abbrev end : ℕ
  end = capsule_size parts

  abbrev headers : List ℕ
  headers = headers_bytes end n

  abbrev places : List ℕ
  places = places_bytes (8 + 8 * n) parts

  abbrev items : List ℕ
  items = items_bytes 1 parts

  abbrev bytes : List ℕ
  bytes = (headers ++ places) ++ items

  few : n ≤ 64
  few = few-parts parts fits

  small : end ≤ 67108864
  small = size-passes parts fits

  abbrev no_part : Part
  no_part = record { guid = []; flags = 0; bytes = [] }

  headers-length : length headers ≡ 36
  headers-length = refl

  front-length : length (headers ++ places) ≡ 28 + (8 + 8 * n)
  front-length = omega (arith, length-append headers places, headers-length, places-length (8 + 8 * n) parts)

  bytes-length : length bytes ≡ end
  bytes-length = omega (arith, length-append (headers ++ places) items, front-length, items-length 1 parts types (omega (arith, small)))

  -- ---- the headers

  abbrev shape : Shape
  shape = record { header = 28; end = end; drivers = 0; items = n }

  end-in : num_at 4 bytes 24 ≡ end
  end-in = num-le4 end (omega (arith, small))

  items-in : num_at 2 bytes 34 ≡ n
  items-in = num-le 2 n (omega (arith, few))

  shape-in : shape_in bytes ≡ shape
  shape-in =
      ap (λ (m : ℕ). let s : Shape = record { header = 28; end = m; drivers = 0; items = num_at 2 bytes 34 } in s) end-in
      ∙ ap (λ (m : ℕ). let s : Shape = record { header = 28; end = end; drivers = 0; items = m } in s) items-in

  room : places_end shape ≤ end
  room = omega (arith, bytes-length, length-append (headers ++ places) items, front-length)

  sizes-fit : has_sizes shape (length bytes) ≡ true
  sizes-fit =
      and_from (nat_le 28 28 && nat_le 28 end) (nat_le end (length bytes)) (and_from (nat_le 28 28) (nat_le 28 end) refl (let e : nat_le 28 end ≡ true = grind (arith, room) in e))
      (let e : nat_le end (length bytes) ≡ true = grind (arith, bytes-length) in e)

  shape-read : shape_of bytes ≡ Ok shape
  unfolding shape_of
  shape-read =
      ap (checked bytes) shape-in
      ∙ skips (ltb (length bytes) 28) (Err fault.ShortHeader) _ _ (le-ltb (length bytes) 28 (omega (arith, bytes-length, room)))
      (skips (not (same_bytes (take 16 bytes) (swapped fmp_guid))) (Err fault.NotFmp) _ _ refl
      (skips (not (has_sizes shape (length bytes))) (Err fault.BadSize) _ _ (ap not sizes-fit)
      (skips (ltb end 36) (Err fault.ShortFmp) _ _ (le-ltb end 36 (omega (arith, room)))
      (skips (not (num_at 4 bytes 28 == 1)) (Err fault.BadVersion) _ _ refl
      (skips (ltb entry_limit n) (Err fault.TooMany) _ _ (le-ltb entry_limit n few)
      (skips (ltb end (places_end shape)) (Err fault.ShortFmp) _ _ (le-ltb end (places_end shape) room) refl))))))

  -- ---- the items

  abbrev at : ℕ → ℕ
  at i = 28 + place_of (8 + 8 * n) parts i

  abbrev guid : ℕ → List ℕ
  guid i = (packed_part_at parts i).guid

  place-is : (i : ℕ) → i < n → item_place bytes shape i ≡ at i
  place-is i lt =
      let there : 28 + 8 + 8 * (0 + i) ≡ length headers + 8 * i = omega (arith, headers-length) in
      ap (λ (m : ℕ). 28 + num_at 8 bytes m) there
      ∙ ap (λ (xs : List ℕ). 28 + num_at 8 xs (length headers + 8 * i)) (append_assoc headers places items)
      ∙ ap (λ (m : ℕ). 28 + m) (place-read (8 + 8 * n) parts headers items i lt (omega (arith, small)))

  reads : (i : ℕ) → i < n → ReadsAs bytes (at i) (packed_part_at parts i)
  reads i lt =
      subst (λ (xs : List ℕ). ReadsAs ((headers ++ places) ++ xs) (at i) (packed_part_at parts i)) (append-nil items)
      (items-read 1 (8 + 8 * n) parts (headers ++ places) [] i no_part lt types (omega (arith, small)) front-length)

  item-is : (i : ℕ) → i < n → item_at bytes (item_place bytes shape i) ≡ made_item (at i) (packed_part_at parts i)
  item-is i lt = ap (item_at bytes) (place-is i lt) ∙ (reads i lt).item

  ends : (i : ℕ) → i < n → at i + made_head + length (packed_part_at parts i).bytes ≤ end
  ends i lt = omega (arith, place-high (8 + 8 * n) parts i no_part lt)

  good : (i : ℕ) → i < n → is_item shape (item_place bytes shape i) (item_at bytes (item_place bytes shape i)) ≡ true
  good i lt =
      let p = packed_part_at parts i in
      let some : not (same_bytes p.guid nil_guid) ≡ true = ap not (none-at is_nil parts (nil-passes parts (parts-pass parts fits)) i no_part lt) in
      ap (λ (x : Item). is_item shape (item_place bytes shape i) x) (item-is i lt)
      ∙ ap (λ (m : ℕ). is_item shape m (made_item (at i) p)) (place-is i lt)
      ∙ and_from (nat_le (places_end shape) (at i) && nat_le 1 2 && nat_le 2 3 && not (same_bytes p.guid nil_guid)) (nat_le (at i + made_head + length p.bytes + 0) end)
      (and_from (nat_le (places_end shape) (at i) && nat_le 1 2 && nat_le 2 3) (not (same_bytes p.guid nil_guid))
      (and_from (nat_le (places_end shape) (at i) && nat_le 1 2) (nat_le 2 3)
      (and_from (nat_le (places_end shape) (at i)) (nat_le 1 2) (let low = place-low (8 + 8 * n) parts i in let e : nat_le (places_end shape) (at i) ≡ true = grind (arith, low) in e) refl) refl) some)
      (let high = ends i lt in let e : nat_le (at i + made_head + length p.bytes + 0) end ≡ true = grind (arith, high) in e)

  type-is : (i : ℕ) → i < n → (entry_in bytes shape i).guid ≡ guid i
  type-is i lt = ap (λ (x : Item). x.guid) (item-is i lt)

  -- no earlier item has its type
  apart : (i : ℕ) → i < n → list_any (has_guid (item_at bytes (item_place bytes shape i)).guid) (entries_in bytes shape i) ≡ false
  apart i lt =
      let repeats = no-repeat parts (repeat-passes parts (parts-pass parts fits)) i lt in
      list_any_none (has_guid (item_at bytes (item_place bytes shape i)).guid) (entries_in bytes shape i) (λ k d below.
      let earlier : k < i = omega (arith, below, length-map-range_with_len (entry_in bytes shape) 0 i) in
      let low : k < length (take i parts) = omega (arith, earlier, lt, length-take i parts) in
      let one : (get_or (entries_in bytes shape i) k d).guid ≡ guid k =
      ap (λ (e : Entry). e.guid) (get_or-map-range_with_len (entry_in bytes shape) 0 i k k d earlier (omega arith)) ∙ type-is k (omega (arith, earlier, lt)) in
      let other : same_bytes (guid i) (guid k) ≡ false =
      ap (λ (p : Part). same_bytes (guid i) p.guid) (sym (get_or-take i parts k no_part earlier))
      ∙ fails-at (λ (p : Part). same_bytes (guid i) p.guid) (take i parts) repeats k no_part low in
      ap (λ (g : List ℕ). same_bytes (get_or (entries_in bytes shape i) k d).guid g) (type-is i lt)
      ∙ ap (λ (g : List ℕ). same_bytes g (guid i)) one ∙ same-sym (guid k) (guid i) ∙ other)

  passes : (i : ℕ) → i < n → item_fault bytes shape i ≡ None
  passes i lt = let one = good i lt in let two = apart i lt in rw (one, two) refl

  -- ---- the table

  abbrev toc : Toc
  toc = record { serial = usual_serial; flags = 0; entries = entries_in bytes shape n }

  toc-read : capsule_of bytes ≡ Ok toc
  toc-read = capsule-is bytes shape (entries_in bytes shape n) shape-read (passes-all bytes shape passes)

  entry-is : (i : ℕ) → i < n → entry_in bytes shape i ≡ record { guid = guid i; offset = at i + made_head; size = length (packed_part_at parts i).bytes; flags = 0 }
  entry-is i lt = ap (λ (x : Item). let e : Entry = record { guid = x.guid; offset = x.image; size = x.size; flags = 0 } in e) (item-is i lt)

  payload-is : (i : ℕ) → i < n → payload bytes (entry_in bytes shape i) ≡ (packed_part_at parts i).bytes
  payload-is i lt = ap (payload bytes) (entry-is i lt) ∙ (reads i lt).image

  -- the part at a place, whatever stands for one that is not there
  at-place-is : {X : Type 0} (g : Part → X) (k : ℕ) (d : Part) → k < n → g (packed_part_at parts k) ≡ g (get_or parts k d)
  at-place-is g k d lt = ap g (get_or_default parts k no_part d lt)

  made : IsCapsuleOf parts bytes
  made = record {
    toc = toc;
    read = toc-read;
    types = listed-as (entry_in bytes shape) (λ (e : Entry). e.guid) (λ (p : Part). p.guid) parts 0 (λ k d lt.
        ap (λ (i : ℕ). (entry_in bytes shape i).guid) (let z : 0 + k ≡ k = omega arith in z) ∙ type-is k lt ∙ at-place-is (λ (p : Part). p.guid) k d lt);
    payloads = listed-as (entry_in bytes shape) (payload bytes) (λ (p : Part). p.bytes) parts 0 (λ k d lt.
        ap (λ (i : ℕ). payload bytes (entry_in bytes shape i)) (let z : 0 + k ≡ k = omega arith in z) ∙ payload-is k lt ∙ at-place-is (λ (p : Part). p.bytes) k d lt);
  }

pub made-is-read : MadeIsRead
unfolding capsule_bytes
made-is-read parts fits types = made parts fits types
