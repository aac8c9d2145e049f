-- What is read of a capsule lies in it.
use Rattle.std.proofs.Common.{◌≡◌, ◌∙◌, ◌≤◌, ◌<◌, ◌+◌, ◌&&◌, ◌==◌, ◌∷◌, ℕ, zero, suc, Bool, true, false, cond, not, List, length, get_or, take, drop, map, Option, Some, None, Result, Ok, Err, ap, sym, subst, refl, arith, ltb, ltb-false}
use Rattle.std.proofs.lemmas.Bool.{and_parts, not-false}
use Rattle.std.proofs.lemmas.List.FromFn.{get_or-map-range_with_len, length-map-range_with_len}
use Rattle.std.proofs.lemmas.List.{length-drop, length-take-le}
use Rattle.std.specs.Prelude.{nat_le}
use Rattle.std.specs.List.{All, list_any, range_with_len}
use Rattle.base_core.specs.{Bytes.num_at, Bytes.same_bytes, Guid.nil_guid}
use Rattle.fwu_formats.specs.Package.{Entry, Toc, entry_limit, has_guid}
use Rattle.fwu_formats.specs.Capsule.{Item, Shape, after_headers, capsule_of, entries_in, entry_in, first_some, fmp_guid, has_sizes, is_item, item_at, item_fault, item_place, places_end, shape_in, shape_of, swapped, table_with, unless, usual_serial}
use Rattle.fwu_formats.specs.declared.kinds.CapsuleFault.{CapsuleFault}
use Rattle.fwu_formats.specs.declared.kinds.CapsuleFault.TheVariants as fault
use Rattle.capsule_tables.proofs.ReadAgain.{swapped-length}

unrefused : {X : Type 0} (b : Bool) (f : CapsuleFault) (rest : Result X CapsuleFault) (x : X) → cond b (Err f) rest ≡ Ok x → (b ≡ false) × (rest ≡ Ok x)
unrefused true f rest x e = absurd cc
unrefused false f rest x e = (refl, e)

at-least : (a b : ℕ) → nat_le a b ≡ true → a ≤ b
at-least a b e = grind arith

-- ---- the headers

pub record HasShape (bytes : List ℕ) (s : Shape) : Type 0 where
  pub is : s ≡ shape_in bytes
  pub low : 28 ≤ s.header
  pub places : places_end s ≤ s.end
  pub end : s.end ≤ length bytes

pub shape-has : (bytes : List ℕ) (s : Shape) → shape_of bytes ≡ Ok s → HasShape bytes s
unfolding shape_of
shape-has bytes s e =
    let t = shape_in bytes in
    let one = unrefused (ltb (length bytes) 28) fault.ShortHeader _ s e in
    let two = unrefused (not (same_bytes (take 16 bytes) (swapped fmp_guid))) fault.NotFmp _ s one.1 in
    let three = unrefused (not (has_sizes t (length bytes))) fault.BadSize _ s two.1 in
    let four = unrefused (ltb t.end (t.header + 8)) fault.ShortFmp _ s three.1 in
    let five = unrefused (not (num_at 4 bytes t.header == 1)) fault.BadVersion _ s four.1 in
    let six = unrefused (ltb entry_limit t.items) fault.TooMany _ s five.1 in
    let seven = unrefused (ltb t.end (places_end t)) fault.ShortFmp _ s six.1 in
    let sizes = and_parts (nat_le 28 t.header && nat_le t.header t.end) (nat_le t.end (length bytes)) (not-false (has_sizes t (length bytes)) three.0) in
    let low = and_parts (nat_le 28 t.header) (nat_le t.header t.end) sizes.0 in
    let same : t ≡ s = ok-same t s seven.1 in
    subst (HasShape bytes) same
    (record { is = refl; low = at-least 28 t.header low.0; places = ltb-false t.end (places_end t) seven.0; end = at-least t.end (length bytes) sizes.1 })
  where
    ok-same : (t s : Shape) → ◌≡◌ {A = Result Shape CapsuleFault} (Ok t) (Ok s) → t ≡ s
    ok-same t s e = cc

-- ---- the items

none-each : {X : Type 0} (f : ℕ → Option X) (from n : ℕ) → first_some (map f (range_with_len from n)) ≡ None → (k : ℕ) → k < n → f (from + k) ≡ None
none-each f from zero e k lt = absurd (omega (arith, lt))
none-each {X} f from (suc n) e k lt = go (none-each f (from + 1) n) (f from) refl e k lt
  where
    go : (first_some (map f (range_with_len (from + 1) n)) ≡ None → (k : ℕ) → k < n → f (from + 1 + k) ≡ None) → (o : Option X) → f from ≡ o → first_some (o ∷ map f (range_with_len (from + 1) n)) ≡ None
        → (k : ℕ) → k < suc n → f (from + k) ≡ None
    go more (Some x) is h k lt = absurd cc
    go more None is h zero lt = ap f (let z : from + 0 ≡ from = omega arith in z) ∙ is
    go more None is h (suc k) lt = ap f (let z : from + suc k ≡ from + 1 + k = omega arith in z) ∙ more h k (omega (arith, lt))

-- an item without a fault
module _ (bytes : List ℕ) (s : Shape) (i : ℕ) where
  abbrev at : ℕ
  at = item_place bytes s i

  abbrev item : Item
  item = item_at bytes at

  good : item_fault bytes s i ≡ None → is_item s at item ≡ true
  good e = go (is_item s at item) refl e
    where
      go : (b : Bool) → is_item s at item ≡ b
          → cond (not b) (Some (fault.BadItem i)) (cond (list_any (has_guid item.guid) (entries_in bytes s i)) (Some (fault.Duplicate i)) None) ≡ None → is_item s at item ≡ true
      go true is h = is
      go false is h = absurd cc

  pub record IsInside : Type 0 where
    pub behind : places_end s ≤ at
    pub version : 1 ≤ item.version
    pub ends : item.image + item.size + item.vendor ≤ s.end

  pub inside : item_fault bytes s i ≡ None → IsInside
  inside e =
      let five = and_parts (nat_le (places_end s) at && nat_le 1 item.version && nat_le item.version 3 && not (same_bytes item.guid nil_guid)) (nat_le (item.image + item.size + item.vendor) s.end) (good e) in
      let four = and_parts (nat_le (places_end s) at && nat_le 1 item.version && nat_le item.version 3) (not (same_bytes item.guid nil_guid)) five.0 in
      let three = and_parts (nat_le (places_end s) at && nat_le 1 item.version) (nat_le item.version 3) four.0 in
      let two = and_parts (nat_le (places_end s) at) (nat_le 1 item.version) three.0 in
      record { behind = at-least (places_end s) at two.0; version = at-least 1 item.version two.1; ends = at-least (item.image + item.size + item.vendor) s.end five.1 }

-- ---- the table

-- what a capsule that is read is made of
pub record IsRead (bytes : List ℕ) (toc : Toc) : Type 0 where
  pub shape : Shape
  pub has : HasShape bytes shape
  pub none : (i : ℕ) → i < shape.items → item_fault bytes shape i ≡ None
  pub entries : toc.entries ≡ entries_in bytes shape shape.items
  pub serial : toc.serial ≡ usual_serial
  pub flags : toc.flags ≡ 0

pub is-read : (bytes : List ℕ) (toc : Toc) → capsule_of bytes ≡ Ok toc → IsRead bytes toc
unfolding capsule_of
is-read bytes toc e = by-shape (shape_of bytes) refl e
  where
    by-fault : (s : Shape) (o : Option CapsuleFault) → shape_of bytes ≡ Ok s → first_some (map (item_fault bytes s) (range_with_len 0 s.items)) ≡ o
        → table_with (unless o (entries_in bytes s s.items)) ≡ Ok toc → IsRead bytes toc
    by-fault s (Some f) is first h = absurd cc
    by-fault s None is first h =
        let same : ◌≡◌ {A = Toc} (record { serial = usual_serial; flags = 0; entries = entries_in bytes s s.items }) toc = cc in
        record {
          shape = s;
          has = shape-has bytes s is;
          none = λ i lt. ap (item_fault bytes s) (let z : i ≡ 0 + i = omega arith in z) ∙ none-each (item_fault bytes s) 0 s.items first i lt;
          entries = ap (λ (t : Toc). t.entries) (sym same);
          serial = ap (λ (t : Toc). t.serial) (sym same);
          flags = ap (λ (t : Toc). t.flags) (sym same);
        }

    by-shape : (r : Result Shape CapsuleFault) → shape_of bytes ≡ r → after_headers bytes r ≡ Ok toc → IsRead bytes toc
    by-shape (Err f) is h = absurd cc
    by-shape (Ok s) is h = by-fault s (first_some (map (item_fault bytes s) (range_with_len 0 s.items))) is refl h

entry-at : (bytes : List ℕ) (toc : Toc) (r : IsRead bytes toc) (k : ℕ) (d : Entry) → k < length toc.entries → (k < r.shape.items) × (get_or toc.entries k d ≡ entry_in bytes r.shape k)
entry-at bytes toc r k d lt =
    let few : k < r.shape.items = omega (arith, lt, ap length r.entries, length-map-range_with_len (entry_in bytes r.shape) 0 r.shape.items) in
    (few, ap (λ (es : List Entry). get_or es k d) r.entries ∙ get_or-map-range_with_len (entry_in bytes r.shape) 0 r.shape.items k k d few (omega arith))

-- each image ends within the capsule
pub ends-within : (bytes : List ℕ) (toc : Toc) → capsule_of bytes ≡ Ok toc → All (λ e. e.offset + e.size ≤ length bytes) toc.entries
ends-within bytes toc e = λ k d lt.
    let r = is-read bytes toc e in
    let at = entry-at bytes toc r k d lt in
    let h = inside bytes r.shape k (r.none k at.0) in
    let end = r.has.end in
    let ends = h.ends in
    subst (λ (x : Entry). x.offset + x.size ≤ length bytes) (sym at.1) (omega (arith, ends, end))

-- each type has sixteen bytes
pub types-sixteen : (bytes : List ℕ) (toc : Toc) → capsule_of bytes ≡ Ok toc → All (λ e. length e.guid ≡ 16) toc.entries
types-sixteen bytes toc e = λ k d lt.
    let r = is-read bytes toc e in
    let here = entry-at bytes toc r k d lt in
    let h = inside bytes r.shape k (r.none k here.0) in
    let place = item_place bytes r.shape k in
    let ends = h.ends in
    let version = h.version in
    let end = r.has.end in
    let room : 16 ≤ length (drop (place + 4) bytes) = omega (arith, length-drop (place + 4) bytes, ends, version, end) in
    subst (λ (x : Entry). length x.guid ≡ 16) (sym here.1) (swapped-length (take 16 (drop (place + 4) bytes)) (length-take-le 16 (drop (place + 4) bytes) room))

-- no image has flags
pub no-flags : (bytes : List ℕ) (toc : Toc) → capsule_of bytes ≡ Ok toc → All (λ e. e.flags ≡ 0) toc.entries
no-flags bytes toc e = λ k d lt. ap (λ (x : Entry). x.flags) (entry-at bytes toc (is-read bytes toc e) k d lt).1
