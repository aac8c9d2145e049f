-- The items, read one by one.
use Rattle.std.proofs.Common.{◌≡◌, ◌∙◌, ◌≤◌, ◌<◌, ◌+◌, ◌*◌, ◌++◌, ◌∷◌, [], ℕ, zero, suc, Bool, true, false, cond, not, List, length, take, drop, map, ap, sym, subst, refl, arith, Option, Some, None, Ok, Err, IsTrue, length-append, ◌⊎◌, inl, inr, ltb, ltb-true, ltb-false}
use Rattle.std.proofs.lemmas.Bool.{and_from, and_parts, or_parts, or_from}
use Rattle.std.proofs.lemmas.List.Elements.{All-push}
use Rattle.std.proofs.lemmas.List.FromFn.{map-range_with_len_more}
use Rattle.std.specs.List.{All, list_any, range_with_len}
use Rattle.base_core.specs.Bytes.{num_at, same_bytes}
use Rattle.host_io.specs.{Reads.ReadsFile, declared.files.Files.Ghosts}
use Rattle.fwu_formats.specs.{Layout.are_distinct, Package.Entry, Package.has_guid, declared.kinds.CapsuleFault.CapsuleFault}
use Rattle.fwu_formats.specs.Capsule.{Shape, after_headers, capsule_of, shape_of, table_with, usual_serial, entries_in, entry_in, first_some, is_item, item_at, item_fault, item_place, items_of}
use Rattle.fip_tables.specs.Files.{Tells}
use Rattle.fip_tables.proofs.Told.{part_of}
use Rattle.capsule_tables.specs.{Answers.AreEntries, Ranges.IsRead, Ranges.good_entry, Ranges.item_read}
use Rattle.fwu_formats.specs.declared.kinds.CapsuleFault.TheVariants as fault
use Rattle.capsule_tables.proofs.Headers.{num_in}

-- ---- one item

pub item-by-range : (bytes : List ℕ) (s : Shape) (i : ℕ) → item_read s (item_place bytes s i) (take 32 (drop (item_place bytes s i) bytes)) ≡ good_entry bytes s i
item-by-range bytes s i =
    let at = item_place bytes s i in
    let z : at + 0 ≡ at = omega arith in
    let version = num_in bytes at 32 0 4 (omega arith) ∙ ap (num_at 4 bytes) z in
    let guid = part_of bytes at 32 4 16 (omega arith) in
    let size = num_in bytes at 32 24 4 (omega arith) in
    let vendor = num_in bytes at 32 28 4 (omega arith) in
    rw (version, guid, size, vendor) refl

-- what a place's eight bytes say
pub place-by-range : (bytes : List ℕ) (s : Shape) (i : ℕ) → s.header + num_at 8 (take 8 (drop (s.header + 8 + 8 * (s.drivers + i)) bytes)) 0 ≡ item_place bytes s i
place-by-range bytes s i =
    let p = s.header + 8 + 8 * (s.drivers + i) in
    let z : p + 0 ≡ p = omega arith in
    ap (λ (n : ℕ). s.header + n) (num_in bytes p 8 0 8 (omega arith) ∙ ap (num_at 8 bytes) z)

good-some : (b : Bool) (e x : Entry) → (if_b : cond b (Some e) None ≡ Some x) → (b ≡ true) × (e ≡ x)
good-some true e x h = let same : e ≡ x = cc in (refl, same)
good-some false e x h = absurd cc

good-none : (b : Bool) (e : Entry) → cond b (Some e) None ≡ None → b ≡ false
good-none true e h = absurd cc
good-none false e h = refl

module _ (bytes : List ℕ) (s : Shape) (i : ℕ) where
  abbrev at : ℕ
  at = item_place bytes s i

  pub bad : good_entry bytes s i ≡ None → item_fault bytes s i ≡ Some (fault.BadItem i)
  bad h = let b = good-none (is_item s at (item_at bytes at)) (entry_in bytes s i) h in rw b refl

  pub repeated : (e : Entry) → good_entry bytes s i ≡ Some e → list_any (has_guid e.guid) (entries_in bytes s i) ≡ true → item_fault bytes s i ≡ Some (fault.Duplicate i)
  repeated e h any =
      let p = good-some (is_item s at (item_at bytes at)) (entry_in bytes s i) e h in
      let here : list_any (has_guid (entry_in bytes s i).guid) (entries_in bytes s i) ≡ true = subst (λ (x : Entry). list_any (has_guid x.guid) (entries_in bytes s i) ≡ true) (sym p.1) any in
      rw (p.0, here) refl

  pub fine : (e : Entry) → good_entry bytes s i ≡ Some e → list_any (has_guid e.guid) (entries_in bytes s i) ≡ false → item_fault bytes s i ≡ None
  fine e h none =
      let p = good-some (is_item s at (item_at bytes at)) (entry_in bytes s i) e h in
      let here : list_any (has_guid (entry_in bytes s i).guid) (entries_in bytes s i) ≡ false = subst (λ (x : Entry). list_any (has_guid x.guid) (entries_in bytes s i) ≡ false) (sym p.1) none in
      rw (p.0, here) refl

  pub entry-is : (e : Entry) → good_entry bytes s i ≡ Some e → entry_in bytes s i ≡ e
  entry-is e h = (good-some (is_item s at (item_at bytes at)) (entry_in bytes s i) e h).1

-- ---- the first fault

split : (a b : ℕ) → a ≤ b → (a < b) ⊎ (a ≡ b)
split a b le = go (ltb a b) refl
  where
    go : (t : Bool) → ltb a b ≡ t → (a < b) ⊎ (a ≡ b)
    go true e = inl (ltb-true a b e)
    go false e = inr (let ge = ltb-false a b e in omega (arith, le, ge))

first-step : {X : Type 0} (f : ℕ → Option X) (from n i : ℕ) (x : X) (o : Option X) → f from ≡ o → from ≤ i → ((k : ℕ) → from ≤ k → k < i → f k ≡ None) → f i ≡ Some x
    → (from < i → first_some (map f (range_with_len (from + 1) n)) ≡ Some x) → first_some (o ∷ map f (range_with_len (from + 1) n)) ≡ Some x
first-step f from n i x None e low none here more =
    more (elim (split from i low) [
      | inl lt ↦ lt
      | inr same ↦ absurd (let r : None ≡ Some x = sym e ∙ ap f same ∙ here in cc)
    ])
first-step f from n i x (Some y) e low none here more =
    elim (split from i low) [
      | inl lt ↦ absurd (let r : Some y ≡ None = sym e ∙ none from (omega arith) lt in cc)
      | inr same ↦ sym e ∙ ap f same ∙ here
    ]

first-at : {X : Type 0} (f : ℕ → Option X) (from n i : ℕ) (x : X) → from ≤ i → i < from + n → ((k : ℕ) → from ≤ k → k < i → f k ≡ None) → f i ≡ Some x → first_some (map f (range_with_len from n)) ≡ Some x
first-at f from zero i x low high none here = absurd (omega (arith, low, high))
first-at f from (suc n) i x low high none here =
    first-step f from n i x (f from) refl low none here
    (λ lt. first-at f (from + 1) n i x (omega (arith, lt)) (omega (arith, high)) (λ k a b. none k (omega (arith, a)) b) here)

pub first-none : {X : Type 0} (f : ℕ → Option X) (from n : ℕ) → ((k : ℕ) → from ≤ k → k < from + n → f k ≡ None) → first_some (map f (range_with_len from n)) ≡ None
first-none f from zero none = refl
first-none {X} f from (suc n) none =
    ap (λ (o : Option X). first_some (o ∷ map f (range_with_len (from + 1) n))) (none from (omega arith) (omega arith))
    ∙ first-none f (from + 1) n (λ k a b. none k (omega (arith, a)) (omega (arith, b)))

pub stops-at : (bytes : List ℕ) (s : Shape) (i : ℕ) (f : CapsuleFault) → i < s.items → ((k : ℕ) → k < i → item_fault bytes s k ≡ None) → item_fault bytes s i ≡ Some f → items_of bytes s ≡ Err f
stops-at bytes s i f lt none here = rw (first-at (item_fault bytes s) 0 s.items i f (omega arith) (omega (arith, lt)) (λ k _ b. none k b) here) refl

pub passes-all : (bytes : List ℕ) (s : Shape) → ((k : ℕ) → k < s.items → item_fault bytes s k ≡ None) → items_of bytes s ≡ Ok (entries_in bytes s s.items)
passes-all bytes s none = rw (first-none (item_fault bytes s) 0 s.items (λ k _ b. none k (omega (arith, b)))) refl

-- ---- one more entry

pub one-more : (bytes : List ℕ) (s : Shape) (i : ℕ) → entries_in bytes s (i + 1) ≡ entries_in bytes s i ++ entry_in bytes s i ∷ []
one-more bytes s i = map-range_with_len_more (entry_in bytes s) 0 i i (omega arith)

any-more : (g : List ℕ) (es : List Entry) (e : Entry) → list_any (same_bytes g) (map (λ x. x.guid) es) ≡ false → same_bytes g e.guid ≡ false → list_any (same_bytes g) (map (λ x. x.guid) (es ++ e ∷ [])) ≡ false
any-more g [] e h q = or_from (same_bytes g e.guid) false q refl
any-more g (x ∷ es) e h q =
    let both = or_parts (same_bytes g x.guid) (list_any (same_bytes g) (map (λ y. y.guid) es)) h in
    or_from (same_bytes g x.guid) (list_any (same_bytes g) (map (λ y. y.guid) (es ++ e ∷ []))) both.0 (any-more g es e both.1 q)

not-false : (b : Bool) → IsTrue (not b) → b ≡ false
not-false true h = absurd cc
not-false false h = refl

pub distinct-more : (es : List Entry) (e : Entry) → IsTrue (are_distinct (map (λ x. x.guid) es)) → list_any (has_guid e.guid) es ≡ false → IsTrue (are_distinct (map (λ x. x.guid) (es ++ e ∷ [])))
distinct-more [] e h none = refl
distinct-more (x ∷ es) e h none =
    let both = and_parts (not (list_any (same_bytes x.guid) (map (λ y. y.guid) es))) (are_distinct (map (λ y. y.guid) es)) h in
    let two = or_parts (same_bytes x.guid e.guid) (list_any (has_guid e.guid) es) none in
    and_from (not (list_any (same_bytes x.guid) (map (λ y. y.guid) (es ++ e ∷ [])))) (are_distinct (map (λ y. y.guid) (es ++ e ∷ [])))
    (ap not (any-more x.guid es e (not-false _ both.0) two.0)) (distinct-more es e both.1 two.1)

pub entries-more : (es : List Entry) (e : Entry) (end : ℕ) → length es < 64 → AreEntries es end → e.offset + e.size ≤ end → list_any (has_guid e.guid) es ≡ false → AreEntries (es ++ e ∷ []) end
entries-more es e end few all inside none = record {
  few = omega (arith, few, length-append es (e ∷ []));
  inside = All-push (λ x. x.offset + x.size ≤ end) es e all.inside inside;
  distinct = distinct-more es e all.distinct none;
}

pub none-yet : (end : ℕ) → AreEntries [] end
none-yet end = record { few = omega arith; inside = λ k d lt. absurd (omega (arith, lt)); distinct = refl }

-- so many items are read
pub record HasItems {H : Type 0} (g : Ghosts H) (name : List ℕ) (old now : H) (entries : List Entry) (s : Shape) (i : ℕ) : Type 0 where
  pub reads : ReadsFile g name old now
  pub quiet : g.faults now ≡ g.faults old
  pub count : length entries ≡ i
  pub some : All (IsRead s) entries
  pub any : AreEntries entries s.end
  pub entries_are : (bytes : List ℕ) → Tells (g.contents old) name bytes → entries ≡ entries_in bytes s i
  pub fine_so_far : (bytes : List ℕ) → Tells (g.contents old) name bytes → (k : ℕ) → k < i → item_fault bytes s k ≡ None

pub further : (bytes : List ℕ) (s : Shape) (i : ℕ) → ((k : ℕ) → k < i → item_fault bytes s k ≡ None) → item_fault bytes s i ≡ None → (k : ℕ) → k < i + 1 → item_fault bytes s k ≡ None
further bytes s i before here k lt =
    elim (split k i (omega (arith, lt))) [
      | inl less ↦ before k less
      | inr same ↦ ap (item_fault bytes s) same ∙ here
    ]

-- ---- the whole capsule

pub headers-fault : (bytes : List ℕ) (f : CapsuleFault) → shape_of bytes ≡ Err f → capsule_of bytes ≡ Err f
unfolding capsule_of
headers-fault bytes f h = ap (after_headers bytes) h

pub items-fault : (bytes : List ℕ) (s : Shape) (f : CapsuleFault) → shape_of bytes ≡ Ok s → items_of bytes s ≡ Err f → capsule_of bytes ≡ Err f
unfolding capsule_of
items-fault bytes s f h i = ap (after_headers bytes) h ∙ ap table_with i

pub capsule-is : (bytes : List ℕ) (s : Shape) (es : List Entry) → shape_of bytes ≡ Ok s → items_of bytes s ≡ Ok es → capsule_of bytes ≡ Ok (record { serial = usual_serial; flags = 0; entries = es })
unfolding capsule_of
capsule-is bytes s es h i = ap (after_headers bytes) h ∙ ap table_with i
