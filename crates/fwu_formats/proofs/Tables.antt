-- A package is read exactly where the equations of its table hold.
use Rattle.std.proofs.Common.{◌≡◌, ◌≢◌, ℕ, zero, suc, ◌+◌, ◌*◌, ◌<◌, ◌≤◌, Bool, true, false, cond, not, ◌==◌, List, [], ◌∷◌, ◌++◌, length, get_or, take, Option, Some, None, Result, Ok, Err, refl, sym, ap, subst, ◌∙◌, arith, inl, inr, IsTrue, IsFalse, ltb, ltb-false, le-ltb, eq-eqb, ne_eqb, eqb-true, length-append, length-take, ◌^◌}
use Rattle.std.specs.List.{All, AllPairs, list_any, position_or_len}
use Rattle.std.specs.Prelude.{position}
use Rattle.std.proofs.lemmas.Bool.{cases_Bool, cases_lt, cond_both, not-false}
use Rattle.std.proofs.lemmas.List.Folds.{list_any_at, list_any_none}
use Rattle.std.proofs.lemmas.List.FromFn.{get_or-map-range_with_len}
use Rattle.std.proofs.lemmas.List.Sums.{position_or_len_is}
use Rattle.std.proofs.lemmas.List.{get_or_append_left, get_or-take, take_more}
use Rattle.std.proofs.Math.Seq.{get_or-append_seam, take-length}
use Rattle.std.proofs.lemmas.List.Elements.{All-append}
use Rattle.std.proofs.lemmas.List.Quantifiers.{all_pairs_push}
use Rattle.base_core.specs.Bytes.{num_at, same_bytes}
use Rattle.base_core.proofs.{Spelled.same_is, Spelled.same_refl, Results.same-Ok, Lists.none-found}
use Rattle.fwu_formats.specs.{Layout.nil_guid, Law.TablesAreRead}
use Rattle.fwu_formats.specs.Package.{Entry, Toc, IsTable, fip_name, entry_limit, entry_at, has_guid, entries_from, is_beyond, unless_beyond, with_entries, toc_of, FipFault}
use Rattle.fwu_formats.specs.declared.kinds.FipFault.TheVariants as fault
use Rattle.fwu_formats.proofs.{SealLaws.was_not_refused, Spell.listed-is, Spell.not_refused}

abbrev no_entry : Entry
no_entry = record { guid = []; offset = 0; size = 0; flags = 0 }

-- the entries are those that the bytes have from the first place on, with types of their own
record AreEntries (bytes : List ℕ) (es : List Entry) : Type 0 where
  at : (k : ℕ) → k < length es → get_or es k no_entry ≡ entry_at bytes k
  types : All (λ e. e.guid ≢ nil_guid) es
  distinct : AllPairs (λ e f. e.guid ≢ f.guid) es

no-entries : (bytes : List ℕ) → AreEntries bytes []
no-entries bytes = record { at = λ k lt. absurd (omega (arith, lt)); types = λ k d lt. absurd (omega (arith, lt)); distinct = λ i j d low high. absurd (omega (arith, high)) }

-- a test that no element of a list passes fails at each
fails-at : {X : Type 0} (p : X → Bool) (xs : List X) → IsFalse (list_any p xs) → (k : ℕ) (d : X) → k < length xs → IsFalse (p (get_or xs k d))
fails-at p xs none k d lt =
    elim (cases_Bool (p (get_or xs k d))) [
      | inl is ↦ absurd (let e : list_any p xs ≡ true = list_any_at p xs k d lt is in cc)
      | inr not ↦ not
    ]

differs : (xs ys : List ℕ) → IsFalse (same_bytes xs ys) → xs ≢ ys
differs xs ys other e = absurd (let h : IsTrue (same_bytes xs xs) = same_refl xs in let g : IsTrue (same_bytes xs ys) = subst (λ (zs : List ℕ). IsTrue (same_bytes xs zs)) e h in cc)

is-other : (xs ys : List ℕ) → xs ≢ ys → IsFalse (same_bytes xs ys)
is-other xs ys ne =
    elim (cases_Bool (same_bytes xs ys)) [
      | inl is ↦ absurd (ne (same_is xs ys is))
      | inr not ↦ not
    ]

-- one more entry
more-entries : (bytes : List ℕ) (es : List Entry) (i : ℕ) → length es ≡ i → AreEntries bytes es → IsFalse (same_bytes (entry_at bytes i).guid nil_guid) → IsFalse (list_any (has_guid (entry_at bytes i).guid) es) → AreEntries bytes (es ++ entry_at bytes i ∷ [])
more-entries bytes es i is are nil new = record {
  at = λ k lt. elim (cases_lt k (length es)) [
    | inl below ↦ get_or_append_left es (entry_at bytes i ∷ []) no_entry k below ∙ are.at k below
    | inr le ↦
        let here : k ≡ length es = omega (arith, le, lt, length-append es (entry_at bytes i ∷ [])) in
        ap (λ (j : ℕ). get_or (es ++ entry_at bytes i ∷ []) j no_entry) here ∙ get_or-append_seam es (entry_at bytes i) [] no_entry ∙ ap (entry_at bytes) (sym is ∙ sym here)
  ];
  types = All-append (λ (e : Entry). e.guid ≢ nil_guid) es (entry_at bytes i ∷ []) are.types (λ k d lt.
      subst (λ (j : ℕ). (get_or (entry_at bytes i ∷ []) j d).guid ≢ nil_guid) (let none : 0 ≡ k = omega (arith, lt) in none) (differs (entry_at bytes i).guid nil_guid nil));
  distinct = all_pairs_push (λ (e : Entry) (f : Entry). e.guid ≢ f.guid) es (entry_at bytes i) are.distinct (λ k d lt. differs (get_or es k d).guid (entry_at bytes i).guid (fails-at (has_guid (entry_at bytes i).guid) es new k d lt));
}

-- ---- what was read

-- all entries up to a marker, so many at most
record IsRead (bytes : List ℕ) (es : List Entry) (most : ℕ) : Type 0 where
  whole : 16 + 40 * (length es + 1) ≤ length bytes
  few : length es ≤ most
  marker : (entry_at bytes (length es)).guid ≡ nil_guid
  are : AreEntries bytes es

ended : (bytes : List ℕ) (front : List Entry) (i most : ℕ) → length front ≡ i → i ≤ most → AreEntries bytes front → 16 + 40 * (i + 1) ≤ length bytes → IsTrue (same_bytes (entry_at bytes i).guid nil_guid) → IsRead bytes front most
ended bytes front i most is few are long nil = record {
  whole = omega (arith, long, is);
  few = omega (arith, few, is);
  marker = ap (λ (k : ℕ). (entry_at bytes k).guid) is ∙ same_is (entry_at bytes i).guid nil_guid nil;
  are = are;
}

entries-read : (bytes : List ℕ) (front : List Entry) (i left : ℕ) (es : List Entry) → length front ≡ i → AreEntries bytes front → entries_from bytes front i left ≡ Ok es → IsRead bytes es (i + left)
unfolding entries_from
entries-read bytes front i zero es is are e =
    let a = was_not_refused (ltb (length bytes) (16 + 40 * (i + 1))) (fault.NoEnd i) _ es e in
    let long : 16 + 40 * (i + 1) ≤ length bytes = ltb-false _ _ a.0 in
    cond_both (same_bytes (entry_at bytes i).guid nil_guid) (Ok front) (Err fault.TooMany) (λ (r : Result (List Entry) FipFault). r ≡ Ok es → IsRead bytes es (i + 0))
    (λ nil h. subst (λ (xs : List Entry). IsRead bytes xs (i + 0)) (same-Ok {F = FipFault} front es h) (ended bytes front i (i + 0) is (omega arith) are long nil))
    (λ other h. absurd cc) a.1
entries-read bytes front i (suc left) es is are e =
    let entry = entry_at bytes i in
    let a = was_not_refused (ltb (length bytes) (16 + 40 * (i + 1))) (fault.NoEnd i) _ es e in
    let long : 16 + 40 * (i + 1) ≤ length bytes = ltb-false _ _ a.0 in
    cond_both (same_bytes entry.guid nil_guid) (Ok front) (cond (list_any (has_guid entry.guid) front) (Err (fault.Duplicate i)) (entries_from bytes (front ++ entry ∷ []) (i + 1) left)) (λ (r : Result (List Entry) FipFault). r ≡ Ok es → IsRead bytes es (i + suc left))
    (λ nil h. subst (λ (xs : List Entry). IsRead bytes xs (i + suc left)) (same-Ok {F = FipFault} front es h) (ended bytes front i (i + suc left) is (omega arith) are long nil))
    (λ other h.
    let b = was_not_refused (list_any (has_guid entry.guid) front) (fault.Duplicate i) _ es h in
    let read = entries-read bytes (front ++ entry ∷ []) (i + 1) left es (length-append front (entry ∷ []) ∙ ap (λ (k : ℕ). k + 1) is) (more-entries bytes front i is are other b.0) b.1 in
    record { whole = read.whole; few = omega (arith, read.few); marker = read.marker; are = read.are }) a.1

abbrev pub headed : List ℕ → List Entry → Toc
headed bytes es = record { serial = num_at 4 bytes 4; flags = num_at 8 bytes 8; entries = es }

pub found-none : {X : Type 0} (p : X → Bool) (xs : List X) (d : X) → All (λ x. p x ≡ false) xs → position p xs ≡ None
found-none p xs d none =
    let at : position_or_len p xs ≡ length xs = position_or_len_is p xs (length xs) d (omega arith) (λ k lt. none k d lt) (λ lt. absurd (omega (arith, lt))) in
    let past : ltb (position_or_len p xs) (length xs) ≡ false = le-ltb (position_or_len p xs) (length xs) (omega (arith, at)) in
    rw past refl

module _ (bytes : List ℕ) (es : List Entry) where
  table-is : num_at 4 bytes 0 ≡ fip_name → num_at 4 bytes 4 ≢ 0 → IsRead bytes es entry_limit → position (is_beyond bytes) es ≡ None → IsTable bytes (headed bytes es)
  table-is name serial read fits = record {
    name = name;
    serial = refl;
    some_serial = serial;
    flags = refl;
    whole = read.whole;
    few = read.few;
    entries = sym (listed-is (entry_at bytes) (length es) no_entry es refl (λ k lt. sym (read.are.at k lt)));
    marker = read.marker;
    types = read.are.types;
    distinct = read.are.distinct;
    within = λ k d lt. ltb-false (length bytes) _ (none-found (is_beyond bytes) es fits k d lt);
  }

-- the equations of a table that was read
pub table-of : (bytes : List ℕ) (toc : Toc) → toc_of bytes ≡ Ok toc → IsTable bytes toc
unfolding toc_of
table-of bytes toc e =
    let a = was_not_refused (ltb (length bytes) 16) fault.ShortHeader _ toc e in
    let b = was_not_refused (not (num_at 4 bytes 0 == fip_name)) fault.BadName _ toc a.1 in
    let c = was_not_refused (num_at 4 bytes 4 == 0) fault.ZeroSerial _ toc b.1 in
    by-entries (eqb-true _ fip_name (not-false (num_at 4 bytes 0 == fip_name) b.0)) (λ is. absurd (let f : (num_at 4 bytes 4 == 0) ≡ true = eq-eqb _ 0 is in cc)) (entries_from bytes [] 0 entry_limit) refl c.1
  where
    by-within : num_at 4 bytes 0 ≡ fip_name → num_at 4 bytes 4 ≢ 0 → (es : List Entry) → IsRead bytes es entry_limit → (o : Option ℕ) → position (is_beyond bytes) es ≡ o → unless_beyond bytes (headed bytes es) o ≡ Ok toc → IsTable bytes toc
    by-within name serial es read None fits h = subst (λ (x : Toc). IsTable bytes x) (same-Ok {F = FipFault} (headed bytes es) toc h) (table-is bytes es name serial read fits)
    by-within name serial es read (Some i) fits h = absurd cc

    by-entries : num_at 4 bytes 0 ≡ fip_name → num_at 4 bytes 4 ≢ 0 → (r : Result (List Entry) FipFault) → entries_from bytes [] 0 entry_limit ≡ r → with_entries bytes r ≡ Ok toc → IsTable bytes toc
    by-entries name serial (Err f) is h = absurd cc
    by-entries name serial (Ok es) is h = by-within name serial es (entries-read bytes [] 0 entry_limit es refl (no-entries bytes) is) (position (is_beyond bytes) es) refl h

-- ---- what can be read

module _ (bytes : List ℕ) (toc : Toc) (t : IsTable bytes toc) where
  abbrev es : List Entry
  es = toc.entries

  entry-is : (k : ℕ) (d : Entry) → k < length es → entry_at bytes k ≡ get_or es k d
  entry-is k d lt =
      sym (get_or-map-range_with_len (entry_at bytes) 0 (length es) k k d lt (omega arith))
      ∙ ap (λ (xs : List Entry). get_or xs k d) (sym t.entries)

  -- the marker ends the table
  ends-here : (i : ℕ) (other : Result (List Entry) FipFault) → i ≡ length es → cond (same_bytes (entry_at bytes i).guid nil_guid) (Ok (take i es)) other ≡ Ok es
  ends-here i other is =
      let nil : same_bytes (entry_at bytes i).guid nil_guid ≡ true = ap (λ (k : ℕ). same_bytes (entry_at bytes k).guid nil_guid) is ∙ ap (λ (g : List ℕ). same_bytes g nil_guid) t.marker ∙ same_refl nil_guid in
      let all : take i es ≡ es = ap (λ (k : ℕ). take k es) is ∙ take-length es in
      rw (nil, all) refl

  goes-on : (i : ℕ) → i < length es → IsFalse (same_bytes (entry_at bytes i).guid nil_guid) × IsFalse (list_any (has_guid (entry_at bytes i).guid) (take i es))
  goes-on i lt =
      let guid = λ (d : Entry). ap (λ (e : Entry). e.guid) (entry-is i d lt) in (
        is-other (entry_at bytes i).guid nil_guid (λ nil. t.types i no_entry lt (sym (guid no_entry) ∙ nil)),
        list_any_none (has_guid (entry_at bytes i).guid) (take i es) (λ k d below.
            let short : k < i = omega (arith, below, length-take i es) in
            let there : (get_or (take i es) k d).guid ≡ (get_or es k d).guid = ap (λ (e : Entry). e.guid) (get_or-take i es k d short) in
            is-other (get_or (take i es) k d).guid (entry_at bytes i).guid (λ same. t.distinct k i d short lt (sym there ∙ same ∙ guid d))),
      )

  entries-there : (left i : ℕ) → i ≤ length es → length es ≤ i + left → entries_from bytes (take i es) i left ≡ Ok es
  unfolding entries_from
  entries-there zero i low high =
      not_refused (ltb (length bytes) (16 + 40 * (i + 1))) (fault.NoEnd i) _ es (le-ltb _ _ (omega (arith, t.whole, low))) (ends-here i (Err fault.TooMany) (omega (arith, low, high)))
  entries-there (suc left) i low high =
      not_refused (ltb (length bytes) (16 + 40 * (i + 1))) (fault.NoEnd i) _ es (le-ltb _ _ (omega (arith, t.whole, low)))
      (elim (cases_lt i (length es)) [
        | inl lt ↦
            let on = goes-on i lt in
            let next : take i es ++ entry_at bytes i ∷ [] ≡ take (i + 1) es = ap (λ (e : Entry). take i es ++ e ∷ []) (entry-is i no_entry lt) ∙ sym (take_more es i no_entry lt) in
            rw (on.0, on.1, next) (entries-there left (i + 1) (omega (arith, lt)) (omega (arith, high)))
        | inr le ↦ ends-here i _ (omega (arith, low, le))
      ])

  read-there : toc_of bytes ≡ Ok toc
  unfolding toc_of
  read-there =
      let long : ltb (length bytes) 16 ≡ false = le-ltb (length bytes) 16 (omega (arith, t.whole)) in
      let name : (num_at 4 bytes 0 == fip_name) ≡ true = eq-eqb _ fip_name t.name in
      let serial : (num_at 4 bytes 4 == 0) ≡ false = ne_eqb _ 0 (λ none. t.some_serial (sym t.serial ∙ none)) in
      let found : entries_from bytes [] 0 entry_limit ≡ Ok es = entries-there entry_limit 0 (omega arith) (omega (arith, t.few)) in
      let fits : position (is_beyond bytes) es ≡ None = found-none (is_beyond bytes) es no_entry (λ k d lt. le-ltb (length bytes) _ (t.within k d lt)) in
      let head : headed bytes es ≡ toc = ap (λ (n : ℕ). record { serial = n; flags = num_at 8 bytes 8; entries = es }) t.serial ∙ ap (λ (n : ℕ). record { serial = toc.serial; flags = n; entries = es }) t.flags in
      rw (long, name, serial, found, fits, head) refl

pub tables-are-read : TablesAreRead
tables-are-read = record { read = read-there; table = table-of }

-- ---- each payload of a package ends within it

pub ends-within : (bytes : List ℕ) (toc : Toc) → toc_of bytes ≡ Ok toc → All (λ e. e.offset + e.size ≤ length bytes) toc.entries
ends-within bytes toc e = (table-of bytes toc e).within

pub ends-below : (bytes : List ℕ) (toc : Toc) → length bytes < 2 ^ 64 → toc_of bytes ≡ Ok toc → All (λ e. e.offset + e.size < 2 ^ 64) toc.entries
ends-below bytes toc short e = λ k d lt. let h = ends-within bytes toc e k d lt in omega (arith, h, short)
