-- Parts that have no fault are read again: they fit a package.
use Rattle.std.proofs.Common.{◌≡◌, ◌<◌, ◌≤◌, ℕ, suc, Bool, true, false, not, ◌&&◌, ◌==◌, List, [], ◌∷◌, length, get_or, map, Option, Some, None, IsTrue, inl, inr, refl, sym, ap, ◌∙◌, arith, eqb-true, eq-eqb, ltb, ltb-false}
use Rattle.std.proofs.lemmas.Bool.{and_from, and_parts, cases_lt, or_parts, or_from}
use Rattle.std.proofs.lemmas.List.Sums.{fails_before_first}
use Rattle.std.proofs.lemmas.List.FromFn.{length-range_with_len}
use Rattle.std.specs.Prelude.{position, if◌then◌else◌}
use Rattle.std.specs.List.{list_all, list_any, position_or_len, range_with_len}
use Rattle.base_core.specs.Bytes.{same_bytes}
use Rattle.fwu_formats.specs.Layout.{are_distinct}
use Rattle.fwu_formats.specs.Package.{FitsPackage, Part, entry_limit, is_part, packed}
use Rattle.fwu_formats.proofs.PackWritten.{packed-is-read}
use Rattle.fip_tables.specs.{Again.PassedIsRead, Again.part_has_fields, Frame.AreSixteen, declared.faults.PackFault.PackFault}
use Rattle.fip_tables.specs.Packing.{AreOutlines, first_repeat, is_alignment, is_nil, is_repeat, pack_fault, package_limit, packed_part_at, parts_fault, zeroed}
use Rattle.fip_tables.proofs.Firsts.{align-fault, nil-fault, numbers, repeat-fault, shared-fault, size-fault, too-many}
use Rattle.fip_tables.proofs.Plans.{packed-length}

-- ---- what passes has none of the faults

-- there is none where each would be against what is known, and so for a test, and for an order
pub none-of : {X : Type 0} (o : Option X) → ((x : X) → o ≡ Some x → ⊥) → o ≡ None
none-of None h = refl
none-of (Some x) h = absurd (h x refl)

holds : (b : Bool) → (b ≡ false → ⊥) → b ≡ true
holds true h = refl
holds false h = absurd (h refl)

pub at-most : (a b : ℕ) → (a < b → ⊥) → b ≤ a
at-most a b h = elim (cases_lt a b) [
  | inl lt ↦ absurd (h lt)
  | inr le ↦ le
]

pub some-none : {o : Option PackFault} → o ≡ None → (f : PackFault) → o ≡ Some f → ⊥
some-none ok f e = let h : Some f ≡ None = sym e ∙ ok in absurd cc

module _ (parts : List Part) (ok : parts_fault parts ≡ None) where
  pub count-passes : length parts ≤ entry_limit
  count-passes = at-most _ _ (λ lt. some-none ok _ (too-many parts lt))

  pub repeat-passes : first_repeat parts ≡ None
  repeat-passes = none-of _ (λ i e. some-none ok _ (repeat-fault parts count-passes i e))

  pub nil-passes : position is_nil parts ≡ None
  nil-passes = none-of _ (λ i e. some-none ok _ (nil-fault parts count-passes repeat-passes i e))

module _ (parts : List Part) (a : ℕ) (ok : pack_fault parts a ≡ None) where
  parts-pass : parts_fault parts ≡ None
  parts-pass = none-of _ (λ f e. some-none ok f (shared-fault parts a f e))

  align-passes : is_alignment a ≡ true
  align-passes = holds _ (λ e. some-none ok _ (align-fault parts a parts-pass e))

  size-passes : length (packed 0 0 parts a) ≤ package_limit
  size-passes = at-most _ _ (λ lt. some-none ok _ (size-fault parts a parts-pass align-passes lt))

-- ---- each part

pub none-at : {X : Type 0} (p : X → Bool) (xs : List X) → position p xs ≡ None → (k : ℕ) (d : X) → k < length xs → p (get_or xs k d) ≡ false
none-at {X} p xs none = go (ltb (position_or_len p xs) (length xs)) refl none
  where
    go : (b : Bool) → ltb (position_or_len p xs) (length xs) ≡ b → (if b then Some (position_or_len p xs) else None) ≡ None → (k : ℕ) (d : X) → k < length xs → p (get_or xs k d) ≡ false
    go true e h = absurd cc
    go false e h = λ k d lt. fails_before_first p xs k d (let far = ltb-false (position_or_len p xs) (length xs) e in omega (arith, far, lt))

each-part : (ps : List Part) → IsTrue (list_all part_has_fields ps) → ((k : ℕ) → k < length ps → is_nil (packed_part_at ps k) ≡ false) → IsTrue (list_all is_part ps)
each-part [] fields some = refl
each-part (p ∷ ps) fields some =
    let both = and_parts (part_has_fields p) (list_all part_has_fields ps) fields in
    let own = and_parts (length p.guid == 16) (ltb p.flags 18446744073709551616) both.0 in
    and_from (is_part p) (list_all is_part ps)
    (and_from ((length p.guid == 16) && not (is_nil p)) (ltb p.flags 18446744073709551616) (and_from (length p.guid == 16) (not (is_nil p)) own.0 (ap not (some 0 (omega arith)))) own.1)
    (each-part ps both.1 (λ k lt. some (suc k) (omega (arith, lt))))

sixteen-each : (ps : List Part) → IsTrue (list_all part_has_fields ps) → AreSixteen ps
sixteen-each [] fields = tt
sixteen-each (p ∷ ps) fields =
    let both = and_parts (part_has_fields p) (list_all part_has_fields ps) fields in
    let own = and_parts (length p.guid == 16) (ltb p.flags 18446744073709551616) both.0 in
    (eqb-true (length p.guid) 16 own.0, sixteen-each ps both.1)

-- ---- different types

pub same-sym : (xs ys : List ℕ) → same_bytes xs ys ≡ same_bytes ys xs
same-sym [] [] = refl
same-sym [] (y ∷ ys) = refl
same-sym (x ∷ xs) [] = refl
same-sym (x ∷ xs) (y ∷ ys) = ap (λ (b : Bool). b && same_bytes xs ys) (let e : (x == y) ≡ (y == x) = grind arith in e) ∙ ap (λ (b : Bool). (y == x) && b) (same-sym xs ys)

none-alike : (g : List ℕ) (ps : List Part) → ((k : ℕ) → k < length ps → same_bytes (packed_part_at ps k).guid g ≡ false) → list_any (same_bytes g) (map (λ p. p.guid) ps) ≡ false
none-alike g [] other = refl
none-alike g (p ∷ ps) other =
    or_from (same_bytes g p.guid) (list_any (same_bytes g) (map (λ q. q.guid) ps)) (same-sym g p.guid ∙ other 0 (omega arith)) (none-alike g ps (λ k lt. other (suc k) (omega (arith, lt))))

distinct-each : (ps : List Part) → ((k : ℕ) → k < length ps → is_repeat ps k ≡ false) → IsTrue (are_distinct (map (λ p. p.guid) ps))
distinct-each [] h = refl
distinct-each (p ∷ ps) h =
    and_from (not (list_any (same_bytes p.guid) (map (λ q. q.guid) ps))) (are_distinct (map (λ q. q.guid) ps))
    (ap not (none-alike p.guid ps (λ k lt. (apart k lt).0)))
    (distinct-each ps (λ k lt. (apart k lt).1))
  where
    apart : (k : ℕ) → k < length ps → (same_bytes (packed_part_at ps k).guid p.guid ≡ false) × (is_repeat ps k ≡ false)
    apart k lt = or_parts (same_bytes (packed_part_at ps k).guid p.guid) (is_repeat ps k) (h (suc k) (omega (arith, lt)))

pub no-repeat : (ps : List Part) → first_repeat ps ≡ None → (k : ℕ) → k < length ps → is_repeat ps k ≡ false
no-repeat ps none k lt =
    ap (is_repeat ps) (sym (numbers (length ps) k lt))
    ∙ none-at (is_repeat ps) (range_with_len 0 (length ps)) none k 0 (omega (arith, lt, length-range_with_len 0 (length ps)))

-- ---- a package that fits

fits-package : (serial flags : ℕ) (parts : List Part) (a : ℕ) → pack_fault parts a ≡ None → IsTrue (list_all part_has_fields parts) → 1 ≤ serial → serial < 4294967296 → flags < 18446744073709551616 → FitsPackage serial flags parts a
fits-package serial flags parts a ok fields some low small =
    let sixteen = sixteen-each parts fields in
    record {
      few = count-passes parts (parts-pass parts a ok);
      each = each-part parts fields (λ k lt. none-at is_nil parts (nil-passes parts (parts-pass parts a ok)) k (record { guid = []; flags = 0; bytes = [] }) lt);
      distinct = distinct-each parts (no-repeat parts (repeat-passes parts (parts-pass parts a ok)));
      serial_fits = (some, low);
      flags_fit = small;
      short = omega (arith, size-passes parts a ok, packed-length serial flags parts a sixteen, packed-length 0 0 parts a sixteen);
    }

pub passed-is-read : PassedIsRead
passed-is-read serial flags parts a ok fields some low small = packed-is-read serial flags parts a (fits-package serial flags parts a ok fields some low small)

-- ---- parts by their outlines

pub fields-of-outlines : (ps : List Part) → AreOutlines (map zeroed ps) → IsTrue (list_all part_has_fields ps)
fields-of-outlines [] ok = refl
fields-of-outlines (p ∷ ps) ok =
    let first = ok 0 (omega arith) in
    and_from (part_has_fields p) (list_all part_has_fields ps)
    (and_from (length p.guid == 16) (ltb p.flags 18446744073709551616) (eq-eqb (length p.guid) 16 first.sixteen) (let e : ltb p.flags 18446744073709551616 ≡ true = let low = first.fits in grind (arith, low) in e))
    (fields-of-outlines ps (λ k lt. ok (suc k) (omega (arith, lt))))
