-- The types of the entries that are present name the images that the table has.
use Rattle.std.proofs.Common.{◌≡◌, ℕ, zero, suc, ◌+◌, ◌<◌, Bool, true, false, List, [], ◌∷◌, length, get_or, Option, Some, None, refl, sym, ap, ◌∙◌, arith, ext_get_or, inl, inr}
use Rattle.std.specs.Prelude.{◌||◌, not, is_some}
use Rattle.std.specs.List.{cons_option, list_any}
use Rattle.std.proofs.lemmas.Bool.{cases_Bool}
use Rattle.std.proofs.lemmas.List.{length-map, get_or-map}
use Rattle.std.proofs.lemmas.List.FromFn.{length-map-range_with_len, get_or-map-range_with_len}
use Rattle.base_core.specs.Bytes.{same_bytes}
use Rattle.fwu_formats.specs.{Layout.ImageRow, Layout.find_image, Package.Entry, Package.Toc, Package.entry_of, Package.has_image, Layout.no_row}
use Rattle.fwu_model.specs.Session.{Nothing}
use Rattle.fwu_model.specs.Answer.{are_named, names_unknown, copied_part, copied_parts, images_over, payload_or}
use Rattle.fwu_model.proofs.Staging.{same-self, same-is}
use Rattle.update_client.specs.{Partial.present, Partial.entry_types}
use Rattle.update_client.proofs.{Present.kept_parts, Present.kept-at, Present.kept-long, OwnImages.found-has, Over.payloads}

-- a type that is named is that of an entry, so of an image that the table has
named-has : (rows : List ImageRow) (toc : Toc) (guid : List ℕ) → list_any (same_bytes guid) (entry_types (present rows toc)) ≡ true → is_some (entry_of toc guid) ≡ true
named-has [] toc guid is = absurd cc
named-has (r ∷ rows) toc guid is = by-entry (named-has rows toc guid) (entry_of toc r.guid) refl is
  where
    either : (e : Entry) → entry_of toc r.guid ≡ Some e → (list_any (same_bytes guid) (entry_types (present rows toc)) ≡ true → is_some (entry_of toc guid) ≡ true)
        → (b : Bool) → same_bytes guid e.guid ≡ b → (b || list_any (same_bytes guid) (entry_types (present rows toc))) ≡ true → is_some (entry_of toc guid) ≡ true
    either e it on true same h =
        let guids : guid ≡ r.guid = same-is guid e.guid same ∙ found-has r.guid toc.entries e it in
        ap (λ (g : List ℕ). is_some (entry_of toc g)) guids ∙ ap (λ (o : Option Entry). is_some o) it
    either e it on false same h = on h

    by-entry : (list_any (same_bytes guid) (entry_types (present rows toc)) ≡ true → is_some (entry_of toc guid) ≡ true) → (o : Option Entry)
        → entry_of toc r.guid ≡ o → list_any (same_bytes guid) (entry_types (cons_option (entry_of toc r.guid) (present rows toc))) ≡ true → is_some (entry_of toc guid) ≡ true
    by-entry on None it h = on (sym (ap (λ (o : Option Entry). list_any (same_bytes guid) (entry_types (cons_option o (present rows toc)))) it) ∙ h)
    by-entry on (Some e) it h = either e it on (same_bytes guid e.guid) refl
        (sym (ap (λ (o : Option Entry). list_any (same_bytes guid) (entry_types (cons_option o (present rows toc)))) it) ∙ h)

-- and the type of an image that it has is named
has-named : (rows : List ImageRow) (toc : Toc) (i : ℕ) (e : Entry) → i < length rows → entry_of toc (get_or rows i no_row).guid ≡ Some e
    → list_any (same_bytes (get_or rows i no_row).guid) (entry_types (present rows toc)) ≡ true
has-named [] toc i e lt it = absurd (omega (arith, lt))
has-named (r ∷ rows) toc zero e lt it =
    ap (λ (o : Option Entry). list_any (same_bytes r.guid) (entry_types (cons_option o (present rows toc)))) it
    ∙ ap (λ (g : List ℕ). same_bytes r.guid g || list_any (same_bytes r.guid) (entry_types (present rows toc))) (found-has r.guid toc.entries e it)
    ∙ ap (λ (b : Bool). b || list_any (same_bytes r.guid) (entry_types (present rows toc))) (same-self r.guid)
has-named (r ∷ rows) toc (suc i) e lt it = by-entry (has-named rows toc i e (omega (arith, lt)) it) (entry_of toc r.guid)
  where
    or-true : (b c : Bool) → c ≡ true → (b || c) ≡ true
    or-true true c h = refl
    or-true false c h = h

    by-entry : list_any (same_bytes (get_or rows i no_row).guid) (entry_types (present rows toc)) ≡ true → (o : Option Entry)
        → list_any (same_bytes (get_or rows i no_row).guid) (entry_types (cons_option o (present rows toc))) ≡ true
    by-entry on None = on
    by-entry on (Some x) = or-true (same_bytes (get_or rows i no_row).guid x.guid) _ on

pub named-is : (rows : List ImageRow) (toc : Toc) (i : ℕ) → i < length rows
    → list_any (same_bytes (get_or rows i no_row).guid) (entry_types (present rows toc)) ≡ has_image toc (get_or rows i no_row)
named-is rows toc i lt = by-entry (entry_of toc (get_or rows i no_row).guid) refl
  where
    by-entry : (o : Option Entry) → entry_of toc (get_or rows i no_row).guid ≡ o
        → list_any (same_bytes (get_or rows i no_row).guid) (entry_types (present rows toc)) ≡ has_image toc (get_or rows i no_row)
    by-entry (Some e) it = has-named rows toc i e lt it ∙ sym (ap (λ (o : Option Entry). is_some o) it)
    by-entry None it = elim (cases_Bool (list_any (same_bytes (get_or rows i no_row).guid) (entry_types (present rows toc)))) [
      | inl named ↦ named ∙ sym (named-has rows toc (get_or rows i no_row).guid named)
      | inr other ↦ other ∙ sym (ap (λ (o : Option Entry). is_some o) it)
    ]

-- none of them is unknown
pub known-types : (all rows : List ImageRow) (toc : Toc) → ((i : ℕ) → i < length rows → is_some (find_image all (get_or rows i no_row).guid) ≡ true)
    → names_unknown all (entry_types (present rows toc)) ≡ false
known-types all [] toc found = refl
known-types all (r ∷ rows) toc found = by-entry (known-types all rows toc (λ i lt. found (suc i) (omega (arith, lt)))) (entry_of toc r.guid) refl
  where
    by-entry : names_unknown all (entry_types (present rows toc)) ≡ false → (o : Option Entry) → entry_of toc r.guid ≡ o
        → names_unknown all (entry_types (cons_option o (present rows toc))) ≡ false
    by-entry on None it = on
    by-entry on (Some e) it =
        ap (λ (g : List ℕ). not (is_some (find_image all g)) || names_unknown all (entry_types (present rows toc))) (found-has r.guid toc.entries e it)
        ∙ ap (λ (b : Bool). not b || names_unknown all (entry_types (present rows toc))) (found 0 (omega arith)) ∙ on

-- what a begin copies that names them
pub copied-is : (rows : List ImageRow) (toc : Toc) (bytes : ℕ → List ℕ)
    → copied_parts (are_named rows (entry_types (present rows toc))) bytes ≡ kept_parts toc bytes 0 rows
unfolding copied_parts
copied-is rows toc bytes =
    let named = are_named rows (entry_types (present rows toc)) in
    let test = λ (r : ImageRow). list_any (same_bytes r.guid) (entry_types (present rows toc)) in
    let g = λ (i : ℕ). copied_part (get_or named i true) (bytes i) in
    let size = length-map rows test in
    let long = length-map-range_with_len g 0 (length named) in
    ext_get_or Nothing (copied_parts named bytes) (kept_parts toc bytes 0 rows) (long ∙ size ∙ sym (kept-long toc bytes 0 rows)) (λ i below.
    let lt : i < length rows = omega (arith, below, long, size) in
    let none : i ≡ 0 + i = omega arith in
    get_or-map-range_with_len g 0 (length named) i i Nothing (omega (arith, lt, size)) (omega arith)
    ∙ ap (λ (b : Bool). copied_part b (bytes i)) (get_or-map test rows i no_row true lt ∙ named-is rows toc i lt)
    ∙ ap (λ (n : ℕ). copied_part (has_image toc (get_or rows i no_row)) (bytes n)) none
    ∙ sym (kept-at toc bytes 0 rows i lt))

payloads-long : (file : List ℕ) (toc : Toc) (bytes : ℕ → List ℕ) (a : ℕ) (rows : List ImageRow) → length (payloads file toc bytes a rows) ≡ length rows
payloads-long file toc bytes a [] = refl
payloads-long file toc bytes a (r ∷ rows) = let rest = payloads-long file toc bytes (a + 1) rows in omega (arith, rest)

payload-at : (file : List ℕ) (toc : Toc) (bytes : ℕ → List ℕ) (a : ℕ) (rows : List ImageRow) (i : ℕ) → i < length rows
    → get_or (payloads file toc bytes a rows) i [] ≡ payload_or file (bytes (a + i)) (entry_of toc (get_or rows i no_row).guid)
payload-at file toc bytes a [] i lt = absurd (omega (arith, lt))
payload-at file toc bytes a (r ∷ rows) zero lt = let none : a ≡ a + 0 = omega arith in ap (λ (n : ℕ). payload_or file (bytes n) (entry_of toc r.guid)) none
payload-at file toc bytes a (r ∷ rows) (suc i) lt =
    let more : (a + 1) + i ≡ a + suc i = omega arith in
    payload-at file toc bytes (a + 1) rows i (omega (arith, lt)) ∙ ap (λ (n : ℕ). payload_or file (bytes n) (entry_of toc (get_or rows i no_row).guid)) more

pub payloads-are : (file : List ℕ) (toc : Toc) (bytes : ℕ → List ℕ) (rows : List ImageRow) → payloads file toc bytes 0 rows ≡ images_over rows file toc bytes
unfolding images_over
payloads-are file toc bytes rows =
    let g = λ (i : ℕ). payload_or file (bytes i) (entry_of toc (get_or rows i no_row).guid) in
    let long = length-map-range_with_len g 0 (length rows) in
    ext_get_or [] (payloads file toc bytes 0 rows) (images_over rows file toc bytes) (payloads-long file toc bytes 0 rows ∙ sym long) (λ i below.
    let lt : i < length rows = omega (arith, below, payloads-long file toc bytes 0 rows) in
    let none : 0 + i ≡ i = omega arith in
    payload-at file toc bytes 0 rows i lt ∙ ap (λ (n : ℕ). payload_or file (bytes n) (entry_of toc (get_or rows i no_row).guid)) none
    ∙ sym (get_or-map-range_with_len g 0 (length rows) i i [] lt (omega arith)))
