-- What is installed of a package whose entries are the images of a layout, in their order.
use Rattle.std.proofs.Common.{◌≡◌, ℕ, suc, ◌+◌, ◌*◌, ◌<◌, ◌≤◌, Bool, true, false, cond, not, List, [], ◌∷◌, length, drop, map, Option, Some, None, is_some, refl, sym, ap, subst, ◌∙◌, arith, inl, inr, IsTrue, IsFalse, ltb, le-ltb}
use Rattle.std.proofs.lemmas.Bool.{and_parts, cond-true, cond-false, lt-ltb, not-true, not_from_true, or_cases, or_left, or_parts, or_right}
use Rattle.std.proofs.lemmas.List.{length-drop, length-take-le}
use Rattle.std.proofs.lemmas.List.Sums.{sum_by-cons}
use Rattle.std.specs.Prelude.{count_by, find, All}
use Rattle.std.specs.List.{list_any, position_or_len}
use Rattle.base_core.specs.Bytes.{same_bytes}
use Rattle.fwu_formats.specs.Layout.{ImageRow, are_distinct, find_image}
use Rattle.fwu_formats.specs.Package.{Entry, Part, Toc, entry_of, has_guid, payload}
use Rattle.fwu_model.specs.Answer.{first_image_fault, images_of, skipped, payload_or}
use Rattle.gen_core.proofs.{Making.guids_of, Packing.FitRows, Packing.NoRow, Packing.OneMore}
use Rattle.base_core.proofs.Spelled.{same_refl}

-- ---- each image finds its own entry

-- images of other types pass over an entry
pass-over : (e : Entry) (es : List Entry) (rs : List ImageRow) → IsFalse (list_any (same_bytes e.guid) (guids_of rs))
    → map (λ r. find (has_guid r.guid) (e ∷ es)) rs ≡ map (λ r. find (has_guid r.guid) es) rs
pass-over e es [] none = refl
pass-over e es (r ∷ rs) none =
    let both = or_parts (same_bytes e.guid r.guid) (list_any (same_bytes e.guid) (guids_of rs)) none in
    let first : find (has_guid r.guid) (e ∷ es) ≡ find (has_guid r.guid) es = cond-false (same_bytes e.guid r.guid) (Some e)
    (find (has_guid r.guid) es) both.0 in
    let others = pass-over e es rs both.1 in
    cc

pub own-entries : (es : List Entry) (rs : List ImageRow) → map (λ e. e.guid) es ≡ guids_of rs → IsTrue (are_distinct (guids_of rs))
    → map (λ r. find (has_guid r.guid) es) rs ≡ map Some es
own-entries [] [] same h = refl
own-entries [] (r ∷ rs) same h = absurd cc
own-entries (e ∷ es) [] same h = absurd cc
own-entries (e ∷ es) (r ∷ rs) same h =
    let guid : e.guid ≡ r.guid = cc in
    let rest : map (λ x. x.guid) es ≡ guids_of rs = cc in
    let both = and_parts (not (list_any (same_bytes r.guid) (guids_of rs))) (are_distinct (guids_of rs)) h in
    let none : IsFalse (list_any (same_bytes e.guid) (guids_of rs)) = subst (λ (g : List ℕ). IsFalse (list_any (same_bytes g) (guids_of rs))) (sym guid)
    (not-true _ both.0) in
    let test : IsTrue (same_bytes e.guid r.guid) = subst (λ (g : List ℕ). IsTrue (same_bytes e.guid g)) guid (same_refl e.guid) in
    let first : find (has_guid r.guid) (e ∷ es) ≡ Some e = cond-true (same_bytes e.guid r.guid) (Some e) (find (has_guid r.guid) es) test in
    let others : map (λ x. find (has_guid x.guid) (e ∷ es)) rs ≡ map Some es = pass-over e es rs none ∙ own-entries es rs rest both.1 in
    cc

payloads-found : (file : List ℕ) (f : ImageRow → Option Entry) (rs : List ImageRow) (es : List Entry) → map f rs ≡ map Some es
    → map (λ r. payload_or file [] (f r)) rs ≡ map (payload file) es
payloads-found file f [] [] same = refl
payloads-found file f [] (e ∷ es) same = absurd cc
payloads-found file f (r ∷ rs) [] same = absurd cc
payloads-found file f (r ∷ rs) (e ∷ es) same =
    let own : f r ≡ Some e = cc in
    let rest : map f rs ≡ map Some es = cc in
    let first = ap (payload_or file []) own in
    let others = payloads-found file f rs es rest in
    cc

pub images-found : (rows : List ImageRow) (file : List ℕ) (toc : Toc) → map (λ e. e.guid) toc.entries ≡ guids_of rows → IsTrue (are_distinct (guids_of rows))
    → images_of rows file toc ≡ map (payload file) toc.entries
unfolding images_of
images-found rows file toc same distinct = payloads-found file (λ r. entry_of toc r.guid) rows toc.entries (own-entries toc.entries rows same distinct)

-- ---- none is missing or too large

-- each entry is within its image's slot
pub data FitEntries : List ImageRow → List Entry → Type 0 where
  NoEntry : FitEntries [] []
  OneEntry : {r : ImageRow} {e : Entry} {rs : List ImageRow} {es : List Entry} → e.size ≤ 4096 * r.slots → FitEntries rs es
      → FitEntries (r ∷ rs) (e ∷ es)

no-fault-from : (toc : Toc) {rs : List ImageRow} {es : List Entry} → map (λ r. entry_of toc r.guid) rs ≡ map Some es
    → FitEntries rs es → first_image_fault rs toc ≡ None
unfolding first_image_fault
no-fault-from toc same NoEntry = refl
no-fault-from toc same (OneEntry {r = r} {e = e} {rs = rs} {es = es} small others) =
    let own : entry_of toc r.guid ≡ Some e = cc in
    let rest : map (λ x. entry_of toc x.guid) rs ≡ map Some es = cc in
    let low = le-ltb (4096 * r.slots) e.size small in
    rw (own, low) (no-fault-from toc rest others)

pub none-missing : (rows : List ImageRow) (toc : Toc) → map (λ e. e.guid) toc.entries ≡ guids_of rows → IsTrue (are_distinct (guids_of rows))
    → FitEntries rows toc.entries → first_image_fault rows toc ≡ None
none-missing rows toc same distinct fit = no-fault-from toc (own-entries toc.entries rows same distinct) fit

-- a payload that lies in the file has its entry's size
pub entries-fit : (file : List ℕ) (es : List Entry) {rs : List ImageRow} {ps : List Part} → All (λ e. e.offset + e.size ≤ length file) es
    → map (payload file) es ≡ map (λ p. p.bytes) ps → FitRows rs ps → FitEntries rs es
entries-fit file [] within same NoRow = NoEntry
entries-fit file [] within same (OneMore own others) = absurd cc
entries-fit file (e ∷ es) within same NoRow = absurd cc
entries-fit file (e ∷ es) within same (OneMore {p = p} {ps = ps} fits others) =
    let own : payload file e ≡ p.bytes = cc in
    let rest : map (payload file) es ≡ map (λ q. q.bytes) ps = cc in
    let inside : e.offset + e.size ≤ length file = within 0 e (omega arith) in
    let size : length (payload file e) ≡ e.size = length-take-le e.size (drop e.offset file) (omega (arith, length-drop e.offset file, inside)) in
    OneEntry (omega (arith, ap length own, size, fits.size))
    (entries-fit file es (λ k d lt. within (suc k) d (omega (arith, lt))) rest others)

-- ---- no entry is skipped

first-below : (p : ImageRow → Bool) (xs : List ImageRow) → list_any p xs ≡ true → position_or_len p xs < length xs
first-below p [] h = absurd cc
first-below p (x ∷ xs) h = go (p x) (position_or_len p xs) (length xs) (λ fails. first-below p xs (later fails))
  where
    later : p x ≡ false → list_any p xs ≡ true
    later fails = elim (or_cases (p x) (list_any p xs) h) [ inl passes ↦ absurd cc | inr e ↦ e ]

    go : (b : Bool) (n m : ℕ) → (b ≡ false → n < m) → cond (not b) (1 + n) 0 < suc m
    go true n m low = omega arith
    go false n m low = let lt = low refl in omega (arith, lt)

is-found : (rows : List ImageRow) (g : List ℕ) → list_any (λ r. same_bytes r.guid g) rows ≡ true → is_some (find_image rows g) ≡ true
is-found rows g h =
    let p = λ (r : ImageRow). same_bytes r.guid g in
    ap is_some (cond-true (ltb (position_or_len p rows) (length rows)) (Some (position_or_len p rows)) None (lt-ltb _ _ (first-below p rows h)))

abbrev zero_or_one : Bool → ℕ
zero_or_one b = cond b 1 0

skips-none : (whole rs : List ImageRow) (es : List Entry) → map (λ e. e.guid) es ≡ guids_of rs
    → ((g : List ℕ) → list_any (λ r. same_bytes r.guid g) rs ≡ true → list_any (λ r. same_bytes r.guid g) whole ≡ true)
    → count_by (λ e. not (is_some (find_image whole e.guid))) es ≡ 0
skips-none whole [] [] same among = refl
skips-none whole [] (e ∷ es) same among = absurd cc
skips-none whole (r ∷ rs) [] same among = absurd cc
skips-none whole (r ∷ rs) (e ∷ es) same among =
    let guid : e.guid ≡ r.guid = cc in
    let rest : map (λ x. x.guid) es ≡ guids_of rs = cc in
    let own : IsTrue (same_bytes r.guid e.guid) = subst (λ (g : List ℕ). IsTrue (same_bytes r.guid g)) (sym guid) (same_refl r.guid) in
    let found = is-found whole e.guid (among e.guid (or_left (same_bytes r.guid e.guid) (list_any (λ x. same_bytes x.guid e.guid) rs) own)) in
    let others = skips-none whole rs es rest (λ g h. among g (or_right (same_bytes r.guid g) (list_any (λ x. same_bytes x.guid g) rs) h)) in
    let count = λ (x : Entry). zero_or_one (not (is_some (find_image whole x.guid))) in
    let first : count e ≡ 0 = ap zero_or_one (not_from_true _ found) in
    sum_by-cons count e es ∙ omega (arith, first, others)

pub none-skipped : (rows : List ImageRow) (toc : Toc) → map (λ e. e.guid) toc.entries ≡ guids_of rows → skipped rows toc ≡ 0
none-skipped rows toc same = skips-none rows rows toc.entries same (λ g h. h)
