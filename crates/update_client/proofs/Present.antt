-- The images that a table has.
use Rattle.std.proofs.Common.{◌≡◌, cond, ℕ, zero, suc, ◌+◌, ◌*◌, ◌<◌, ◌≤◌, map, subst, Bool, true, false, List, [], ◌∷◌, length, get_or, Option, Some, None, Ok, refl, sym, ap, ◌∙◌, arith, ltb-false}
use Rattle.std.specs.Prelude.{IsTrue, count_by, ltb, not, is_some}
use Rattle.std.specs.List.{All, cons_option, list_any}
use Rattle.agent_machine.proofs.Answered.{layout-limits}
use Rattle.fip_tables.proofs.Chosen.{found_has}
use Rattle.std.proofs.lemmas.List.{get_or_default}
use Rattle.std.proofs.lemmas.List.Sums.{sum_by-cons}
use Rattle.std.specs.Option.{option_or}
use Rattle.fwu_formats.specs.Layout.{ImageRow, Layout, fits_layout, are_distinct, find_image, slot_bytes, no_row}
use Rattle.fwu_formats.specs.Package.{Entry, Toc, entry_of, has_image}
use Rattle.fwu_model.specs.{Sound.Setting, Session.Staged, Session.Nothing, Reply.Reply}
use Rattle.fwu_model.specs.Answer.{copied_part, first_size_fault, sent_over, size_fault, skipped}
use Rattle.fwu_model.specs.Reply as reply
use Rattle.update_client.specs.{Images.AreUnstaged, Images.no_entry, Partial.SendsPresent, Partial.present}
use Rattle.agent_calls.proofs.OwnRows.{guid_in, own-image}
use Rattle.update_client.proofs.OwnImages.{found-has}
use Rattle.fwu_model.proofs.Selects.{layout-distinct}

-- ---- how many they are

pub present-count : (rows : List ImageRow) (toc : Toc) → length (present rows toc) ≡ count_by (has_image toc) rows
present-count [] toc = refl
present-count (r ∷ rows) toc =
    by-entry (present-count rows toc) (entry_of toc r.guid) ∙ sym (sum_by-cons (λ (q : ImageRow). cond (has_image toc q) 1 0) r rows)
  where
    by-entry : length (present rows toc) ≡ count_by (has_image toc) rows → (o : Option Entry)
        → length (cons_option o (present rows toc)) ≡ cond (is_some o) 1 0 + count_by (has_image toc) rows
    by-entry on None = omega (arith, on)
    by-entry on (Some e) = omega (arith, on)

lacking-count : (rows : List ImageRow) (toc : Toc) → length rows ≡ length (present rows toc) + count_by (λ (r : ImageRow). not (has_image toc r)) rows
lacking-count [] toc = refl
lacking-count (r ∷ rows) toc =
    by-entry (lacking-count rows toc) (entry_of toc r.guid)
    ∙ ap (λ (n : ℕ). length (present (r ∷ rows) toc) + n) (sym (sum_by-cons (λ (q : ImageRow). cond (not (has_image toc q)) 1 0) r rows))
  where
    by-entry : length rows ≡ length (present rows toc) + count_by (λ (q : ImageRow). not (has_image toc q)) rows → (o : Option Entry)
        → suc (length rows) ≡ length (cons_option o (present rows toc)) + (cond (not (is_some o)) 1 0 + count_by (λ (q : ImageRow). not (has_image toc q)) rows)
    by-entry on None = omega (arith, on)
    by-entry on (Some e) = omega (arith, on)

pub counted-by : (rows : List ImageRow) (toc : Toc) (images others copied : ℕ) → images ≡ length (present rows toc) → others ≡ skipped rows toc
    → copied + images ≡ length rows → reply.SentPartial images others copied ≡ sent_over rows toc
counted-by rows toc images others copied has none lacks =
    let lacking : copied ≡ count_by (λ (r : ImageRow). not (has_image toc r)) rows = omega (arith, lacks, has, lacking-count rows toc) in
    ap (λ (n : ℕ). reply.SentPartial n others copied) (has ∙ present-count rows toc)
    ∙ ap (λ (n : ℕ). reply.SentPartial (count_by (has_image toc) rows) n copied) none
    ∙ ap (reply.SentPartial (count_by (has_image toc) rows) (skipped rows toc)) lacking

-- ---- what is staged, of the images from one of these numbers on

-- the numbers of the images that are sent
abbrev pub places : Toc → ℕ → List ImageRow → List ℕ
places toc a [] = []
places toc a (r ∷ rows) = cond (has_image toc r) (a ∷ places toc (a + 1) rows) (places toc (a + 1) rows)

-- what the begin copied
abbrev pub kept_parts : Toc → (ℕ → List ℕ) → ℕ → List ImageRow → List Staged
kept_parts toc bytes a [] = []
kept_parts toc bytes a (r ∷ rows) = copied_part (has_image toc r) (bytes a) ∷ kept_parts toc bytes (a + 1) rows

-- ---- where they are

-- the k-th entry that is present is that of an image
pub record Placed (toc : Toc) (a : ℕ) (rows : List ImageRow) (k : ℕ) : Type 0 where
  pub at : ℕ
  pub below : at < length rows
  pub place : get_or (places toc a rows) k 0 ≡ a + at
  pub entry : entry_of toc (get_or rows at no_row).guid ≡ Some (get_or (present rows toc) k no_entry)

pub placed : (toc : Toc) (a : ℕ) (rows : List ImageRow) (k : ℕ) → k < length (present rows toc) → Placed toc a rows k
placed toc a [] k lt = absurd (omega (arith, lt))
placed toc a (r ∷ rows) k lt = by-entry (λ j less. placed toc (a + 1) rows j less) (entry_of toc r.guid) refl k lt
  where
    behind : (k : ℕ) (j : ℕ) → Placed toc (a + 1) rows j → get_or (places toc a (r ∷ rows)) k 0 ≡ get_or (places toc (a + 1) rows) j 0
        → get_or (present (r ∷ rows) toc) k no_entry ≡ get_or (present rows toc) j no_entry → Placed toc a (r ∷ rows) k
    behind k j one there same = record {
      at = suc one.at;
      below = omega (arith, one.below);
      place = omega (arith, there, one.place);
      entry = one.entry ∙ ap (λ (e : Entry). Some e) (sym same);
    }

    by-entry : ((j : ℕ) → j < length (present rows toc) → Placed toc (a + 1) rows j) → (o : Option Entry) → entry_of toc r.guid ≡ o → (k : ℕ)
        → k < length (present (r ∷ rows) toc) → Placed toc a (r ∷ rows) k
    by-entry on None e k lt =
        let same = ap (λ (p : Option Entry). cons_option p (present rows toc)) e in
        let less : k < length (present rows toc) = omega (arith, lt, ap (λ (l : List Entry). length l) same) in
        behind k k (on k less)
        (ap (λ (p : Option Entry). get_or (cond (is_some p) (a ∷ places toc (a + 1) rows) (places toc (a + 1) rows)) k 0) e)
        (ap (λ (l : List Entry). get_or l k no_entry) same)
    by-entry on (Some entry) e zero lt = record {
      at = 0;
      below = omega arith;
      place = let here = ap (λ (p : Option Entry). get_or (cond (is_some p) (a ∷ places toc (a + 1) rows) (places toc (a + 1) rows)) 0 0) e in omega (arith, here);
      entry = e ∙ ap (λ (x : Entry). Some x) (sym (ap (λ (p : Option Entry). get_or (cons_option p (present rows toc)) 0 no_entry) e));
    }
    by-entry on (Some entry) e (suc k) lt =
        let same = ap (λ (p : Option Entry). cons_option p (present rows toc)) e in
        let less : k < length (present rows toc) = omega (arith, lt, ap (λ (l : List Entry). length l) same) in
        behind (suc k) k (on k less)
        (ap (λ (p : Option Entry). get_or (cond (is_some p) (a ∷ places toc (a + 1) rows) (places toc (a + 1) rows)) (suc k) 0) e)
        (ap (λ (l : List Entry). get_or l (suc k) no_entry) same)

pub places-long : (toc : Toc) (a : ℕ) (rows : List ImageRow) → length (places toc a rows) ≡ length (present rows toc)
places-long toc a [] = refl
places-long toc a (r ∷ rows) = by-entry (places-long toc (a + 1) rows) (entry_of toc r.guid)
  where
    by-entry : length (places toc (a + 1) rows) ≡ length (present rows toc) → (o : Option Entry)
        → length (cond (is_some o) (a ∷ places toc (a + 1) rows) (places toc (a + 1) rows)) ≡ length (cons_option o (present rows toc))
    by-entry on None = on
    by-entry on (Some e) = omega (arith, on)

-- they rise
pub from : (toc : Toc) (a : ℕ) (rows : List ImageRow) (k : ℕ) → k < length (places toc a rows) → a ≤ get_or (places toc a rows) k 0
from toc a [] k lt = absurd (omega (arith, lt))
from toc a (r ∷ rows) k lt = by-test (λ j less. from toc (a + 1) rows j less) (has_image toc r) k lt
  where
    by-test : ((j : ℕ) → j < length (places toc (a + 1) rows) → a + 1 ≤ get_or (places toc (a + 1) rows) j 0) → (h : Bool) (k : ℕ)
        → k < length (cond h (a ∷ places toc (a + 1) rows) (places toc (a + 1) rows))
        → a ≤ get_or (cond h (a ∷ places toc (a + 1) rows) (places toc (a + 1) rows)) k 0
    by-test on false k lt = let more = on k lt in omega (arith, more)
    by-test on true zero lt = omega arith
    by-test on true (suc k) lt = let more = on k (omega (arith, lt)) in omega (arith, more)

pub rising : (toc : Toc) (a : ℕ) (rows : List ImageRow) (j k : ℕ) → j < k → k < length (places toc a rows)
    → get_or (places toc a rows) j 0 < get_or (places toc a rows) k 0
rising toc a [] j k less lt = absurd (omega (arith, lt))
rising toc a (r ∷ rows) j k less lt = by-test (λ x y h l. rising toc (a + 1) rows x y h l) (has_image toc r) j k less lt
  where
    by-test : ((x y : ℕ) → x < y → y < length (places toc (a + 1) rows) → get_or (places toc (a + 1) rows) x 0 < get_or (places toc (a + 1) rows) y 0)
        → (h : Bool) (j k : ℕ) → j < k → k < length (cond h (a ∷ places toc (a + 1) rows) (places toc (a + 1) rows))
        → get_or (cond h (a ∷ places toc (a + 1) rows) (places toc (a + 1) rows)) j 0 < get_or (cond h (a ∷ places toc (a + 1) rows) (places toc (a + 1) rows)) k 0
    by-test on false j k less lt = on j k less lt
    by-test on true j zero less lt = absurd (omega (arith, less))
    by-test on true zero (suc k) less lt = let more = from toc (a + 1) rows k (omega (arith, lt)) in omega (arith, more)
    by-test on true (suc j) (suc k) less lt = on j k (omega (arith, less)) (omega (arith, lt))

-- what was copied of an image
pub kept-at : (toc : Toc) (bytes : ℕ → List ℕ) (a : ℕ) (rows : List ImageRow) (i : ℕ) → i < length rows
    → get_or (kept_parts toc bytes a rows) i Nothing ≡ copied_part (has_image toc (get_or rows i no_row)) (bytes (a + i))
kept-at toc bytes a [] i lt = absurd (omega (arith, lt))
kept-at toc bytes a (r ∷ rows) zero lt = let none : a ≡ a + 0 = omega arith in ap (λ (n : ℕ). copied_part (has_image toc r) (bytes n)) none
kept-at toc bytes a (r ∷ rows) (suc i) lt =
    let more : (a + 1) + i ≡ a + suc i = omega arith in
    kept-at toc bytes (a + 1) rows i (omega (arith, lt)) ∙ ap (λ (n : ℕ). copied_part (has_image toc (get_or rows i no_row)) (bytes n)) more

pub kept-long : (toc : Toc) (bytes : ℕ → List ℕ) (a : ℕ) (rows : List ImageRow) → length (kept_parts toc bytes a rows) ≡ length rows
kept-long toc bytes a [] = refl
kept-long toc bytes a (r ∷ rows) = let rest = kept-long toc bytes (a + 1) rows in omega (arith, rest)

-- none of them is too large
next-fault : (r : ImageRow) (rows : List ImageRow) (toc : Toc)
    → first_size_fault (r ∷ rows) toc ≡ option_or (size_fault r (entry_of toc r.guid)) (first_size_fault rows toc)
unfolding first_size_fault
next-fault r rows toc = refl

pub sizes-fit : (rows : List ImageRow) (toc : Toc) (i : ℕ) (e : Entry) → first_size_fault rows toc ≡ None → i < length rows
    → entry_of toc (get_or rows i no_row).guid ≡ Some e → e.size ≤ 4096 * (get_or rows i no_row).slots
sizes-fit [] toc i e none lt is = absurd (omega (arith, lt))
sizes-fit (r ∷ rows) toc i e none lt is = by-place (λ j less it. sizes-fit rows toc j e (parts.1) less it) i lt is
  where
    both : (o p : Option Reply) → option_or o p ≡ None → (o ≡ None) × (p ≡ None)
    both None p h = (refl, h)
    both (Some r) p h = absurd cc

    parts : (size_fault r (entry_of toc r.guid) ≡ None) × (first_size_fault rows toc ≡ None)
    parts = both (size_fault r (entry_of toc r.guid)) (first_size_fault rows toc) (sym (next-fault r rows toc) ∙ none)

    fits : (b : Bool) → cond b (Some (reply.TooLarge r.guid)) None ≡ None → b ≡ false
    fits true h = absurd cc
    fits false h = refl

    by-place : ((j : ℕ) → j < length rows → entry_of toc (get_or rows j no_row).guid ≡ Some e → e.size ≤ 4096 * (get_or rows j no_row).slots)
        → (i : ℕ) → i < suc (length rows) → entry_of toc (get_or (r ∷ rows) i no_row).guid ≡ Some e → e.size ≤ 4096 * (get_or (r ∷ rows) i no_row).slots
    by-place on zero lt is = ltb-false (4096 * r.slots) e.size (fits (ltb (4096 * r.slots) e.size) (sym (ap (size_fault r) is) ∙ parts.0))
    by-place on (suc i) lt is = on i (omega (arith, lt)) is

-- the entries are those of images of which nothing was copied
pub are-present : (E : Setting) (toc : Toc) (bytes : ℕ → List ℕ) (entries : List Entry) → IsTrue (are_distinct (map (λ r. r.guid) E.layout.rows))
    → ((k : ℕ) → slot_bytes E.layout k ≡ 4096 * (get_or E.layout.rows k no_row).slots)
    → first_size_fault E.layout.rows toc ≡ None → entries ≡ present E.layout.rows toc
    → AreUnstaged E entries (places toc 0 E.layout.rows) (kept_parts toc bytes 0 E.layout.rows)
are-present E toc bytes entries distinct slots none is =
    subst (λ (es : List Entry). AreUnstaged E es (places toc 0 E.layout.rows) (kept_parts toc bytes 0 E.layout.rows)) (sym is) (record {
      count = places-long toc 0 E.layout.rows;
      below = λ k lt. let p = placed toc 0 E.layout.rows k lt in omega (arith, p.below, p.place, kept-long toc bytes 0 E.layout.rows);
      found = λ k lt.
          let p = placed toc 0 E.layout.rows k lt in
          let at : p.at ≡ get_or (places toc 0 E.layout.rows) k 0 = omega (arith, p.place) in
          ap (find_image E.layout.rows) (found-has (guid_in E.layout.rows p.at) toc.entries (get_or (present E.layout.rows toc) k no_entry) p.entry)
          ∙ own-image E.layout.rows p.at distinct p.below ∙ ap Some at;
      fit = λ k lt.
          let p = placed toc 0 E.layout.rows k lt in
          let at : p.at ≡ get_or (places toc 0 E.layout.rows) k 0 = omega (arith, p.place) in
          let e = get_or (present E.layout.rows toc) k no_entry in
          subst (λ (i : ℕ). e.size ≤ slot_bytes E.layout i) at
          (subst (λ (m : ℕ). e.size ≤ m) (sym (slots p.at)) (sizes-fit E.layout.rows toc p.at e none p.below p.entry));
      empty = λ k lt.
          let p = placed toc 0 E.layout.rows k lt in
          let at : p.at ≡ get_or (places toc 0 E.layout.rows) k 0 = omega (arith, p.place) in
          ap (λ (i : ℕ). get_or (kept_parts toc bytes 0 E.layout.rows) i Nothing) (sym at) ∙ kept-at toc bytes 0 E.layout.rows p.at p.below
          ∙ ap (λ (o : Option Entry). copied_part (is_some o) (bytes (0 + p.at))) p.entry;
      apart = λ j k less lt e. let up = rising toc 0 E.layout.rows j k less (omega (arith, lt, places-long toc 0 E.layout.rows)) in absurd (omega (arith, e, up));
    })

-- ---- those that were chosen

or-none : (b : Bool) (o : Option Reply) (g : List ℕ) → cond b o (Some (reply.Missing g)) ≡ None → (b ≡ true) × (o ≡ None)
or-none true o g h = (refl, h)
or-none false o g h = absurd cc

pub present-fit : (rows : List ImageRow) (toc : Toc) (entries : List Entry) → SendsPresent rows toc (Ok entries) → first_size_fault rows toc ≡ None
present-fit rows toc entries are = (or-none (list_any (has_image toc) rows) (first_size_fault rows toc) (get_or rows 0 no_row).guid are.0).1

-- what holds of each entry of a table holds of each of them
pub present-have : (P : Entry → Type 0) (rows : List ImageRow) (toc : Toc) → All P toc.entries → All P (present rows toc)
present-have P rows toc all k d below =
    let p = placed toc 0 rows k below in
    subst P (get_or_default (present rows toc) k no_entry d below)
    (found_has P (get_or rows p.at no_row).guid toc.entries (get_or (present rows toc) k no_entry) all p.entry)

-- the types of a layout's images are known
pub rows-found : (L : Layout) (i : ℕ) → IsTrue (fits_layout L) → i < length L.rows → is_some (find_image L.rows (get_or L.rows i no_row).guid) ≡ true
rows-found L i fit lt = ap (λ (o : Option ℕ). is_some o) (own-image L.rows i (layout-distinct L fit) lt)

pub placed-in : (E : Setting) (L : Layout) (toc : Toc) (bytes : ℕ → List ℕ) (entries : List Entry) → E.layout ≡ L → IsTrue (fits_layout L) → SendsPresent L.rows toc (Ok entries)
    → AreUnstaged E entries (places toc 0 L.rows) (kept_parts toc bytes 0 L.rows)
placed-in E L toc bytes entries layout fit are =
    subst (λ (M : Layout). AreUnstaged E entries (places toc 0 M.rows) (kept_parts toc bytes 0 M.rows)) layout
    (let here = subst (λ (M : Layout). SendsPresent M.rows toc (Ok entries)) (sym layout) are in
    are-present E toc bytes entries (layout-distinct E.layout (subst (λ (M : Layout). IsTrue (fits_layout M)) (sym layout) fit)) (λ k. refl)
    (present-fit E.layout.rows toc entries here) here.1)

pub rows-some : (L : Layout) → IsTrue (fits_layout L) → 0 < length L.rows
rows-some L fit = let two = (layout-limits L fit).rows in omega (arith, two)
