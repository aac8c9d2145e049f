-- The type of each image finds that image, since the types differ.
use Rattle.std.proofs.Common.{◌≡◌, ◌≢◌, cond, ℕ, ◌<◌, Bool, false, List, [], length, map, get_or, inl, inr, Some, None, sym, ap, ◌∙◌, arith}
use Rattle.std.specs.Prelude.{IsTrue, ltb}
use Rattle.std.specs.List.{position_or_len}
use Rattle.std.proofs.lemmas.Bool.{cases_Bool, lt-ltb}
use Rattle.std.proofs.lemmas.List.{length-map, get_or-map, get_or_default}
use Rattle.std.proofs.lemmas.List.Sums.{position_or_len_is}
use Rattle.base_core.specs.Bytes.{same_bytes}
use Rattle.fwu_formats.specs.Layout.{ImageRow, Layout, find_image, fits_layout, are_distinct}
use Rattle.fwu_model.proofs.{Staging.same-self, Staging.same-is, Staging.distinct-at, Selects.layout-distinct}

abbrev pub no_row : ImageRow
no_row = record { guid = []; slots = 0 }

abbrev pub guid_in : List ImageRow → ℕ → List ℕ
guid_in rows k = (get_or rows k no_row).guid

differs : (xs ys : List ℕ) → xs ≢ ys → same_bytes xs ys ≡ false
differs xs ys ne = elim (cases_Bool (same_bytes xs ys)) [ inl e ↦ absurd (ne (same-is xs ys e)) | inr e ↦ e ]

own-place : (rows : List ImageRow) (k : ℕ) → IsTrue (are_distinct (map (λ r. r.guid) rows)) → k < length rows
    → position_or_len (λ (r : ImageRow). same_bytes r.guid (guid_in rows k)) rows ≡ k
own-place rows k distinct lt =
    position_or_len_is (λ (r : ImageRow). same_bytes r.guid (guid_in rows k)) rows k no_row (omega (arith, lt))
    (λ j below. differs (guid_in rows j) (guid_in rows k) (other j below)) (λ there. same-self (guid_in rows k))
  where
    other : (j : ℕ) → j < k → guid_in rows j ≢ guid_in rows k
    other j below e =
        let len = length-map rows (λ (q : ImageRow). q.guid) in
        let far : j < length rows = omega (arith, below, lt) in
        distinct-at (map (λ (q : ImageRow). q.guid) rows) j k distinct (omega (arith, len, far)) (omega (arith, len, lt))
        (λ z. absurd (omega (arith, z, below)))
        (get_or-map (λ (q : ImageRow). q.guid) rows j no_row [] far ∙ e ∙ sym (get_or-map (λ (q : ImageRow). q.guid) rows k no_row [] lt))

pub own-image : (rows : List ImageRow) (k : ℕ) → IsTrue (are_distinct (map (λ r. r.guid) rows)) → k < length rows
    → find_image rows (guid_in rows k) ≡ Some k
own-image rows k distinct lt =
    ap (λ (i : ℕ). cond (ltb i (length rows)) (Some i) None) (own-place rows k distinct lt) ∙ ap (λ (b : Bool). cond b (Some k) None)
    (lt-ltb k (length rows) lt)

pub found-by-row : (L : Layout) (k : ℕ) → IsTrue (fits_layout L) → k < length L.rows → find_image L.rows (get_or L.rows k no_row).guid ≡ Some k
found-by-row L k fits lt = own-image L.rows k (layout-distinct L fits) lt

-- where the row was read
pub found-at : (L : Layout) (rows : List ImageRow) (k : ℕ) (d : ImageRow) → IsTrue (fits_layout L) → k < length L.rows
    → rows ≡ L.rows → find_image L.rows (get_or rows k d).guid ≡ Some k
found-at L rows k d fits lt same =
    let there : get_or rows k d ≡ get_or L.rows k no_row = ap (λ (l : List ImageRow). get_or l k d) same ∙ get_or_default L.rows k d no_row lt in
    ap (λ (r : ImageRow). find_image L.rows r.guid) there ∙ found-by-row L k fits lt
