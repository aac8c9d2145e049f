-- The entries of a metadata block, and their places.
use Rattle.std.proofs.lemmas.List.FromFn.{map-range_with_len_more, length-map-range_with_len}
use Rattle.base_core.specs.Bytes.{listed}
use Rattle.std.proofs.Common.{Bool, true, false, ◌&&◌, [], ◌∷◌, ◌++◌, zero-add, ◌≡◌, ℕ, ◌+◌, ◌<◌, List, length, get_or, refl, sym, ap, ◌∙◌}
use Rattle.std.proofs.lemmas.List.{get_or_default}
use Rattle.fwu_formats.specs.{Layout.Layout, Layout.ImageRow, Layout.nil_guid, Metadata.entry_place, Metadata.has_entry}
use Rattle.meta_layout.specs.Entries.{has_entry_at}

pub entry-is : (L : Layout) (from : ℕ) (block : List ℕ) (image : ℕ) (row : ImageRow) (rows : List ImageRow) (at banks : ℕ)
    → row ≡ get_or rows image row → rows ≡ L.rows → image < length rows → at ≡ entry_place L from image → banks ≡ L.banks
    → has_entry_at row.guid block at banks ≡ has_entry L from block image
entry-is L from block image row rows at banks is same lt place count =
    let none : ImageRow = record { guid = nil_guid; slots = 0 } in
    let guid : row.guid ≡ (get_or L.rows image none).guid =
    ap (λ (r : ImageRow). r.guid) (is ∙ get_or_default rows image row none lt ∙ ap (λ l. get_or l image none) same) in
    rw (guid, place, count) refl

-- one more element of a list that is pushed
pub pushed : {X : Type 0} (f : ℕ → X) (xs : List X) (i : ℕ) (x : X) → xs ≡ listed i f → x ≡ f i → xs ++ x ∷ [] ≡ listed (i + 1) f
pushed f xs i x so is = ap (λ l. l ++ x ∷ []) so ∙ ap (λ z. listed i f ++ z ∷ []) is ∙ sym (map-range_with_len_more f 0 i i (zero-add i))

pub length-listed : {X : Type 0} (f : ℕ → X) (xs : List X) (i : ℕ) → xs ≡ listed i f → length xs ≡ i
length-listed f xs i so = ap (λ l. length l) so ∙ length-map-range_with_len f 0 i

pub and-true : (b : Bool) → (b && true) ≡ b
and-true true = refl
and-true false = refl
