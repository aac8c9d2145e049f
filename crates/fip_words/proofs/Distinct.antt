-- What is read, where no type is named twice.
use Rattle.std.proofs.Common.{◌≡◌, ℕ, List, [], ◌∷◌, Some, None, true, false, map, refl, ap}
use Rattle.fwu_formats.specs.Layout.{are_distinct}
use Rattle.fip_words.specs.{declared.values.FileWord.FileWord, Order.part_view, Order.image_view}
use Rattle.fip_words.specs.declared.values.ImageWord.{ImageWord}
use Rattle.fip_words.specs.Values.{NamedFile, NamedImage, each, part_of, named_parts_of, named_row_of, named_rows_of}

types-of_parts : (ps : List FileWord) → map (λ (p : NamedFile). p.guid) (map part_view ps) ≡ map (λ (p : FileWord). p.guid) ps
types-of_parts [] = refl
types-of_parts (p ∷ ps) = ap (λ (gs : List (List ℕ)). p.guid ∷ gs) (types-of_parts ps)

types-of_rows : (rs : List ImageWord) → map (λ (r : NamedImage). r.guid) (map image_view rs) ≡ map (λ (r : ImageWord). r.guid) rs
types-of_rows [] = refl
types-of_rows (r ∷ rs) = ap (λ (gs : List (List ℕ)). r.guid ∷ gs) (types-of_rows rs)

pub parts-distinct : (texts : List (List ℕ)) (ps : List FileWord) (gs : List (List ℕ)) → each part_of texts ≡ Some (map part_view ps)
    → gs ≡ map (λ (p : FileWord). p.guid) ps → are_distinct gs ≡ true → named_parts_of texts ≡ Some (map part_view ps)
unfolding named_parts_of
parts-distinct texts ps gs read types differ = rw (read, types-of_parts ps, ← types, differ) refl

pub parts-repeated : (texts : List (List ℕ)) (ps : List FileWord) (gs : List (List ℕ)) → each part_of texts ≡ Some (map part_view ps)
    → gs ≡ map (λ (p : FileWord). p.guid) ps → are_distinct gs ≡ false → named_parts_of texts ≡ None
unfolding named_parts_of
parts-repeated texts ps gs read types same = rw (read, types-of_parts ps, ← types, same) refl

pub rows-distinct : (texts : List (List ℕ)) (rs : List ImageWord) (gs : List (List ℕ)) → each named_row_of texts ≡ Some (map image_view rs)
    → gs ≡ map (λ (r : ImageWord). r.guid) rs → are_distinct gs ≡ true → named_rows_of texts ≡ Some (map image_view rs)
unfolding named_rows_of
rows-distinct texts rs gs read types differ = rw (read, types-of_rows rs, ← types, differ) refl

pub rows-repeated : (texts : List (List ℕ)) (rs : List ImageWord) (gs : List (List ℕ)) → each named_row_of texts ≡ Some (map image_view rs)
    → gs ≡ map (λ (r : ImageWord). r.guid) rs → are_distinct gs ≡ false → named_rows_of texts ≡ None
unfolding named_rows_of
rows-repeated texts rs gs read types same = rw (read, types-of_rows rs, ← types, same) refl
