-- The lowest fault of the images, image by image, and those that the table has.
use Rattle.std.proofs.Common.{◌≡◌, cond, ℕ, suc, ◌+◌, ◌-◌, ◌*◌, ◌<◌, ◌≤◌, Bool, true, false, List, [], ◌∷◌, ◌++◌, length, get_or, drop, Option, Some, None, refl, sym, ap, subst, ◌∙◌, arith, add-one, drop-cons, ne_eqb}
use Rattle.std.proofs.lemmas.Bool.{le-ltb}
use Rattle.std.proofs.lemmas.List.{get_or_default, drop_all, append-nil}
use Rattle.std.proofs.lemmas.Option.{same_Some}
use Rattle.std.proofs.lemmas.List.Elements.{All-head, All-tail}
use Rattle.std.specs.Prelude.{◌==◌, ◌||◌, is_some, not}
use Rattle.std.specs.List.{All, cons_option, find, list_any}
use Rattle.std.specs.Option.{option_or}
use Rattle.fwu_formats.specs.{Layout.ImageRow, Package.Entry, Package.Toc, Package.entry_of, Package.has_guid, Layout.no_row, Package.has_image}
use Rattle.fip_tables.specs.declared.images.ImageFault.{ImageFault}
use Rattle.fip_tables.specs.declared.images.ImageFault.TheVariants.{Missing, TooLarge}
use Rattle.fip_tables.specs.Images.{AreImages, ArePresent, lowest_fault, no_entry, present, present_fault, size_fault}

-- ---- the lowest fault

module _ (fault : ImageRow → Option Entry → Option ImageFault) (rows : List ImageRow) (toc : Toc) (k : ℕ) (below : k < length rows) where
  abbrev row : ImageRow
  row = get_or rows k no_row

  abbrev behind : Option ImageFault
  behind = lowest_fault fault (drop (k + 1) rows) toc

  split : lowest_fault fault (drop k rows) toc ≡ option_or (fault row (entry_of toc row.guid)) behind
  split = ap (λ (l : List ImageRow). lowest_fault fault l toc)
      (drop-cons rows k no_row below ∙ ap (λ (n : ℕ). row ∷ drop n rows) (sym (add-one k)))

-- a payload that fits its slot
pub fits : (row : ImageRow) (e : Entry) → e.size ≤ 4096 * row.slots → size_fault row (Some e) ≡ None
fits row e fit = ap (λ (b : Bool). cond b (Some (TooLarge row.guid)) None) (le-ltb (4096 * row.slots) e.size fit)

-- ---- the entries

-- what holds of each entry holds of the one that is found
pub found_has : (P : Entry → Type 0) (guid : List ℕ) (es : List Entry) (e : Entry) → All P es → find (has_guid guid) es ≡ Some e → P e
found_has P guid [] e all is = absurd cc
found_has P guid (x ∷ xs) e all is = by-test (has_guid guid x) (find (has_guid guid) xs) (All-head P x xs all) (λ h. found_has P guid xs e (All-tail P x xs all) h) is
  where
    by-test : (b : Bool) (rest : Option Entry) → P x → (rest ≡ Some e → P e) → cond b (Some x) rest ≡ Some e → P e
    by-test true rest one others h = subst P (same_Some x e h) one
    by-test false rest one others h = others h

-- what holds of each entry of a table holds of each that was chosen
pub chosen_have : (P : Entry → Type 0) (rows : List ImageRow) (toc : Toc) (entries : List Entry) → AreImages rows toc entries → All P toc.entries → All P entries
chosen_have P rows toc entries chosen all k d below =
    let within : k < length rows = omega (arith, below, chosen.count) in
    subst P (get_or_default entries k no_entry d below) (found_has P (get_or rows k no_row).guid toc.entries (get_or entries k no_entry) all (chosen.each k within))

-- ---- those that the table has

-- it has one exactly where an entry is present
pub any_present : (rows : List ImageRow) (toc : Toc) → list_any (has_image toc) rows ≡ not (length (present rows toc) == 0)
any_present [] toc = refl
any_present (r ∷ rows) toc = by-entry (any_present rows toc) (entry_of toc r.guid)
  where
    by-entry : list_any (has_image toc) rows ≡ not (length (present rows toc) == 0) → (o : Option Entry)
        → (is_some o || list_any (has_image toc) rows) ≡ not (length (cons_option o (present rows toc)) == 0)
    by-entry on None = on
    by-entry on (Some e) = sym (ap not (ne_eqb (suc (length (present rows toc))) 0 (λ z. absurd (omega (arith, z)))))

pub present_few : (rows : List ImageRow) (toc : Toc) → length (present rows toc) ≤ length rows
present_few [] toc = omega arith
present_few (r ∷ rows) toc = by-entry (present_few rows toc) (entry_of toc r.guid)
  where
    by-entry : length (present rows toc) ≤ length rows → (o : Option Entry) → length (cons_option o (present rows toc)) ≤ suc (length rows)
    by-entry on None = omega (arith, on)
    by-entry on (Some e) = omega (arith, on)

-- all images were looked at
module _ (rows : List ImageRow) (toc : Toc) (k : ℕ) (entries : List Entry) (all : length rows ≤ k)
    (are : present rows toc ≡ entries ++ present (drop k rows) toc) where
  pub entries_are : entries ≡ present rows toc
  entries_are = sym (are ∙ ap (λ (l : List ImageRow). entries ++ present l toc) (drop_all k rows all) ∙ append-nil entries)

  by_any : (b : Bool) → not (length entries == 0) ≡ b → present_fault rows toc ≡ cond b (lowest_fault size_fault rows toc) (Some (Missing (get_or rows 0 no_row).guid))
  by_any b is = ap (λ (x : Bool). cond x (lowest_fault size_fault rows toc) (Some (Missing (get_or rows 0 no_row).guid)))
      (any_present rows toc ∙ ap (λ (l : List Entry). not (length l == 0)) (sym entries_are) ∙ is)

  pub none_present : (length entries == 0) ≡ true → present_fault rows toc ≡ Some (Missing (get_or rows 0 no_row).guid)
  none_present none = by_any false (ap not none)

  pub all_present : (length entries == 0) ≡ false → lowest_fault size_fault rows toc ≡ lowest_fault size_fault (drop k rows) toc → ArePresent rows toc entries
  all_present some rest = record {
    none = by_any true (ap not some) ∙ rest ∙ ap (λ (l : List ImageRow). lowest_fault size_fault l toc) (drop_all k rows all);
    entries_are = entries_are;
  }
