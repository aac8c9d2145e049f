-- The entry of each image opens that image, since the types differ.
use Rattle.std.proofs.Common.{◌≡◌, cond, ℕ, ◌*◌, ◌<◌, ◌≤◌, Bool, true, false, List, [], ◌∷◌, length, map, replicate, zero, suc, get_or, Option, Some, refl, sym, ap, subst, ◌∙◌, arith}
use Rattle.std.specs.Prelude.{IsTrue}
use Rattle.std.specs.List.{find, range_with_len}
use Rattle.std.proofs.lemmas.List.{length-replicate}
use Rattle.std.proofs.lemmas.List.FromFn.{length-range_with_len, get_or-range_with_len}
use Rattle.fwu_model.specs.{Session.Nothing, Sound.Setting}
use Rattle.fwu_formats.specs.Layout.{find_image, are_distinct, slot_bytes, no_row}
use Rattle.fwu_formats.specs.Package.{Entry, Toc, has_guid}
use Rattle.fwu_model.proofs.Staging.{same-is}
use Rattle.agent_calls.proofs.OwnRows.{guid_in, own-image}
use Rattle.fip_tables.specs.Images.{AreImages, no_entry}
use Rattle.update_client.specs.Images.{AreUnstaged}

pub found-has : (guid : List ℕ) (es : List Entry) (e : Entry) → find (has_guid guid) es ≡ Some e → e.guid ≡ guid
found-has guid [] e is = absurd cc
found-has guid (x ∷ xs) e is = by-test (has_guid guid x) (find (has_guid guid) xs) (λ t. same-is x.guid guid t) (found-has guid xs e) is
  where
    some-is : (x y : Entry) → ◌≡◌ {A = Option Entry} (Some x) (Some y) → x ≡ y
    some-is x y e = cc

    by-test : (b : Bool) (rest : Option Entry) → (b ≡ true → x.guid ≡ guid) → (rest ≡ Some e → e.guid ≡ guid)
        → cond b (Some x) rest ≡ Some e → e.guid ≡ guid
    by-test true rest one others h = ap (λ (y : Entry). y.guid) (sym (some-is x e h)) ∙ one refl
    by-test false rest one others h = others h

pub are-images : (E : Setting) (toc : Toc) (entries : List Entry) → IsTrue (are_distinct (map (λ r. r.guid) E.layout.rows))
    → ((k : ℕ) → slot_bytes E.layout k ≡ 4096 * (get_or E.layout.rows k no_row).slots)
    → AreImages E.layout.rows toc entries
    → AreUnstaged E entries (range_with_len 0 (length E.layout.rows)) (replicate (length E.layout.rows) Nothing)
are-images E toc entries distinct slots chosen = record {
  count = length-range_with_len 0 (length E.layout.rows) ∙ sym chosen.count;
  below = λ k lt. omega (arith, place k lt, chosen.count, lt, length-replicate (length E.layout.rows) Nothing);
  found = λ k lt.
      ap (find_image E.layout.rows) (found-has (guid_in E.layout.rows k) toc.entries (get_or entries k no_entry) (chosen.each k (inside k lt)))
      ∙ own-image E.layout.rows k distinct (inside k lt) ∙ ap Some (sym (place k lt));
  fit = λ k lt. subst (λ (i : ℕ). (get_or entries k no_entry).size ≤ slot_bytes E.layout i) (sym (place k lt))
      (subst (λ (m : ℕ). (get_or entries k no_entry).size ≤ m) (sym (slots k)) (chosen.fit k (inside k lt)));
  empty = λ k lt. nothing-at (length E.layout.rows) (get_or (range_with_len 0 (length E.layout.rows)) k 0);
  apart = λ j k less lt e. absurd (omega (arith, e, less, place k lt, place j (omega (arith, less, lt))));
}
  where
    inside : (k : ℕ) → k < length entries → k < length E.layout.rows
    inside k lt = omega (arith, chosen.count, lt)

    place : (k : ℕ) → k < length entries → get_or (range_with_len 0 (length E.layout.rows)) k 0 ≡ k
    place k lt = let at = get_or-range_with_len 0 (length E.layout.rows) k 0 (inside k lt) in omega (arith, at)

    nothing-at : (m i : ℕ) → get_or (replicate m Nothing) i Nothing ≡ Nothing
    nothing-at zero i = refl
    nothing-at (suc m) zero = refl
    nothing-at (suc m) (suc i) = nothing-at m i
