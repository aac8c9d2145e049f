-- The directory of the bank that was started, by what the agent keeps and the manifest on the flash.
use Rattle.std.proofs.Common.{◌≡◌, cond, ℕ, zero, suc, ◌+◌, ◌-◌, ◌*◌, ◌<◌, ◌≤◌, Bool, true, false, List, [], ◌∷◌, ◌++◌, length, get_or, take, drop, map, Option, Some, None, refl, sym, ap, ap₂, ◌∙◌, arith, IsTrue, IsFalse, leb, leb-true}
use Rattle.std.proofs.lemmas.List.FromFn.{get_or-map-range_with_len}
use Rattle.std.proofs.lemmas.Bool.{and_parts}
use Rattle.std.proofs.lemmas.List.{take-take}
use Rattle.std.specs.Prelude.{flat_map, is_some, slice_range}
use Rattle.std.specs.List.{range_with_len, list_all}
use Rattle.base_core.specs.Bytes.{le, num_at, listed}
use Rattle.flash_core.specs.Told.{Told}
use Rattle.fwu_formats.specs.{Metadata.bit_number, Manifest.manifest_size, Manifest.row_at, Manifest.version, Image.package_in}
use Rattle.fwu_formats.specs.Layout.{ImageRow, Layout, start, slot_bytes, fits_layout, is_row}
use Rattle.fwu_formats.proofs.{SealLaws.limits, Spell.part_front, Written.rows-fit}
use Rattle.fwu_model.specs.{State.State, State.Bank, State.bank, State.no_bank, Sound.Setting, Seen.bank_in}
use Rattle.fwu_model.specs.Answer.{directory, directory_row, booted_package, held_package, version_in}
use Rattle.agent_machine.specs.{Fields.Fields, Machine.state_in, Knows.Fitting, Knows.Knows}
use Rattle.agent_machine.specs.Directory.{version_by, directory_row_by, directory_by, directory_head, manifest_in}
use Rattle.agent_machine.proofs.{Held.IsInSlots, Held.held-in-slots, Totals.held-long}

-- rows of images below a bound
flat-same : (f g : ℕ → List ℕ) (from n : ℕ) → ((i : ℕ) → from ≤ i → i < from + n → f i ≡ g i)
    → flat_map f (map (λ (i : ℕ). i) (range_with_len from n)) ≡ flat_map g (map (λ (i : ℕ). i) (range_with_len from n))
flat-same f g from zero same = refl
flat-same f g from (suc n) same =
    ap₂ (λ (a b : List ℕ). a ++ b) (same from (omega arith) (omega arith))
    (flat-same f g (from + 1) n (λ i low high. same i (omega (arith, low)) (omega (arith, high))))

pub some-of : (o : Option (List (List ℕ))) → IsTrue (is_some o) → o ≡ Some (held_package o)
some-of None h = absurd cc
some-of (Some p) h = refl

held-by : (b : Bool) (o : Option (List (List ℕ))) → IsFalse b → cond b None o ≡ o
held-by true o h = absurd cc
held-by false o h = refl

module _ (E : Setting) (f : Fields) (t : Told) (same : E.layout ≡ f.layout) (fitting : Fitting f) (knows : Knows f t) where
  abbrev s : State
  s = state_in f t.now

  abbrev p : List (List ℕ)
  p = held_package (package_in f.layout t.now f.boot)

  abbrev manifest : List ℕ
  manifest = manifest_in f.layout t.now f.boot

  bank-is : bank s f.boot ≡ bank_in f.layout t.now f.meta.meta f.boot
  bank-is = get_or-map-range_with_len (bank_in f.layout t.now f.meta.meta) 0 f.layout.banks f.boot f.boot no_bank fitting.boot (omega arith)

  held-is : (bank s f.boot).held ≡ package_in f.layout t.now f.boot
  held-is = ap (λ (k : Bank). k.held) bank-is ∙ held-by _ (package_in f.layout t.now f.boot) knows.used

  pub package-is : booted_package s f.boot ≡ p
  package-is = ap held_package held-is

  in-slots : IsInSlots f.layout t.now f.boot p
  in-slots = held-in-slots f.layout t.now f.boot p (let few = limits f.layout fitting.layout in omega (arith, few.fewest_images))
      (some-of (package_in f.layout t.now f.boot) knows.held)

  version-is : (image : ℕ) → image < length f.layout.rows → version_in p image ≡ version_by manifest image
  unfolding version
  version-is zero lt = ap (λ (l : List ℕ). num_at 4 l 8) in-slots.manifest
  version-is (suc j) lt = in-slots.versions j (omega (arith, lt)) ∙ ap (λ (l : List ℕ). (row_at l j).version) in-slots.manifest

  abbrev row_with : ℕ → Layout → ℕ → ℕ → Bool → List ℕ
  row_with image L long number bit =
      (get_or L.rows image (record { guid = []; slots = 0 })).guid ++ le 4 (slot_bytes L image) ++ le 4 long ++ le 4 number ++ le 4 (bit_number bit)

  row-is : (image : ℕ) → image < length f.layout.rows → directory_row E s f.boot image ≡ directory_row_by f.layout f.meta.meta f.boot f.lengths manifest image
  row-is image lt =
      let q = booted_package s f.boot in
      let bit = get_or (bank s f.boot).bits image false in
      let long : length (get_or q image []) ≡ get_or f.lengths image 0 = ap (λ (o : List (List ℕ)). length (get_or o image [])) package-is
      ∙ sym (held-long f p image knows.lengths_are lt) in
      let number : version_in q image ≡ version_by manifest image = ap (λ (o : List (List ℕ)). version_in o image) package-is ∙ version-is image lt in
      ap (λ (L : Layout). row_with image L (length (get_or q image [])) (version_in q image) bit) same
      ∙ ap (λ (n : ℕ). row_with image f.layout n (version_in q image) bit) long
      ∙ ap (λ (n : ℕ). row_with image f.layout (get_or f.lengths image 0) n bit) number
      ∙ ap (λ (k : Bank). row_with image f.layout (get_or f.lengths image 0) (version_by manifest image) (get_or k.bits image false)) bank-is

  pub directory-is : directory E s f.boot ≡ directory_by f.layout f.meta.meta f.boot f.lengths manifest
  unfolding directory directory_by
  directory-is =
      ap (λ (L : Layout). directory_head L f.boot ++ flat_map (directory_row E s f.boot) (listed (length L.rows) (λ (image : ℕ). image))) same
      ∙ ap (λ (rows : List ℕ). directory_head f.layout f.boot ++ rows)
      (flat-same (directory_row E s f.boot) (directory_row_by f.layout f.meta.meta f.boot f.lengths manifest) 0 (length f.layout.rows)
      (λ i low high. row-is i (omega (arith, high))))

-- ---- what is read of the flash for it

-- a manifest is shorter than the slot of image 0
pub manifest-fits : (L : Layout) → IsTrue (fits_layout L) → manifest_size (length L.rows - 1) ≤ slot_bytes L 0
manifest-fits L fits =
    let few = limits L fits in
    let row = rows-some L.rows 0 (rows-fit L fits) (omega (arith, few.fewest_images)) in
    omega (arith, few.most_images, row)
  where
    one-some : (r : ImageRow) → IsTrue (is_row r) → 1 ≤ r.slots
    one-some r h = leb-true 1 r.slots (and_parts _ (leb 1 r.slots) (and_parts _ (leb r.slots 256) h).0).1

    rows-some : (rows : List ImageRow) (i : ℕ) → IsTrue (list_all is_row rows) → i < length rows → 1 ≤ (get_or rows i (record { guid = []; slots = 0 })).slots
    rows-some [] i h lt = absurd (omega (arith, lt))
    rows-some (r ∷ rows) zero h lt = one-some r (and_parts (is_row r) _ h).0
    rows-some (r ∷ rows) (suc i) h lt = rows-some rows i (and_parts (is_row r) _ h).1 (omega (arith, lt))

pub manifest-read : (L : Layout) (now bytes : List ℕ) (bank first size : ℕ) → IsTrue (fits_layout L) → first ≡ start L bank 0
    → size ≡ manifest_size (length L.rows - 1) → bytes ≡ slice_range now (4096 * first) (4096 * first + size)
    → bytes ≡ manifest_in L now bank
manifest-read L now bytes bank first size fits at long is =
    let span : 4096 * first + size - 4096 * first ≡ size = omega arith in
    is ∙ ap (λ (k : ℕ). take k (drop (4096 * first) now)) (span ∙ long)
    ∙ ap (λ (b : ℕ). take (manifest_size (length L.rows - 1)) (drop (4096 * b) now)) at
    ∙ sym (take-take (manifest_size (length L.rows - 1)) (slot_bytes L 0) (drop (4096 * start L bank 0) now) (manifest-fits L fits))

-- a piece of what stands at the front
pub piece-at : (all bytes : List ℕ) (at n size : ℕ) → at + n ≤ size → take size all ≡ bytes → slice_range all at (at + n) ≡ take n (drop at bytes)
piece-at all bytes at n size fits is =
    let span : at + n - at ≡ n = omega arith in
    ap (λ (k : ℕ). take k (drop at all)) span ∙ sym (part_front n at size all fits) ∙ ap (λ (l : List ℕ). take n (drop at l)) is
