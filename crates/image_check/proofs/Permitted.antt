-- Good verdicts and permitted packages.
use Rattle.std.proofs.Common.{◌≡◌, ℕ, suc, ◌+◌, ◌-◌, ◌≤◌, ◌<◌, Bool, true, false, ◌&&◌, List, [], ◌∷◌, length, get_or, take, Result, Ok, Err, Option, Some, None, is_none, is_ok, refl, sym, ap, ◌∙◌, subst, arith, add-one, eqb, eq-eqb, inl, inr, leb, leb-true, le-leb, ltb}
use Rattle.std.proofs.lemmas.Bool.{cases_Bool, and_parts, and_from, cond_both, le-ltb, ltb-false}
use Rattle.std.proofs.lemmas.List.{length-take-le}
use Rattle.std.proofs.lemmas.List.FromFn.{length-map-range_with_len}
use Rattle.std.proofs.lemmas.Option.{same_Some}
use Rattle.std.specs.Prelude.{IsTrue, not, if◌then◌else◌}
use Rattle.base_core.specs.Bytes.{num_at, listed}
use Rattle.fwu_formats.specs.{Layout.Layout, Layout.fits_layout, declared.kinds.ManifestFault.ManifestFault}
use Rattle.fwu_formats.specs.Manifest.{Manifest, manifest_of, manifest_at, manifest_size, row_at, all_paired, is_image_of, is_complete, version, manifest_part}
use Rattle.fwu_formats.specs.Image.{slot, images_in, package_by, package_in}
use Rattle.fwu_model.specs.Sound.{Setting, is_permitted, holds_permitted}
use Rattle.fwu_formats.proofs.{SealLaws.limits, Spell.num_front}
use Rattle.manifest_core.proofs.{InTurn.of_front, Passed.manifest_passed}
use Rattle.image_check.specs.declared.bank.Verdict.TheVariants as verdict
use Rattle.image_check.specs.Verdict.{lowest_bad, by_images, by_manifest, package_has_image, verdict_on}
use Rattle.image_check.specs.Law.{GoodIsHeld, GoodIsPermitted, PermittedIsGood, verdict_may_start}
use Rattle.image_check.specs.declared.bank.Verdict.{Verdict}
use Rattle.image_check.proofs.OfBank.{none_said}

-- ---- a package is complete where no image is bad

first-test : (b rest : Bool) (n : ℕ) (o : Option ℕ) → rest ≡ is_none o → (b && rest) ≡ is_none (if b then o else Some n)
first-test true rest n o h = h
first-test false rest n o h = refl

paired-lowest : {X Y : Type 0} (test : X → Y → Bool) (dx : X) (dy : Y) (good : ℕ → Bool) (k : ℕ) (xs : List X) (ys : List Y) → length ys ≡ length xs
    → ((j : ℕ) → j < length xs → good (k + j) ≡ test (get_or xs j dx) (get_or ys j dy)) → all_paired test xs ys ≡ is_none (lowest_bad good k (length xs))
paired-lowest test dx dy good k [] ys same each = refl
paired-lowest test dx dy good k (x ∷ xs) [] same each = absurd (omega (arith, same))
paired-lowest test dx dy good k (x ∷ xs) (y ∷ ys) same each =
    let at : k ≡ k + 0 = omega arith in
    let here : good k ≡ test x y = ap good at ∙ each 0 (omega arith) in
    let rest = paired-lowest test dx dy good (k + 1) xs ys (omega (arith, same)) (λ j h. ap good (omega arith) ∙ each (suc j) (omega arith)) in
    rw here (first-test (test x y) _ (k + 1) _ rest)

module _ (L : Layout) (image : List ℕ) (bank : ℕ) (fits : IsTrue (fits_layout L)) (m : Manifest) (h : manifest_of L.rows (slot L image bank 0) ≡ Ok m) where
  abbrev pub front : List ℕ
  front = slot L image bank 0

  abbrev pub parts : List (List ℕ)
  parts = images_in L image bank m

  abbrev size : ℕ
  size = manifest_size (length L.rows - 1)

  long : size ≤ length front
  long = (manifest_passed L.rows front m h).long

  is : manifest_at (take size front) ≡ m
  is = (manifest_passed L.rows front m h).is

  count : length m.rows ≡ length L.rows - 1
  count =
      ap (λ (k : Manifest). length k.rows) (sym is)
      ∙ length-map-range_with_len (row_at (take size front)) 0 (num_at 4 (take size front) 12)
      ∙ num_front 4 12 size front (omega arith) ∙ (manifest_passed L.rows front m h).count

  manifest-is : take (manifest_size (length m.rows)) front ≡ take size front
  manifest-is = ap (λ (n : ℕ). take (manifest_size n) front) count

  reads : manifest_of L.rows (take (manifest_size (length m.rows)) front) ≡ Ok m
  reads = ap (manifest_of L.rows) manifest-is ∙ of_front L.rows front long ∙ h

  says : manifest_at (take (manifest_size (length m.rows)) front) ≡ m
  says = ap manifest_at manifest-is ∙ is

  pub version-is : version parts ≡ m.security
  unfolding version
  version-is = ap (λ (k : Manifest). k.security) says

  complete-is : is_complete L.rows parts ≡ is_none (lowest_bad (package_has_image m parts) 0 (length m.rows))
  unfolding is_complete
  complete-is =
      let limit = limits L fits in
      let rest = listed (length m.rows) (λ (j : ℕ). take (get_or m.rows j none_said).size (slot L image bank (j + 1))) in
      let rest-long : length rest ≡ length m.rows = length-map-range_with_len (λ (j : ℕ). take (get_or m.rows j none_said).size (slot L image bank (j + 1))) 0 (length m.rows) in
      let all : eqb (length parts) (length L.rows) ≡ true = eq-eqb _ _ (omega (arith, rest-long, count, limit.fewest_images)) in
      let ok : is_ok (manifest_of L.rows (take (manifest_size (length m.rows)) front)) ≡ true = ap is_ok reads in
      let sized : eqb (length (take (manifest_size (length m.rows)) front)) size ≡ true = eq-eqb _ _ (ap length manifest-is ∙ length-take-le size front long) in
      rw (all, ok, sized)
      (ap (λ (k : Manifest). all_paired is_image_of k.rows rest) says
      ∙ paired-lowest is_image_of none_said [] (package_has_image m parts) 0 m.rows rest rest-long
      (λ j below. ap (λ (n : ℕ). is_image_of (get_or m.rows n none_said) (get_or parts (n + 1) [])) (omega arith) ∙ ap (λ (n : ℕ). is_image_of (get_or m.rows j none_said) (get_or parts n [])) (add-one j)))

-- ---- what a good verdict says

record IsGood (accepted : Bool) (bad : Option ℕ) (counter w v : ℕ) : Type 0 where
  passed : accepted ≡ true
  none : bad ≡ None
  enough : ltb w counter ≡ false
  same : w ≡ v

enough-parts : (less : Bool) (counter w v : ℕ) → (if less then verdict.BelowCounter w counter else verdict.Good w) ≡ verdict.Good v → (less ≡ false) × (w ≡ v)
enough-parts true counter w v e = absurd cc
enough-parts false counter w v e = (refl, cc)

good-parts : (accepted : Bool) (bad : Option ℕ) (counter w v : ℕ) → (if not accepted then verdict.NotAccepted else by_images counter w bad) ≡ verdict.Good v → IsGood accepted bad counter w v
good-parts false bad counter w v e = absurd cc
good-parts true (Some i) counter w v e = absurd cc
good-parts true None counter w v e = let both = enough-parts (ltb w counter) counter w v e in record { passed = refl; none = refl; enough = both.0; same = both.1 }

good-from : (accepted : Bool) (bad : Option ℕ) (counter w v : ℕ) → IsGood accepted bad counter w v → (if not accepted then verdict.NotAccepted else by_images counter w bad) ≡ verdict.Good v
good-from accepted bad counter w v g = let a = g.passed in let b = g.none in let c = g.enough in rw (a, b, c) (ap verdict.Good g.same)

none-is : (o : Option ℕ) → is_none o ≡ true → o ≡ None
none-is None h = refl
none-is (Some i) h = absurd cc

module _ (E : Setting) (counter : ℕ) (image : List ℕ) (bank v : ℕ) (fits : IsTrue (fits_layout E.layout)) where
  from-good : (r : Result Manifest ManifestFault) → manifest_of E.layout.rows (slot E.layout image bank 0) ≡ r → by_manifest E.passes counter E.layout image bank r ≡ verdict.Good v
      → (p : List (List ℕ)) × (package_by E.layout image bank r ≡ Some p) × IsTrue (is_permitted E counter p) × (version p ≡ v)
  from-good (Err f) h e = absurd cc
  from-good (Ok m) h e =
      let p = images_in E.layout image bank m in
      let g = good-parts (E.passes (manifest_part p)) (lowest_bad (package_has_image m p) 0 (length m.rows)) counter m.security v e in
      let whole : is_complete E.layout.rows p ≡ true = complete-is E.layout image bank fits m h ∙ ap is_none g.none in
      let says = version-is E.layout image bank fits m h in
      let enough : counter ≤ version p = omega (arith, says, ltb-false m.security counter g.enough) in
      (p, rw whole refl, and_from _ _ (le-leb counter (version p) enough) g.passed, says ∙ g.same)

  from-permitted : (r : Result Manifest ManifestFault) → manifest_of E.layout.rows (slot E.layout image bank 0) ≡ r
      → (p : List (List ℕ)) → package_by E.layout image bank r ≡ Some p → IsTrue (is_permitted E counter p) → version p ≡ v
      → by_manifest E.passes counter E.layout image bank r ≡ verdict.Good v
  from-permitted (Err f) h p e permitted is = absurd cc
  from-permitted (Ok m) h p e permitted is =
      let q = images_in E.layout image bank m in
      cond_both (is_complete E.layout.rows q) (Some q) None (λ (o : Option (List (List ℕ))). o ≡ Some p → by_manifest E.passes counter E.layout image bank (Ok m) ≡ verdict.Good v)
      (λ whole f.
      let same : q ≡ p = same_Some q p f in
      let both = and_parts (leb counter (version q)) _ (subst (λ (x : List (List ℕ)). IsTrue (is_permitted E counter x)) (sym same) permitted) in
      let says = version-is E.layout image bank fits m h in
      good-from (E.passes (manifest_part q)) (lowest_bad (package_has_image m q) 0 (length m.rows)) counter m.security v (record {
        passed = both.1;
        none = none-is _ (sym (complete-is E.layout image bank fits m h) ∙ whole);
        enough = le-ltb m.security counter (omega (arith, says, leb-true counter (version q) both.0));
        same = sym says ∙ ap version same ∙ is;
      }))
      (λ no f. absurd cc) e

pub good : GoodIsPermitted
unfolding verdict_on package_in
good E counter image bank v fits e = from-good E counter image bank v fits (manifest_of E.layout.rows (slot E.layout image bank 0)) refl e

pub permitted : PermittedIsGood
unfolding verdict_on package_in
permitted E counter image bank v fits h = from-permitted E counter image bank v fits (manifest_of E.layout.rows (slot E.layout image bank 0)) refl h.0 h.1 h.2 h.3

-- ---- the same as a test

started : (w : Verdict) → verdict_may_start w ≡ true → (v : ℕ) × (w ≡ verdict.Good v)
started (verdict.Good v) h = (v, refl)
started other h = absurd cc

held-parts : (E : Setting) (counter : ℕ) (o : Option (List (List ℕ))) → holds_permitted E counter o ≡ true → (p : List (List ℕ)) × (o ≡ Some p) × IsTrue (is_permitted E counter p)
held-parts E counter None h = absurd cc
held-parts E counter (Some p) h = (p, refl, h)

pub held : GoodIsHeld
held E counter image bank fits =
    let w = verdict_on E.passes counter E.layout image bank in
    let o = package_in E.layout image bank in
    elim (cases_Bool (verdict_may_start w)) [
      | inl yes-good ↦
          let said = started w yes-good in
          let h = good E counter image bank said.0 fits said.1 in
          yes-good ∙ sym (ap (holds_permitted E counter) h.1 ∙ h.2)
      | inr not-good ↦
          elim (cases_Bool (holds_permitted E counter o)) [
            | inl holds ↦
                let h = held-parts E counter o holds in
                let says = permitted E counter image bank (version h.0) fits (h.0, h.1, h.2, refl) in
                let yes-good : verdict_may_start w ≡ true = ap verdict_may_start says in
                absurd cc
            | inr holds-not ↦ not-good ∙ sym holds-not
          ]
    ]
