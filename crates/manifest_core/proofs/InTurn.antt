-- The manifest's tests one after the other.
use Rattle.std.proofs.Common.{◌≡◌, ℕ, ◌+◌, ◌-◌, ◌*◌, ◌≤◌, ◌<◌, Bool, true, false, not, ◌==◌, List, length, take, drop, Result, Ok, Err, refl, sym, ap, ◌∙◌, arith, ltb, inl, inr}
use Rattle.std.proofs.lemmas.Bool.{cases_eq, ne_eqb, le-ltb, lt-ltb}
use Rattle.std.proofs.lemmas.List.{take_all, length-take-le, take-take, length-drop}
use Rattle.std.specs.Prelude.{if◌then◌else◌, nat_lt}
use Rattle.base_core.specs.Bytes.{num_at, listed, same_bytes}
use Rattle.sha2.specs.Sha256.{sha256}
use Rattle.fwu_formats.specs.{Layout.ImageRow, declared.kinds.ManifestFault.ManifestFault}
use Rattle.fwu_formats.specs.Manifest.{Manifest, manifest_of, manifest_at, manifest_size, manifest_magic, row_at, has_form, is_version_too_high, all_paired}
use Rattle.fwu_formats.specs.declared.kinds.ManifestFault.TheVariants as fault
use Rattle.manifest_core.specs.Shown.{version_of, is_named, fits_slot}
use Rattle.fwu_formats.proofs.Spell.{num_front}

-- the first fault, where tests after the first one are to be true
abbrev pub outcome : {X : Type 0} → Bool → Bool → Bool → Bool → Bool → Bool → Bool → Bool → X → Result X ManifestFault
outcome short magic form passes count order room digest x =
    if short then Err fault.Short
    else if not magic then Err fault.BadMagic
    else if not form then Err fault.BadForm
    else if passes then Err fault.VersionTooHigh
    else if not count then Err fault.BadCount
    else if not order then Err fault.WrongOrder
    else if not room then Err fault.TooLarge
    else if not digest then Err fault.BadDigest
    else Ok x

version_outcome : (short magic form passes count order room digest : Bool) (m : Manifest)
    → version_of (outcome short magic form passes count order room digest m) ≡ outcome short magic form passes count order room digest m.security
version_outcome false true true false true true true true m = refl
version_outcome short magic form passes count order room digest m = refl

-- what the definition says, test by test
pub by_tests : (images : List ImageRow) (bytes : List ℕ) → version_of (manifest_of images bytes)
    ≡ (let count = length images - 1 in
    let whole = take (manifest_size count) bytes in
    let rows = listed (num_at 4 whole 12) (row_at whole) in
    outcome (nat_lt (length bytes) (manifest_size count)) (num_at 4 bytes 0 == manifest_magic) (has_form bytes) (is_version_too_high bytes) (num_at 4 bytes 12 == count)
    (all_paired is_named (drop 1 images) rows) (all_paired fits_slot (drop 1 images) rows)
    (same_bytes (drop (16 + 56 * count) whole) (sha256 (take (16 + 56 * count) bytes))) (num_at 4 whole 8))
unfolding manifest_of
by_tests images bytes = version_outcome _ _ _ _ _ _ _ _ (manifest_at (take (manifest_size (length images - 1)) bytes))

-- the front of the bytes alone counts
pub of_front : (images : List ImageRow) (bytes : List ℕ) → manifest_size (length images - 1) ≤ length bytes
    → manifest_of images (take (manifest_size (length images - 1)) bytes) ≡ manifest_of images bytes
unfolding manifest_of
of_front images bytes long =
    let size = manifest_size (length images - 1) in
    let whole = take size bytes in
    let size_is : length whole ≡ size = length-take-le size bytes long in
    let a : ltb (length whole) size ≡ false = le-ltb _ _ (omega arith) in
    let b : ltb (length bytes) size ≡ false = le-ltb _ _ long in
    let c : take size whole ≡ whole = take_all size whole (omega arith) in
    let d : take (16 + 56 * (length images - 1)) whole ≡ take (16 + 56 * (length images - 1)) bytes = take-take _ size bytes (omega arith) in
    let e = num_front 4 0 size bytes (omega arith) in
    let f = num_front 4 4 size bytes (omega arith) in
    let g = num_front 4 8 size bytes (omega arith) in
    let h = num_front 4 12 size bytes (omega arith) in
    rw (a, b, c, d, e, f, g, h) refl

-- where the count is n, the tests of n rows are those of all rows
counted : {X : Type 0} (a b c d : Bool) (v n : ℕ) (order room : ℕ → Bool) (e : Bool) (x : X)
    → outcome a b c d (v == n) (order v) (room v) e x ≡ outcome a b c d (v == n) (order n) (room n) e x
counted a b c d v n order room e x = elim (cases_eq v n) [
  | inl same ↦ ap (λ (k : ℕ). outcome a b c d (v == n) (order k) (room k) e x) same
  | inr other ↦ rw (ne_eqb v n other) (unequal a b c d)
]
  where
    unequal : (a b c d : Bool) → outcome a b c d false (order v) (room v) e x ≡ outcome a b c d false (order n) (room n) e x
    unequal false true true false = refl
    unequal a b c d = refl

-- what the tests of the code say of a manifest's bytes, where the others are all images but the first
pub whole_is : (rows others : List ImageRow) (whole : List ℕ) → others ≡ drop 1 rows → length whole ≡ manifest_size (length rows - 1)
    → (magic form passes count order room digest : Bool)
    → magic ≡ (num_at 4 whole 0 == manifest_magic) → form ≡ has_form whole → passes ≡ is_version_too_high whole → count ≡ (num_at 4 whole 12 == length others)
    → order ≡ all_paired is_named others (listed (length others) (row_at whole))
    → room ≡ all_paired fits_slot others (listed (length others) (row_at whole))
    → digest ≡ same_bytes (drop (16 + 56 * length others) whole) (sha256 (take (16 + 56 * length others) whole))
    → outcome false magic form passes count order room digest (num_at 4 whole 8) ≡ version_of (manifest_of rows whole)
whole_is rows others whole are size magic form passes count order room digest ea eb ec ed ee ef eg =
    let n = length others in
    let n_is : n ≡ length rows - 1 = ap length are ∙ length-drop 1 rows in
    let count_is : length rows - 1 ≡ n = sym n_is in
    let size_is : length whole ≡ manifest_size n = size ∙ ap manifest_size (sym n_is) in
    let all : take (manifest_size n) whole ≡ whole = take_all _ whole (omega (arith, size_is)) in
    let long : ltb (length whole) (manifest_size n) ≡ false = le-ltb _ _ (omega (arith, size_is)) in
    let images : drop 1 rows ≡ others = sym are in
    let here = counted false (num_at 4 whole 0 == manifest_magic) (has_form whole) (is_version_too_high whole) (num_at 4 whole 12) n
    (λ k. all_paired is_named others (listed k (row_at whole)))
    (λ k. all_paired fits_slot others (listed k (row_at whole)))
    (same_bytes (drop (16 + 56 * n) whole) (sha256 (take (16 + 56 * n) whole))) (num_at 4 whole 8) in
    rw (ea, eb, ec, ed, ee, ef, eg) (sym here ∙ sym (by_tests rows whole ∙ rw (count_is, all, long, images) refl))

-- too few bytes
pub short_is : (rows : List ImageRow) (bytes : List ℕ) → length bytes < manifest_size (length rows - 1)
    → Err fault.Short ≡ version_of (manifest_of rows bytes)
short_is rows bytes short =
    let less : ltb (length bytes) (manifest_size (length rows - 1)) ≡ true = lt-ltb _ _ short in
    sym (by_tests rows bytes ∙ rw less refl)
