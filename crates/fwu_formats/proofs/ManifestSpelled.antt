-- A manifest that is read has one spelling.
use Rattle.std.proofs.Common.{◌≡◌, ℕ, ◌+◌, ◌-◌, ◌*◌, ◌<◌, ◌≤◌, ◌&&◌, ◌||◌, ◌==◌, IsTrue, IsFalse, ltb, List, [], ◌++◌, length, take, drop, Ok, refl, sym, ap, ◌∙◌, arith}
use Rattle.std.specs.Prelude.{flat_map}
use Rattle.std.specs.List.{range_with_len}
use Rattle.std.proofs.lemmas.Bool.Decides.{nat_tests}
use Rattle.std.proofs.lemmas.List.{take-take, take-append-drop, length-take-le}
use Rattle.std.proofs.lemmas.List.FromFn.{length-map-range_with_len}
use Rattle.sha2.specs.Sha256.{sha256}
use Rattle.base_core.specs.Bytes.{num_at, listed, are_bytes}
use Rattle.base_core.proofs.Spelled.{same_is}
use Rattle.fwu_formats.specs.{Layout.ImageRow, Law.HaveOneSpelling}
use Rattle.fwu_formats.specs.Manifest.{Manifest, manifest_magic, version_limit, form_of, manifest_size, manifest_row_bytes, manifest_body, manifest_bytes, row_at, manifest_at, manifest_of}
use Rattle.fwu_formats.proofs.{Read.manifest-holds, Spell.num_front}
use Rattle.fwu_formats.proofs.OneSpelling.{all-take, flat-map, next, next-num, pieces, layout-one-spelling, meta-one-spelling, record-one-spelling}

form-is : (form security : ℕ) → IsTrue ((form == 1) || ((form == 2) && ltb version_limit security)) → IsFalse ((form == 1) && ltb version_limit security) → form ≡ form_of security
form-is form security has high =
    grind (arith, nat_tests)

module _ (B : List ℕ) (bytes : IsTrue (are_bytes B)) (count : ℕ) (room : manifest_size count ≤ length B) where
  row-spelled : (j : ℕ) → j < count → take 56 (drop (16 + j * 56) B) ≡ manifest_row_bytes (row_at B j)
  row-spelled j lt =
      let p = 16 + 56 * j in
      let place : 16 + j * 56 ≡ p = omega arith in
      let size : num_at 4 B (p + 16) ≡ num_at 4 B (32 + 56 * j) = ap (num_at 4 B) (omega arith) in
      let version : num_at 4 B (p + 20) ≡ num_at 4 B (36 + 56 * j) = ap (num_at 4 B) (omega arith) in
      let digest : take 32 (drop (p + 24) B) ≡ take 32 (drop (40 + 56 * j) B) = ap (λ (k : ℕ). take 32 (drop k B)) (omega arith) in
      let a = next-num B bytes p 16 4 (num_at 4 B (32 + 56 * j)) (take 16 (drop p B)) (omega (arith, lt, room)) refl size in
      let b = next-num B bytes p 20 4 (num_at 4 B (36 + 56 * j)) _ (omega (arith, lt, room)) a version in
      ap (λ (k : ℕ). take 56 (drop k B)) place ∙ next B bytes p 24 32 _ (take 32 (drop (40 + 56 * j) B)) b digest

  rows-spelled : take (count * 56) (drop 16 B) ≡ flat_map manifest_row_bytes (listed count (row_at B))
  rows-spelled =
      pieces B bytes (λ j. manifest_row_bytes (row_at B j)) 16 56 count row-spelled
      ∙ flat-map (λ j. manifest_row_bytes (row_at B j)) (λ (k : ℕ). k) (range_with_len 0 count) ∙ sym (flat-map manifest_row_bytes (row_at B) (range_with_len 0 count))

  body-spelled : num_at 4 B 0 ≡ manifest_magic → num_at 4 B 4 ≡ form_of (num_at 4 B 8) → num_at 4 B 12 ≡ count → take (16 + 56 * count) B ≡ manifest_body (manifest_at B)
  body-spelled magic form counted =
      let m = manifest_at B in
      let rows : length m.rows ≡ num_at 4 B 12 = length-map-range_with_len (row_at B) 0 (num_at 4 B 12) in
      let a = next-num B bytes 0 0 4 manifest_magic [] (omega (arith, room)) refl magic in
      let b = next-num B bytes 0 4 4 (form_of m.security) _ (omega (arith, room)) a form in
      let c = next-num B bytes 0 8 4 m.security _ (omega (arith, room)) b refl in
      let d = next-num B bytes 0 12 4 (length m.rows) _ (omega (arith, room)) c (sym rows) in
      let size : 16 + 56 * count ≡ 16 + count * 56 = omega arith in
      ap (λ (k : ℕ). take k B) size ∙ next B bytes 0 16 (count * 56) _ (flat_map manifest_row_bytes m.rows) d (rows-spelled ∙ ap (λ (k : ℕ). flat_map manifest_row_bytes (listed k (row_at B))) (sym counted))

manifest-one-spelling : (images : List ImageRow) (m : Manifest) (bytes : List ℕ) → IsTrue (are_bytes bytes) → manifest_of images bytes ≡ Ok m → take (manifest_size (length images - 1)) bytes ≡ manifest_bytes m
unfolding manifest_bytes
manifest-one-spelling images m bytes are e =
    let count = length images - 1 in
    let size = manifest_size count in
    let B = take size bytes in
    let r = manifest-holds images bytes m e in
    let room : size ≤ length B = omega (arith, length-take-le size bytes r.long) in
    let fit : IsTrue (are_bytes B) = all-take (λ b. ltb b 256) size bytes are in
    let at = λ (place : ℕ) (low : place + 4 ≤ size). num_front 4 place size bytes low in
    let magic : num_at 4 B 0 ≡ manifest_magic = at 0 (omega arith) ∙ r.magic in
    let form : num_at 4 B 4 ≡ form_of (num_at 4 B 8) = at 4 (omega arith) ∙ form-is (num_at 4 bytes 4) (num_at 4 bytes 8) r.form r.version ∙ ap form_of (sym (at 8 (omega arith))) in
    let counted : num_at 4 B 12 ≡ count = at 12 (omega arith) ∙ r.count in
    let body = body-spelled B fit count room magic form counted in
    let digest : drop (16 + 56 * count) B ≡ sha256 (manifest_body (manifest_at B)) =
    same_is _ _ r.digest ∙ ap sha256 (sym (take-take (16 + 56 * count) size bytes (omega arith)) ∙ body) in
    sym (take-append-drop (16 + 56 * count) B) ∙ ap (λ l. l ++ drop (16 + 56 * count) B) body ∙ ap (λ l. manifest_body (manifest_at B) ++ l) digest
    ∙ ap (λ (x : Manifest). manifest_body x ++ sha256 (manifest_body x)) r.is

pub one-spelling : HaveOneSpelling
one-spelling = record {
  layout = layout-one-spelling;
  metadata = meta-one-spelling;
  counter = record-one-spelling;
  manifest = manifest-one-spelling;
}
