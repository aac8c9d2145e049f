-- What was read: metadata has a known version and a bit for each image in each bank, a layout is within its limits, a bank's package is complete.
use Rattle.std.proofs.Common.{◌≡◌, ℕ, ◌+◌, ◌-◌, ◌*◌, ◌<◌, ◌≤◌, Bool, false, List, [], length, get_or, take, drop, Option, Some, None, Result, Ok, Err, refl, ap, subst, ◌∙◌, arith, inl, inr, ◌⊎◌, IsTrue, leb}
use Rattle.std.proofs.lemmas.Bool.{cond_both}
use Rattle.std.proofs.lemmas.Bool.Decides.{nat_tests}
use Rattle.std.proofs.lemmas.List.{length-map}
use Rattle.std.proofs.lemmas.List.FromFn.{length-map-range_with_len, get_or-map-range_with_len}
use Rattle.std.proofs.lemmas.Option.{same_Some}
use Rattle.std.specs.Option.{option_or}
use Rattle.std.specs.Result.{result_ok}
use Rattle.base_core.specs.{Block.block, Bytes.num_at, Bytes.same_bytes}
use Rattle.sha2.specs.Sha256.{sha256}
use Rattle.fwu_formats.specs.Layout.{Layout, ImageRow, layout_of, fits_layout}
use Rattle.fwu_formats.specs.Metadata.{MetaRead, meta_of, meta_read, bits_from, state_at_v1, bits_v1, BankState, Invalid, Valid, Accepted, MetaFault}
use Rattle.fwu_formats.specs.Manifest.{Manifest, all_paired, has_form, is_complete, is_version_too_high, manifest_at, manifest_magic, manifest_of, manifest_size, ManifestFault}
use Rattle.fwu_formats.specs.Image.{deciding, slot, images_in, if_complete, package_by, package_in}
use Rattle.fwu_formats.proofs.SealLaws.{layout-holds, meta-holds}

-- ---- metadata that was read

-- a known version, and a bit for each image in each bank
pub record IsWholeMeta (L : Layout) (r : MetaRead) : Type 0 where
  pub form : (r.form ≡ 1) ⊎ (r.form ≡ 2)
  pub bits : (b : ℕ) → b < L.banks → length (get_or r.meta.bits b []) ≡ length L.rows

pub bits-length : (L : Layout) (from : ℕ) (block : List ℕ) (b : ℕ) → length (bits_from L from block b) ≡ length L.rows
bits-length L from block b = length-map-range_with_len _ 0 (length L.rows)

pub v1-length : (k : BankState) (bits : List Bool) → length (bits_v1 k bits) ≡ length bits
v1-length Invalid bits = length-map bits (λ bit. false)
v1-length Valid bits = refl
v1-length Accepted bits = refl

meta-whole : (L : Layout) (block : List ℕ) (r : MetaRead) → meta_of L block ≡ Ok r → IsWholeMeta L r
meta-whole L block r e =
    elim (meta-holds L block r e).1 [
      | inl two ↦ subst (λ (x : MetaRead). IsWholeMeta L x) two.is (record {
        form = inr refl;
        bits =
            λ b lt. ap length (get_or-map-range_with_len (bits_from L 0x28 block) 0 L.banks b b [] lt (omega arith))
            ∙ bits-length L 0x28 block b;
      })
      | inr one ↦
          let row = λ (b : ℕ). bits_v1 (state_at_v1 L block b) (bits_from L 0x10 block b) in
          subst (λ (x : MetaRead). IsWholeMeta L x) one.is (record {
            form = inl refl;
            bits = λ b lt. ap length (get_or-map-range_with_len row 0 L.banks b b [] lt (omega arith))
                ∙ v1-length (state_at_v1 L block b) (bits_from L 0x10 block b) ∙ bits-length L 0x10 block b;
          })
    ]

-- metadata that is read is that of the block
pub read-is : (L : Layout) (block : List ℕ) (r : MetaRead) → meta_read L block ≡ Some r → meta_of L block ≡ Ok r
unfolding meta_read
read-is L block r e = by-result (meta_of L block) e
  where
    by-result : (x : Result MetaRead MetaFault) → result_ok x ≡ Some r → x ≡ Ok r
    by-result (Ok k) e = ap Ok (same_Some k r e)
    by-result (Err f) e = absurd cc

pub first-whole : (a b : Option MetaRead) (r : MetaRead) → option_or a b ≡ Some r → (a ≡ Some r) ⊎ (b ≡ Some r)
first-whole (Some x) b r e = inl e
first-whole None b r e = inr e

pub deciding-whole : (L : Layout) (image : List ℕ) (r : MetaRead) → deciding L image ≡ Some r → IsWholeMeta L r
unfolding deciding
deciding-whole L image r e =
    elim (first-whole (meta_read L (block 1 image)) (meta_read L (block 2 image)) r e) [ inl h ↦ meta-whole L (block 1 image) r (read-is L (block 1 image) r h) | inr h ↦ meta-whole L (block 2 image) r (read-is L (block 2 image) r h) ]

-- ---- a layout that was read is within its limits

pub layout-fits : (block : List ℕ) (blocks : ℕ) (L : Layout) → layout_of block blocks ≡ Ok L → IsTrue (fits_layout L)
layout-fits block blocks L e = let r = layout-holds block blocks L e in subst (λ (x : Layout). IsTrue (fits_layout x)) r.is r.fits

-- ---- manifests that are read

-- what holds of bytes and a manifest that was read from them
pub record ManifestHolds (images : List ImageRow) (bytes : List ℕ) (m : Manifest) : Type 0 where
  pub long : manifest_size (length images - 1) ≤ length bytes
  pub magic : num_at 4 bytes 0 ≡ manifest_magic
  pub form : IsTrue (has_form bytes)
  pub version : is_version_too_high bytes ≡ false
  pub count : num_at 4 bytes 12 ≡ length images - 1
  pub sizes : IsTrue (all_paired (λ i r. leb r.size (4096 * i.slots)) (drop 1 images) (manifest_at (take (manifest_size (length images - 1)) bytes)).rows)
  pub digest : IsTrue (same_bytes (drop (16 + 56 * (length images - 1)) (take (manifest_size (length images - 1)) bytes)) (sha256 (take (16 + 56 * (length images - 1)) bytes)))
  pub is : manifest_at (take (manifest_size (length images - 1)) bytes) ≡ m

pub manifest-holds : (images : List ImageRow) (bytes : List ℕ) (m : Manifest) → manifest_of images bytes ≡ Ok m → ManifestHolds images bytes m
unfolding manifest_of
manifest-holds images bytes m e = search (arith, nat_tests)

-- ---- packages that are read

complete-is : (rows : List ImageRow) (q p : List (List ℕ)) → if_complete rows q ≡ Some p → IsTrue (is_complete rows p)
complete-is rows q p e =
    cond_both (is_complete rows q) (Some q) None (λ (o : Option (List (List ℕ))). o ≡ Some p → IsTrue (is_complete rows p))
    (λ h f. subst (λ (x : List (List ℕ)). IsTrue (is_complete rows x)) (same_Some q p f) h)
    (λ h f. absurd cc) e

by-complete : (L : Layout) (image : List ℕ) (b : ℕ) (m : Result Manifest ManifestFault) (p : List (List ℕ)) → package_by L image b m ≡ Some p → IsTrue (is_complete L.rows p)
by-complete L image b (Err f) p e = absurd cc
by-complete L image b (Ok m) p e = complete-is L.rows (images_in L image b m) p e

pub package-complete : (L : Layout) (image : List ℕ) (b : ℕ) (p : List (List ℕ)) → package_in L image b ≡ Some p → IsTrue (is_complete L.rows p)
unfolding package_in
package-complete L image b p e = by-complete L image b (manifest_of L.rows (slot L image b 0)) p e
