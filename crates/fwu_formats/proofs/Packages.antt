-- Worked packages, manifests and lists of digests, each computed.
use Rattle.std.proofs.Common.{◌≡◌, ℕ, true, false, codes, refl, List, [], ◌∷◌, length, take, Ok, Err}
use Rattle.sha2.specs.Sha256.{sha256, hash_after, compress, schedule, first_words, rounds, digest_bytes}
use Rattle.base_core.specs.Bytes.{part}
use Rattle.hex.specs.Hex.{decode_pairs}
use Rattle.fwu_formats.specs.{Package.packed, Digests.digests_of, Digests.passes_listed}
use Rattle.fwu_formats.specs.Manifest.{manifest_bytes, manifest_of, is_complete}
use Rattle.fwu_formats.specs.declared.kinds.ManifestFault.TheVariants as manifest_fault
use Rattle.fwu_formats.proofs.Worked.{tb_fw, nt_fw, manifest_guid, L, changed}

-- the manifest of package pN, of security version N
unfoldable pub manifest : ℕ → List ℕ
manifest security = manifest_bytes (record {
  security = security;
  rows = record { guid = tb_fw; size = 3; version = 7; digest = sha256 (codes "abc") } ∷ record { guid = nt_fw; size = 5; version = 9; digest = sha256 (codes "hello") } ∷ [];
})

unfoldable pub images : ℕ → List (List ℕ)
images security = manifest security ∷ codes "abc" ∷ codes "hello" ∷ []

unfoldable pub fip : ℕ → List ℕ
fip security = packed 0x12345678 0 (record { guid = manifest_guid; flags = 0; bytes = manifest security } ∷ record { guid = tb_fw; flags = 0; bytes = codes "abc" } ∷ record { guid = nt_fw; flags = 0; bytes = codes "hello" } ∷ []) 1

abbrev pub a_fip : List ℕ
a_fip = packed 0x12345678 0 (record { guid = tb_fw; flags = 0; bytes = codes "hello" } ∷ []) 1

package_length : length (fip 2) ≡ 344
unfolding fip manifest packed manifest_bytes sha256 hash_after compress schedule first_words rounds digest_bytes
package_length = refl

package_complete : is_complete L.rows (images 2) ≡ true
unfolding is_complete manifest_of images manifest manifest_bytes sha256 hash_after compress schedule first_words rounds digest_bytes
package_complete = refl

-- form 2 of the manifest has the versions from 224 on
manifest_forms :
    (take 16 (manifest 70000) ≡ 0x46 ∷ 0x57 ∷ 0x4d ∷ 0x46 ∷ 2 ∷ 0 ∷ 0 ∷ 0 ∷ 0x70 ∷ 0x11 ∷ 1 ∷ 0 ∷ 2 ∷ 0 ∷ 0 ∷ 0 ∷ [])
    × (part (manifest 223) 4 12 ≡ 1 ∷ 0 ∷ 0 ∷ 0 ∷ 223 ∷ 0 ∷ 0 ∷ 0 ∷ [])
    × (manifest_of L.rows (changed 8 223 (manifest 224)) ≡ Err manifest_fault.BadForm)
    × (manifest_of L.rows (changed 8 224 (manifest 223)) ≡ Err manifest_fault.VersionTooHigh)
    × (manifest_of L.rows (changed 4 3 (manifest 223)) ≡ Err manifest_fault.BadForm)
unfolding manifest manifest_bytes manifest_of sha256 hash_after compress schedule first_words rounds digest_bytes
manifest_forms = (refl, refl, refl, refl, refl)

-- ---- lists of digests

listed_digest : digests_of (codes "ba7816bf8f01cfea414140de5dae2223b00361a396177a9cb410ff61f20015AD\n") ≡ Ok (sha256 (codes "abc") ∷ [])
unfolding digests_of decode_pairs sha256 hash_after compress schedule first_words rounds digest_bytes
listed_digest = refl

-- the second line has no end
digest_faults : (digests_of [] ≡ Ok []) × (digests_of (codes "00\n") ≡ Err 1) × (digests_of (codes
    "ba7816bf8f01cfea414140de5dae2223b00361a396177a9cb410ff61f20015ad\nba7816bf8f01cfea414140de5dae2223b00361a396177a9cb410ff61f20015ad")
    ≡ Err 2)
unfolding digests_of decode_pairs
digest_faults = (refl, refl, refl)

listed_passes : (passes_listed (sha256 (codes "abc") ∷ []) (codes "abc") ≡ true)
    × (passes_listed (sha256 (codes "abc") ∷ []) (codes "abd") ≡ false)
unfolding passes_listed sha256 hash_after compress schedule first_words rounds digest_bytes
listed_passes = (refl, refl)
