-- Whether the committed images are a complete package that may be installed, by what is kept of them.
use Rattle.std.specs.Prelude.{ℕ, ◌-◌, Bool, true, false, ◌&&◌, ◌==◌, nat_le, List, length, take, drop, is_ok}
use Rattle.std.specs.List.{list_all}
use Rattle.base_core.specs.Bytes.{num_at, same_bytes, listed}
use Rattle.fwu_formats.specs.Manifest.{Row, manifest_of, manifest_at, manifest_size, all_paired}
use Rattle.agent_kept.specs.{declared.parts.Part.Part, Kept.Kept, Kept.part_at, Kept.size_of}
use Rattle.agent_kept.specs.declared.parts.Part.TheVariants.{Committed}

abbrev pub is_part_committed : Part → Bool
is_part_committed (Committed size digest bit) = true
is_part_committed other = false

-- an image with this length and digest is what the row says
abbrev pub is_part_of : Row → Part → Bool
is_part_of r (Committed size digest bit) = (size == r.size) && same_bytes digest r.digest
is_part_of r other = false

abbrev pub parts_of : Kept → List Part
parts_of k = listed (length k.rows) (part_at k)

abbrev pub manifest_kept : Kept → List ℕ
manifest_kept k = take (manifest_size (length k.rows - 1)) k.front

-- the images behind the manifest are what its rows say
abbrev pub are_rows_kept : Kept → List ℕ → Bool
are_rows_kept k manifest = all_paired is_part_of (manifest_at manifest).rows (drop 1 (parts_of k))

-- all are committed, the first is a manifest that passes and is not below the counter, and each other one is what its row says
unfoldable pub is_installable : (List ℕ → Bool) → ℕ → Kept → Bool
is_installable passes counter k =
    list_all is_part_committed (parts_of k)
    && (size_of (part_at k 0) == manifest_size (length k.rows - 1))
    && is_ok (manifest_of k.rows (manifest_kept k))
    && are_rows_kept k (manifest_kept k)
    && nat_le counter (num_at 4 (manifest_kept k) 8) && passes (manifest_kept k)
