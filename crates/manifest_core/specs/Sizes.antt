-- The bytes of the largest manifest, which has 15 rows.
use Rattle.std.specs.Prelude.{ℕ}
use Rattle.fwu_formats.specs.Manifest.{manifest_size, most_rows}

abbrev pub most_manifest_bytes : ℕ
most_manifest_bytes = manifest_size most_rows
