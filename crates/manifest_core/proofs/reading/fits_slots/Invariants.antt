use Rattle.std.proofs.Common.{◌≡◌, ◌<◌, ℕ, true, slice_index_or}
use Rattle.base_core.specs.declared.rows.ImageRow.{ImageRow}
use Rattle.fwu_formats.specs.Manifest.{row_at}
use Rattle.manifest_core.specs.Shown.{fits_slot}
use Rattle.manifest_core.proofs.reading.fits_slots.Given as goal

abbrev pub invariant-loop-j : goal.invariant-loop-j
invariant-loop-j l = (k : ℕ) (d : ImageRow) → k < l.j → true ≡ fits_slot (slice_index_or l.images k d) (row_at l.bytes k)
