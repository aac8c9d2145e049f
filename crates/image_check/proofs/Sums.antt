-- The blocks of images in order.
use Rattle.std.proofs.Common.{◌≡◌, ℕ, ◌+◌, ◌<◌, ◌≤◌, List, length, get_or, take}
use Rattle.std.proofs.lemmas.List.Sums.{sum_by_more, sum_by_more_le}
use Rattle.fwu_formats.specs.Layout.{ImageRow, slot_total}

module _ (rows : List ImageRow) (k : ℕ) (d : ImageRow) (within : k < length rows) where
  pub total_more : slot_total (take (k + 1) rows) ≡ slot_total (take k rows) + (get_or rows k d).slots
  total_more = sum_by_more (λ r. r.slots) rows k d within

  pub total_more_le : slot_total (take k rows) + (get_or rows k d).slots ≤ slot_total rows
  total_more_le = sum_by_more_le (λ r. r.slots) rows k d within
