use Rattle.std.proofs.Common.{◌≡◌, ℕ, ◌*◌, ◌<◌, ◌≤◌, length, get_or, drop, Some}
use Rattle.fwu_formats.specs.Package.{entry_of}
use Rattle.fip_tables.specs.Images.{images_fault, no_entry}
use Rattle.fwu_formats.specs.Layout.{no_row}
use Rattle.fip_tables.proofs.images.images_of.Given as goal

abbrev pub invariant-loop-k : goal.invariant-loop-k
invariant-loop-k l = record {
  rest : images_fault l.rows l.toc ≡ images_fault (drop l.k l.rows) l.toc;
  count : length l.entries ≡ l.k;
  each : (j : ℕ) → j < l.k → entry_of l.toc (get_or l.rows j no_row).guid ≡ Some (get_or l.entries j no_entry);
  fit : (j : ℕ) → j < l.k → (get_or l.entries j no_entry).size ≤ 4096 * (get_or l.rows j no_row).slots;
}
