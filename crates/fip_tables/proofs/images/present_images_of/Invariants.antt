use Rattle.std.proofs.Common.{◌≡◌, ◌≤◌, ◌++◌, length, drop}
use Rattle.fip_tables.specs.Images.{lowest_fault, present, size_fault}
use Rattle.fip_tables.proofs.images.present_images_of.Given as goal

abbrev pub invariant-loop-k : goal.invariant-loop-k
invariant-loop-k l = record {
  few : length l.entries ≤ l.k;
  entries_are : present l.rows l.toc ≡ l.entries ++ present (drop l.k l.rows) l.toc;
  rest : lowest_fault size_fault l.rows l.toc ≡ lowest_fault size_fault (drop l.k l.rows) l.toc;
}
