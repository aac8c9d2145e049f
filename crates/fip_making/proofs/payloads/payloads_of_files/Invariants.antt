use Rattle.std.proofs.Common.{◌≡◌, ◌≢◌, All, Some, Ok, length, map, take}
use Rattle.host_io.specs.{Access.Access, Access.Asks, Contents.Directory, Reads.ReadsFiles}
use Rattle.fip_words.specs.Order.{part_view}
use Rattle.fip_making.specs.{Payloads.IsElsewhere, Payloads.IsThere, Payloads.part_told, Values.parts_in}
use Rattle.fip_making.proofs.payloads.payloads_of_files.Given as goal

-- the files are as they were, and the payloads so far are the first files
abbrev pub invariant-loop-one : goal.invariant-loop-one
invariant-loop-one g l = record {
  quiet : g.H.Files.faults l.files ≡ g.H.Files.faults l.fn.files;
  files : ReadsFiles g.H.Files (λ access. All (λ w. access ≢ Asks w.file.now) l.named) l.fn.files l.files;
  count : length l.payloads.items ≡ l.one-index;
  elsewhere : (access : Access) → All (λ w. access ≢ Asks w.file.now) l.named → IsElsewhere l.payloads.items access;
  there : All (IsThere (g.H.Files.contents l.fn.files)) l.payloads.items;
  so-far : (told : Directory) → g.H.Files.contents l.fn.files ≡ Some told → parts_in told (map part_view (take l.one-index l.named)) ≡ Ok (map (part_told told) l.payloads.items);
}
