use Rattle.std.proofs.Common.{◌≡◌, ◌≢◌, All, Some, Ok, map, take}
use Rattle.host_io.specs.{Access.Asks, Contents.Directory, Reads.ReadsFiles}
use Rattle.fip_words.specs.Order.{image_view}
use Rattle.fip_making.proofs.ManifestLemmas.{longs_value}
use Rattle.fip_making.proofs.manifests.check_sizes.Given as goal

-- the files are as they were, and it is known whether one of the first images is too long
abbrev pub invariant-loop-one : goal.invariant-loop-one
invariant-loop-one g l = record {
  quiet : g.H.Files.faults l.files ≡ g.H.Files.faults l.fn.files;
  files : ReadsFiles g.H.Files (λ access. All (λ w. access ≢ Asks w.file.now) l.named) l.fn.files l.files;
  so-far : (told : Directory) → g.H.Files.contents l.fn.files ≡ Some told → longs_value told (map image_view (take l.one-index l.named)) ≡ Ok l.is_long;
}
