use Rattle.std.proofs.Common.{◌≡◌, ◌≢◌, All, Some, Ok, length, map, take, option_map}
use Rattle.std.specs.Prelude.{IfSome}
use Rattle.host_io.specs.{Access.Asks, Contents.Directory, Reads.ReadsFiles}
use Rattle.manifest_core.specs.Shown.{row}
use Rattle.fip_words.specs.Order.{image_view}
use Rattle.fip_making.proofs.ManifestLemmas.{rows_value}
use Rattle.fip_making.proofs.manifests.rows_of_files.Given as goal

-- the files are as they were, and the rows so far are those of the first images
abbrev pub invariant-loop-one : goal.invariant-loop-one
invariant-loop-one g l = record {
  quiet : g.H.Files.faults l.files ≡ g.H.Files.faults l.fn.files;
  files : ReadsFiles g.H.Files (λ access. All (λ w. access ≢ Asks w.file.now) l.named) l.fn.files l.files;
  count : IfSome l.rows (λ v. length v.items ≡ l.one-index);
  so-far : (told : Directory) → g.H.Files.contents l.fn.files ≡ Some told → rows_value told (map image_view (take l.one-index l.named)) ≡ Ok (option_map (λ v. map row v.items) l.rows);
}
