use Rattle.std.proofs.Common.{◌≡◌, ◌≢◌, ◌≤◌, ℕ, All, List, None, Some, filter, length, map, take}
use Rattle.std.specs.List.{concat}
use Rattle.std.specs.Prelude.{◌==◌, ◌||◌}
use Rattle.std.specs.Io.KnownBytes.{Appends}
use Rattle.host_io.specs.{Access.Access, Access.Asks, Access.Makes, Contents.Directory}
use Rattle.fip_tool.specs.{Lines.unpacked_line, Lines.unpacked_name, Steps.NoneUnwritten, Wrote.raised_by}
use Rattle.fip_making.specs.Values.{has_type_among}
use Rattle.fip_tool.proofs.UnpackLemmas.{IsUnpacking}
use Rattle.fip_tool.proofs.unpack.unpack_entries.Given as goal

-- the chosen ones of the entries so far are unpacked
abbrev pub invariant-loop-entry : goal.invariant-loop-entry
invariant-loop-entry g l = record {
  silent : g.H.Files.contents l.fn.files ≡ None → g.H.Files.contents l.files ≡ None;
  spares : (access : Access) → access ≢ Asks l.unpacked.from.now
      → All (λ e. access ≢ Makes (unpacked_name l.unpacked.prefix.now e.guid)) (filter (λ e. (length l.unpacked.names.now == 0) || has_type_among l.unpacked.names.now e) l.entries)
      → g.H.Files.spares l.fn.files l.files access;
  quiet : g.H.Files.faults l.files ≡ g.H.Files.faults l.fn.files;
  unspoiled : NoneUnwritten (g.H.Files.writes l.fn.files) (g.H.Files.writes l.files);
  wrote : (g.H.Files.writes l.files).done ≡ raised_by (length (filter (λ e. (length l.unpacked.names.now == 0) || has_type_among l.unpacked.names.now e) (take l.entry-index l.entries))) (g.H.Files.writes l.fn.files).done;
  later_sink : g.O.Sink.faults l.fn.sink ≤ g.O.Sink.faults l.sink;
  sink_count : g.O.Sink.faults l.sink ≡ g.O.Sink.faults l.fn.sink;
  said : Appends (g.O.Sink.taken l.fn.sink) (g.O.Sink.taken l.sink) (concat (map (unpacked_line l.unpacked.prefix.now) (filter (λ e. (length l.unpacked.names.now == 0) || has_type_among l.unpacked.names.now e) (take l.entry-index l.entries))));
  so-far : (told : Directory) (bytes : List ℕ) → g.H.Files.contents l.fn.files ≡ Some told → told l.unpacked.from.now ≡ Some bytes
      → IsUnpacking l.unpacked.prefix.now l.unpacked.from.now bytes (filter (λ e. (length l.unpacked.names.now == 0) || has_type_among l.unpacked.names.now e) (take l.entry-index l.entries)) told (g.H.Files.contents l.files) (g.O.Sink.taken l.fn.sink) (g.O.Sink.taken l.sink);
}
