use Rattle.std.proofs.Common.{◌≡◌, ◌≢◌, All, Option, length, map, take}
use Rattle.host_io.specs.{Access.Access, Access.Asks, Contents.Directory}
use Rattle.fip_making.specs.{Payloads.HasEntry, Payloads.IsElsewhere, Payloads.IsThere, Payloads.file_bytes, Payloads.part_told, Values.updated_part}
use Rattle.fip_making.proofs.payloads.payloads_of_entries.Given as goal

-- the payloads so far are those of the first entries
abbrev pub invariant-loop-entry : goal.invariant-loop-entry
invariant-loop-entry l = record {
  told : (told : Directory)
      → map (part_told told) l.payloads.items ≡ map (updated_part (file_bytes told l.from) (map (part_told told) l.new)) (take l.entry-index l.entries);
  there : (told : Option Directory) → All (IsThere told) l.new × All (HasEntry told l.from) l.entries → All (IsThere told) l.payloads.items;
  elsewhere : (access : Access) → (access ≢ Asks l.from) × IsElsewhere l.new access → IsElsewhere l.payloads.items access;
  count : length l.payloads.items ≡ l.entry-index;
}
