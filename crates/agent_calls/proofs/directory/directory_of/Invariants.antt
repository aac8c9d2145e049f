use Rattle.std.proofs.Common.{◌≡◌, ◌+◌, ◌*◌, ◌++◌, length, take}
use Rattle.std.specs.Prelude.{flat_map}
use Rattle.base_core.specs.Bytes.{listed}
use Rattle.agent_machine.specs.Directory.{directory_head, directory_row_by}
use Rattle.agent_calls.proofs.directory.directory_of.Given as goal

abbrev pub invariant-loop-image : goal.invariant-loop-image
invariant-loop-image l = record {
  size : length l.out ≡ 528;
  place : l.end ≡ 16 + 32 * l.image;
  front : take l.end l.out ≡ directory_head l.layout l.bank
      ++ flat_map (directory_row_by l.layout l.meta.meta l.bank l.lengths l.manifest) (listed l.image (λ k. k));
}
