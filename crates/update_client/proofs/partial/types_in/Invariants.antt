use Rattle.std.proofs.Common.{◌≡◌, length, take}
use Rattle.update_client.specs.Partial.{entry_types}
use Rattle.update_client.proofs.partial.types_in.Given as goal

abbrev pub invariant-loop-k : goal.invariant-loop-k
invariant-loop-k l = record {
  long : length l.types ≡ 16;
  first : take l.k l.types ≡ entry_types (take l.k l.entries);
}
