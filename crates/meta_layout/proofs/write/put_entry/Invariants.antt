use Rattle.std.proofs.Common.{◌≡◌, ◌+◌, ◌*◌, ◌++◌, take}
use Rattle.std.specs.Prelude.{flat_map}
use Rattle.base_core.specs.Bytes.{listed}
use Rattle.fwu_formats.specs.Layout.{nil_guid}
use Rattle.meta_layout.specs.Entries.{bank_bytes}
use Rattle.meta_layout.proofs.write.put_entry.Given as goal

abbrev pub invariant-loop-bank : goal.invariant-loop-bank
invariant-loop-bank l = record {
  place : l.end ≡ l.at + 32 + 24 * l.bank;
  front : take l.end l.out ≡ take l.at l.fn.out ++ l.guid ++ nil_guid ++ flat_map (bank_bytes l.guid l.meta.meta l.image) (listed l.bank (λ k. k));
}
