use Rattle.std.proofs.Common.{◌≡◌}
use Rattle.base_core.specs.Bytes.{listed}
use Rattle.meta_layout.specs.Entries.{bits_at_v1}
use Rattle.meta_layout.proofs.read.all_counted_bits.Given as goal

abbrev pub invariant-loop-bank : goal.invariant-loop-bank
invariant-loop-bank l = l.all ≡ listed l.bank (bits_at_v1 l.block.layout.now l.block.bytes.now)
