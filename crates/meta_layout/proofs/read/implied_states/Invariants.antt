use Rattle.std.proofs.Common.{◌≡◌}
use Rattle.base_core.specs.Bytes.{listed}
use Rattle.fwu_formats.specs.Metadata.{state_at_v1}
use Rattle.meta_layout.proofs.read.implied_states.Given as goal

abbrev pub invariant-loop-bank : goal.invariant-loop-bank
invariant-loop-bank l = l.states ≡ listed l.bank (state_at_v1 l.block.layout.now l.block.bytes.now)
