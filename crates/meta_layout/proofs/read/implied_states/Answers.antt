use Rattle.std.proofs.Common.{◌≡◌, length, ◌∙◌, arith}
use Rattle.fwu_formats.specs.Metadata.{state_at_v1}
use Rattle.meta_layout.proofs.Places.{pushed, length-listed}
use Rattle.meta_layout.proofs.read.implied_states.Goals as goal

pub loop-bank-preserved : goal.loop-bank-preserved
loop-bank-preserved c =
    c.push.ensures ∙ pushed (state_at_v1 c.args.block.now.layout.now c.args.block.now.bytes.now) c.loop-bank.states c.loop-bank.bank c.implied_state_at.result c.loop-bank.invariant c.implied_state_at.ensures

pub push-requires : goal.push-requires
push-requires c =
    let count : length c.loop-bank.states ≡ c.loop-bank.bank = length-listed (state_at_v1 c.args.block.now.layout.now c.args.block.now.bytes.now) c.loop-bank.states c.loop-bank.bank c.loop-bank.invariant in
    omega (arith, count, c.loop-bank-test.true, c.banks-banks.ensures.high)
