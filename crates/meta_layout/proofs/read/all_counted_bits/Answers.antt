use Rattle.std.proofs.Common.{◌≡◌, length, ◌∙◌, arith}
use Rattle.meta_layout.specs.Entries.{bits_at_v1}
use Rattle.meta_layout.proofs.Places.{pushed, length-listed}
use Rattle.meta_layout.proofs.read.all_counted_bits.Goals as goal

pub loop-bank-preserved : goal.loop-bank-preserved
loop-bank-preserved c =
    c.push.ensures ∙ pushed (bits_at_v1 c.args.block.now.layout.now c.args.block.now.bytes.now) c.loop-bank.all c.loop-bank.bank c.counted_bits_at.result c.loop-bank.invariant c.counted_bits_at.ensures

pub push-requires : goal.push-requires
push-requires c =
    let count : length c.loop-bank.all ≡ c.loop-bank.bank = length-listed (bits_at_v1 c.args.block.now.layout.now c.args.block.now.bytes.now) c.loop-bank.all c.loop-bank.bank c.loop-bank.invariant in
    omega (arith, count, c.loop-bank-test.true, c.banks-banks.ensures.high)
