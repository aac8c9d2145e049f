use Rattle.std.proofs.Common.{◌<◌, [], length, arith}
use Rattle.fwu_model.specs.Text.{bits_text}
use Rattle.fwu_journal.proofs.Joined.{pieces-more, length-more}
use Rattle.fwu_journal.proofs.numbers.add_bank_bits.Goals as goal

pub loop-bank-preserved : goal.loop-bank-preserved
loop-bank-preserved c =
    let within : c.loop-bank.bank < length c.args.banks.now = omega (arith, c.len-bank-end.ensures.value, c.loop-bank-test.true) in
    record {
      grows = pieces-more bits_text c.args.banks.now c.loop-bank.bank [] c.get.result.now within c.get.ensures c.loop-bank.invariant.grows c.add_comma.ensures.grows c.add_bits.ensures.grows;
      short = omega (arith, length-more bits_text c.args.banks.now c.loop-bank.bank [] c.get.result.now within c.get.ensures, c.loop-bank.invariant.short, c.add_comma.ensures.short, c.add_bits.ensures.short);
    }
