use Rattle.std.proofs.Common.{◌<◌, length, arith}
use Rattle.fwu_model.specs.Text.{bank_state_text}
use Rattle.fwu_formats.specs.declared.kinds.BankState.TheVariants.{Invalid}
use Rattle.fwu_journal.proofs.Joined.{pieces-more, length-more}
use Rattle.fwu_journal.proofs.numbers.add_states.Goals as goal

pub loop-bank-preserved : goal.loop-bank-preserved
loop-bank-preserved c =
    let within : c.loop-bank.bank < length c.args.states.now = omega (arith, c.len-bank-end.ensures.value, c.loop-bank-test.true) in
    record {
      grows = pieces-more bank_state_text c.args.states.now c.loop-bank.bank Invalid c.get.result within c.get.ensures c.loop-bank.invariant.grows c.add_comma.ensures.grows c.add_state.ensures.grows;
      short = omega (arith, length-more bank_state_text c.args.states.now c.loop-bank.bank Invalid c.get.result within c.get.ensures, c.loop-bank.invariant.short, c.add_comma.ensures.short, c.add_state.ensures.short);
    }
