use Rattle.std.proofs.Common.{◌∙◌, refl}
use Rattle.fip_words.proofs.ArgumentLemmas.{all_added, next_added}
use Rattle.fip_words.proofs.commands.with_arguments.Goals as goal

pub loop-argument-init : goal.loop-argument-init
loop-argument-init c = (refl, refl)

pub loop-argument-preserved : goal.loop-argument-preserved
loop-argument-preserved c =
    let adds = c.in_ok-command.ensures in
    let so_far = c.loop-argument.invariant in (
      next_added c.args.arguments.now c.loop-argument.argument-index _ c.args.command _ _ c.loop-argument-test.true so_far.0 adds,
      adds.globals ∙ so_far.1,
    )

pub returns : goal.returns
returns c =
    let so_far = c.loop-argument.invariant in
    record {
      app = all_added c.args.arguments.now c.loop-argument.argument-index _ c.args.command c.loop-argument-test.false so_far.0;
      globals = so_far.1;
    }
