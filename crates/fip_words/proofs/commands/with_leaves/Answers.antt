use Rattle.std.proofs.Common.{◌∙◌, refl, subst}
use Rattle.std.proofs.lemmas.Result.{IfOk-weaker}
use Rattle.clap.specs.Words.{App}
use Rattle.clap_words.specs.Words.{IsApp}
use Rattle.fip_words.proofs.ArgumentLemmas.{all_below, arguments_added, next_below}
use Rattle.fip_words.proofs.commands.with_leaves.Goals as goal

pub loop-leaf-init : goal.loop-leaf-init
loop-leaf-init c = λ a is. (a, is, refl)

pub with_command-requires : goal.with_command-requires
with_command-requires c =
    IfOk-weaker c.with_arguments-below.result _ _ (λ l h. h.globals ∙ c.new.ensures.local) c.with_arguments-below.ensures

pub loop-leaf-preserved : goal.loop-leaf-preserved
loop-leaf-preserved c = λ a is.
    let so_far = c.loop-leaf.invariant a is in
    let below =
    IfOk-weaker c.with_arguments-below.result _ _
    (λ l h. arguments_added (record { app = c.new.ensures.app; globals = c.new.ensures.local }) h) c.with_arguments-below.ensures in (
      _,
      c.in_ok-command.ensures _ _ so_far.1 below,
      next_below c.args.leaves.now c.loop-leaf.leaf-index _ a so_far.0 c.loop-leaf-test.true so_far.2,
    )

pub returns : goal.returns
returns c = λ a is.
    let so_far = c.loop-leaf.invariant a is in
    subst (λ (x : App). IsApp c.loop-leaf.command x)
    (all_below c.args.leaves.now c.loop-leaf.leaf-index a so_far.0 c.loop-leaf-test.false so_far.2) so_far.1
