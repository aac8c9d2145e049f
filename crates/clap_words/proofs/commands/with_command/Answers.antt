use Rattle.std.proofs.lemmas.Result.{IfOk-at_ok, IfOk-weaker}
use Rattle.clap.specs.declared.builder.Command.{Command}
use Rattle.clap_words.specs.Words.{IsApp}
use Rattle.clap_words.proofs.CommandLemmas.{leaf_added}
use Rattle.clap_words.proofs.commands.with_command.Goals as goal

pub returns : goal.returns
returns c = λ a b is below.
    IfOk-weaker c.with_leaf_command.result _ _ (λ r h. leaf_added is (IfOk-at_ok (λ (l : Command). IsApp l b) c.in_ok-leaf.was below) h) c.with_leaf_command.ensures
