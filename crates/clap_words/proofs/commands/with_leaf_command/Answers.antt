use Rattle.std.proofs.Common.{◌∙◌}
use Rattle.std.proofs.Math.Bool.{or-false}
use Rattle.std.proofs.lemmas.Result.{IfOk-weaker}
use Rattle.clap_words.proofs.commands.with_leaf_command.Goals as goal

pub returns : goal.returns
returns c =
    IfOk-weaker c.subcommand.result _ _ (λ r h. record {
      app = h.shape c.requires;
      globals = h.globals ∙ rw c.requires (or-false _);
    }) c.subcommand.ensures
