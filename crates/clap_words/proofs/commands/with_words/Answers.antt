use Rattle.std.proofs.Common.{◌≡◌, Some, false, ap}
use Rattle.std.proofs.lemmas.Result.{IfOk-weaker}
use Rattle.clap.specs.{Words.Rule, Words.rule_of, declared.builder.ArgAction.TheVariants.Append}
use Rattle.clap_words.specs.Words.{words}
use Rattle.clap_words.proofs.CommandLemmas.{arg_added}
use Rattle.clap_words.proofs.commands.with_words.Goals as goal

pub returns : goal.returns
returns c =
    let rule_is : rule_of c.action.result ≡ words c.args.id.now = rw c.action.ensures (ap (λ (r : Rule). record r { action = Some Append }) c.new.ensures.rule) in
    let local : c.action.result.global ≡ false = rw c.action.ensures c.new.ensures.optional.1 in
    IfOk-weaker c.arg.result _ _ (λ r h. arg_added rule_is local h) c.arg.ensures
