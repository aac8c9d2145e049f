use Rattle.std.proofs.Common.{◌≡◌, ◌∙◌, Some, false, true, ap}
use Rattle.std.proofs.lemmas.Result.{IfOk-weaker}
use Rattle.clap.specs.{Words.Rule, Words.rule_of, declared.builder.Arg.Arg, declared.builder.ArgAction.TheVariants.Append}
use Rattle.clap_words.specs.Words.{some_words}
use Rattle.clap_words.proofs.CommandLemmas.{arg_added}
use Rattle.clap_words.proofs.commands.with_some_words.Goals as goal

pub returns : goal.returns
returns c =
    let arg_is = c.required.ensures ∙ ap (λ (a : Arg). record a { required = true }) c.action.ensures in
    let rule_is : rule_of c.required.result ≡ some_words c.args.id.now = ap rule_of arg_is ∙ ap (λ (r : Rule). record r { action = Some Append; required = true }) c.new.ensures.rule in
    let local : c.required.result.global ≡ false = ap (λ (a : Arg). a.global) arg_is ∙ c.new.ensures.optional.1 in
    IfOk-weaker c.arg.result _ _ (λ r h. arg_added rule_is local h) c.arg.ensures
