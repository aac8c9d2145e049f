use Rattle.std.proofs.Common.{◌≡◌, ◌∙◌, Some, false, ap}
use Rattle.std.proofs.lemmas.Result.{IfOk-weaker}
use Rattle.clap.specs.{Words.Rule, Words.rule_of, declared.builder.Arg.Arg, declared.builder.ArgAction.TheVariants.Set}
use Rattle.clap_words.specs.Words.{option}
use Rattle.clap_words.proofs.CommandLemmas.{arg_added}
use Rattle.clap_words.proofs.commands.with_option.Goals as goal

pub returns : goal.returns
returns c =
    let arg_is = c.action.ensures ∙ ap (λ (a : Arg). record a { action = Some Set }) c.long.ensures in
    let rule_is : rule_of c.action.result ≡ option c.args.id.now = ap rule_of arg_is ∙ ap (λ (r : Rule). record r { long = Some c.args.id.now; action = Some Set }) c.new.ensures.rule in
    let local : c.action.result.global ≡ false = ap (λ (a : Arg). a.global) arg_is ∙ c.new.ensures.optional.1 in
    IfOk-weaker c.arg.result _ _ (λ r h. arg_added rule_is local h) c.arg.ensures
