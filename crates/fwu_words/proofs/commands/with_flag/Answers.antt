use Rattle.std.proofs.Common.{◌≡◌, ◌∙◌, Some, false, ap}
use Rattle.std.proofs.Math.Bool.{or-false}
use Rattle.std.proofs.lemmas.Result.{IfOk-weaker}
use Rattle.clap.specs.{declared.builder.Arg.Arg, declared.builder.ArgAction.TheVariants.SetTrue}
use Rattle.clap.specs.Words.{Rule, app_of, rule_of, with_rule}
use Rattle.fwu_words.specs.Commands.{flag}
use Rattle.fwu_words.proofs.commands.with_flag.Goals as goal

pub returns : goal.returns
returns c =
    let arg_is = c.action.ensures ∙ ap (λ (a : Arg). record a { action = Some SetTrue }) c.long.ensures in
    let rule_is : rule_of c.action.result ≡ flag c.args.id.now =
    ap rule_of arg_is ∙ ap (λ (r : Rule). record r { long = Some c.args.id.now; action = Some SetTrue }) c.new.ensures.rule in
    let local : c.action.result.global ≡ false = ap (λ (a : Arg). a.global) arg_is ∙ c.new.ensures.optional.1 in
    IfOk-weaker c.arg.result _ _ (λ r h. record {
      app = h.shape local ∙ ap (with_rule (app_of c.args.command)) rule_is;
      globals = h.globals ∙ rw local (or-false _);
    }) c.arg.ensures
