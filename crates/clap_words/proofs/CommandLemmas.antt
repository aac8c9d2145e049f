-- A command with one more argument, or with one more command below it.
use Rattle.std.proofs.Common.{◌≡◌, ◌∙◌, false, ap, ap₂}
use Rattle.std.proofs.Math.Bool.{or-false}
use Rattle.clap.specs.{declared.builder.Arg.Arg, declared.builder.Command.Command}
use Rattle.clap.specs.Words.{AddsArg, App, Rule, app_of, rule_of, with_rule}
use Rattle.clap_words.specs.Words.{AddsLeaf, AddsRule, IsApp, with_leaf}

-- what `clap` tells of an argument that it adds
pub arg_added : {old new : Command} {a : Arg} {r : Rule} → rule_of a ≡ r → a.global ≡ false → AddsArg old a new → AddsRule old new r
arg_added {old = old} is local adds = record {
  app = adds.shape local ∙ ap (with_rule (app_of old)) is;
  globals = adds.globals ∙ rw local (or-false _);
}

pub leaf_added : {old leaf new : Command} {a b : App} → IsApp old a → IsApp leaf b → AddsLeaf old leaf new → IsApp new (with_leaf a b)
leaf_added is below adds = record {
  app = adds.app ∙ ap₂ with_leaf is.app below.app;
  globals = adds.globals ∙ is.globals;
}
