-- A command with each of its arguments, and a program with each of its commands.
use Rattle.std.proofs.Common.{◌≡◌, ◌∙◌, ◌<◌, ◌≤◌, ◌+◌, ℕ, List, length, drop, get_or, add-one, ap, sym, drop-cons}
use Rattle.std.proofs.lemmas.List.{drop_all}
use Rattle.clap.specs.{Words.App, Words.app_of, declared.builder.Command.Command}
use Rattle.clap_words.specs.Words.{AddsRule, IsApp, with_leaf}
use Rattle.fip_words.specs.{declared.commands.Argument.Argument, declared.commands.Leaf.Leaf}
use Rattle.fip_words.specs.Arguments.{AddsArguments, argument_rule, leaf_app, with_leaves, with_rules}

module _ (arguments : List Argument) (i : ℕ) where
  -- one more is added
  pub next_added : (d : Argument) (first before after : Command) → i < length arguments
      → with_rules (app_of before) (drop i arguments) ≡ with_rules (app_of first) arguments
      → AddsRule before after (argument_rule (get_or arguments i d))
      → with_rules (app_of after) (drop (i + 1) arguments) ≡ with_rules (app_of first) arguments
  next_added d first before after within so_far adds =
      ap (λ (a : App). with_rules a (drop (i + 1) arguments)) adds.app
      ∙ rw add-one (ap (with_rules (app_of before)) (sym (drop-cons arguments i d within)) ∙ so_far)

  -- all are added
  pub all_added : (last first : Command) → length arguments ≤ i
      → with_rules (app_of last) (drop i arguments) ≡ with_rules (app_of first) arguments
      → app_of last ≡ with_rules (app_of first) arguments
  all_added last first past so_far = ap (with_rules (app_of last)) (sym (drop_all i arguments past)) ∙ so_far

pub arguments_added : {old new : Command} {a : App} {arguments : List Argument} → IsApp old a → AddsArguments old new arguments
    → IsApp new (with_rules a arguments)
arguments_added {arguments = arguments} is adds = record {
  app = adds.app ∙ ap (λ (x : App). with_rules x arguments) is.app;
  globals = adds.globals ∙ is.globals;
}

module _ (leaves : List Leaf) (i : ℕ) where
  -- one more is below it
  pub next_below : (d : Leaf) (first before : App) → i < length leaves
      → with_leaves before (drop i leaves) ≡ with_leaves first leaves
      → with_leaves (with_leaf before (leaf_app (get_or leaves i d))) (drop (i + 1) leaves) ≡ with_leaves first leaves
  next_below d first before within so_far =
      rw add-one (ap (with_leaves before) (sym (drop-cons leaves i d within)) ∙ so_far)

  -- all are below it
  pub all_below : (first last : App) → length leaves ≤ i → with_leaves last (drop i leaves) ≡ with_leaves first leaves
      → last ≡ with_leaves first leaves
  all_below first last past so_far = ap (with_leaves last) (sym (drop_all i leaves past)) ∙ so_far
