-- The commands of a program and their arguments, as they are listed.
use Rattle.std.specs.Prelude.{◌≡◌, List, [], ◌∷◌}
use Rattle.clap.specs.{declared.builder.Command.Command, declared.builder.Command.TheViews.out-Command}
use Rattle.clap.specs.Words.{App, Rule, app_of, new_app, with_rule}
use Rattle.clap_words.specs.Words.{option, some_words, with_leaf, word, words}
use Rattle.fip_words.specs.{declared.commands.Argument.Argument, declared.commands.Leaf.Leaf}
use Rattle.fip_words.specs.declared.commands.Argument.TheVariants.{Setting, Word, Words, SomeWords}

-- what `clap` sees of an argument
abbrev pub argument_rule : Argument → Rule
argument_rule (Setting id) = option id.now
argument_rule (Word id) = word id.now
argument_rule (Words id) = words id.now
argument_rule (SomeWords id) = some_words id.now

-- with each of these arguments, in this order
abbrev pub with_rules : App → List Argument → App
with_rules a [] = a
with_rules a (argument ∷ arguments) = with_rules (with_rule a (argument_rule argument)) arguments

-- `new` is `old` with these arguments
pub record AddsArguments (old new : Command) (arguments : List Argument) : Type 0 where
  pub app : app_of new ≡ with_rules (app_of old) arguments
  pub globals : (out-Command new).has_globals ≡ (out-Command old).has_globals

-- a command of its own, and a program with each of these below it
abbrev pub leaf_app : Leaf → App
leaf_app leaf = with_rules (new_app leaf.name.now) leaf.arguments.now

abbrev pub with_leaves : App → List Leaf → App
with_leaves a [] = a
with_leaves a (leaf ∷ leaves) = with_leaves (with_leaf a (leaf_app leaf)) leaves
