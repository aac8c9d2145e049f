-- What a command line's arguments are made of, and which command its words name.
use Rattle.std.specs.Prelude.{◌≡◌, List, [], ◌∷◌, Option, Some, None, true, false}
use Rattle.clap.specs.{Faults.fault_of, Kinds.Kinds, declared.builder.Command.Command}
use Rattle.clap.specs.Words.{App, Row, Rule, Text, app_of, new_app, new_rule, subcommand_of, with_rule, with_subcommand}
use Rattle.clap.specs.declared.builder.ArgAction.TheVariants.{Set, Append}
use Rattle.clap.specs.declared.builder.Command.TheViews.{out-Command}

-- an argument that has to be there
abbrev pub word : Text → Rule
word id = record (new_rule id) { action = Some Set; required = true }

-- one that may come any number of times, and one that comes once or more
abbrev pub words : Text → Rule
words id = record (new_rule id) { action = Some Append }

abbrev pub some_words : Text → Rule
some_words id = record (new_rule id) { action = Some Append; required = true }

-- an option with a value
abbrev pub option : Text → Rule
option id = record (new_rule id) { long = Some id; action = Some Set }

-- `new` is `old` with one more argument
pub record AddsRule (old new : Command) (r : Rule) : Type 0 where
  pub app : app_of new ≡ with_rule (app_of old) r
  pub globals : (out-Command new).has_globals ≡ (out-Command old).has_globals

-- `new` is `old` with one more command below it
pub record AddsLeaf (old leaf new : Command) : Type 0 where
  pub app : app_of new ≡ with_subcommand (app_of old) (app_of leaf).top
  pub globals : (out-Command new).has_globals ≡ (out-Command old).has_globals

-- a command of this shape, with no global argument
pub record IsApp (c : Command) (a : App) : Type 0 where
  pub app : app_of c ≡ a
  pub globals : (out-Command c).has_globals ≡ false

-- a command whose words are all its own: no program's name, no `help` subcommand
abbrev pub top_app : Text → App
top_app name = let a = new_app name in record a {
  top = record a.top { no_binary_name = true; disable_help_subcommand = true; subcommand_required = true };
}

abbrev pub with_leaf : App → App → App
with_leaf a leaf = with_subcommand a leaf.top

-- an answer, where nothing fails
abbrev pub unless_it_fails : {X : Type 0} → Kinds → Option X → Option X
unless_it_fails [] answer = answer
unless_it_fails (k ∷ ks) answer = None

-- The command that the words name, with its arguments. None where `clap` refuses the words for another cause than memory.
abbrev pub reads : App → List Text → Option (Text × List Row)
reads app texts = unless_it_fails (fault_of app texts) (subcommand_of app texts)
