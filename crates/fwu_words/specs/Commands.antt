-- The command set of `fwu`, as `clap` sees it.
use Rattle.std.specs.Prelude.{Some, codes}
use Rattle.clap.specs.Words.{App, Rule, Text, new_app, new_rule, with_rule}
use Rattle.clap.specs.declared.builder.ArgAction.TheVariants.{SetTrue}
use Rattle.clap_words.specs.Words.{option, top_app, with_leaf, word}

-- an option without a value
abbrev pub flag : Text → Rule
flag id = record (new_rule id) { long = Some id; action = Some SetTrue }

-- run [--gpt], and boot [--gpt]
abbrev pub turns_app : Text → App
turns_app name = with_rule (new_app name) (flag (codes "gpt"))

-- format [--banks N] LAYOUT PACKAGE
abbrev pub format_app : App
format_app = with_rule (with_rule (with_rule (new_app (codes "format")) (option (codes "banks")))
    (word (codes "layout"))) (word (codes "package"))

-- soak SEED N
abbrev pub soak_app : App
soak_app = with_rule (with_rule (new_app (codes "soak")) (word (codes "seed"))) (word (codes "rounds"))

abbrev pub fwu_app : App
fwu_app = with_leaf (with_leaf (with_leaf (with_leaf (with_leaf (with_leaf (top_app (codes "fwu"))
    (turns_app (codes "run"))) (turns_app (codes "boot"))) (new_app (codes "show"))) format_app) soak_app)
    (new_app (codes "serve"))
