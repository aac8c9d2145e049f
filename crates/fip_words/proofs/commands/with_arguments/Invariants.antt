use Rattle.std.proofs.Common.{◌≡◌, drop}
use Rattle.clap.specs.{Words.app_of, declared.builder.Command.TheViews.out-Command}
use Rattle.fip_words.specs.Arguments.{with_rules}
use Rattle.fip_words.proofs.commands.with_arguments.Given as goal

-- what was built so far, with the arguments that are left, is the whole
abbrev pub invariant-loop-argument : goal.invariant-loop-argument
invariant-loop-argument l =
    (with_rules (app_of l.command) (drop l.argument-index l.arguments) ≡ with_rules (app_of l.fn.command) l.arguments)
    × ((out-Command l.command).has_globals ≡ (out-Command l.fn.command).has_globals)
