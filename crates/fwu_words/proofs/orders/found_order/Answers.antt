use Rattle.std.proofs.Common.{List, ◌∙◌}
use Rattle.clap.specs.Words.{Row, Text, found_of, rows_of, subcommand_rows_of}
use Rattle.clap.specs.declared.parser.matches.ArgMatches.TheViews.{out-ArgMatches}
use Rattle.fwu_words.specs.Order.{order_of, view}
use Rattle.clap_words.proofs.FoundLemmas.{found, mapped-twice}
use Rattle.fwu_words.proofs.orders.found_order.Goals as goal

pub returns-in-Some : goal.returns-in-Some
returns-in-Some c =
    found view order_of (subcommand_rows_of c.args.found.now) c.in-Some.name.now (rows_of (found_of c.in-Some.below.now)) c.named_order.result
    (c.in-Some.ensures.name ∙ mapped-twice _ (λ (p : Text × List Row). p.0) (out-ArgMatches c.args.found.now).subcommand) c.in-Some.ensures.rows c.named_order.ensures
