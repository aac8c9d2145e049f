use Rattle.std.proofs.Common.{◌∙◌, sym, ap, subst, option_and_then, map, string_bytes, List, Option}
use Rattle.clap.specs.Words.{App, Row, Text}
use Rattle.clap_words.specs.{Words.reads, Answers.GivesAsked}
use Rattle.fip_words.specs.Order.{FipAsked, asked, order_of, view}
use Rattle.clap_words.proofs.AnswerLemmas.{error_answers}
use Rattle.fip_words.proofs.order.fip_order.Goals as goal

abbrev asked_by : Option (Text × List Row) → Option FipAsked
asked_by = option_and_then (λ (p : Text × List Row). order_of p.0 p.1)

pub returns-in-Ok-matches : goal.returns-in-Ok-matches
returns-in-Ok-matches c =
    let words = map string_bytes c.args.words.now in
    let is = ap asked_by (c.in-Ok-matches.ensures.ok ∙ ap (λ (a : App). reads a words) c.in-Ok.ensures.app) in
    subst (λ (o : Option FipAsked). GivesAsked view c.found_order.result o) is c.found_order.ensures

pub returns-in-Err-matches : goal.returns-in-Err-matches
returns-in-Err-matches c =
    let words = map string_bytes c.args.words.now in
    error_answers _ view c.in-Err-matches.stop (asked words) (λ e.
    ap asked_by (ap (λ (a : App). reads a words) (sym c.in-Ok.ensures.app) ∙ c.in-Err-matches.ensures.usage e))
