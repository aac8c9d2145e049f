use Rattle.std.proofs.Common.{◌∙◌, ap, map, unwrap_or, [], List, Option, Bor}
use Rattle.std.proofs.lemmas.Result.{IfOk-weaker}
use Rattle.clap.specs.Words.{Text, found_of}
use Rattle.clap.proofs.WalkLemmas.{raw_values-rows}
use Rattle.clap_words.proofs.found.given_all.Goals as goal

pub returns-in-Some : goal.returns-in-Some
returns-in-Some c =
    let rows = ap (λ (o : Option (List Text)). unwrap_or o []) (c.in-Some.ensures ∙ raw_values-rows (found_of c.args.found.now) c.args.id.now) in
    IfOk-weaker c.from_slice.result _ _ (λ v h. ap (map (λ (s : Bor Text). s.now)) h ∙ rows) c.from_slice.ensures.items

pub returns-in-None : goal.returns-in-None
returns-in-None c =
    let rows = ap (λ (o : Option (List Text)). unwrap_or o []) (c.in-None.ensures ∙ raw_values-rows (found_of c.args.found.now) c.args.id.now) in
    ap (map (λ (s : Bor Text). s.now)) c.new.ensures.items ∙ rows
