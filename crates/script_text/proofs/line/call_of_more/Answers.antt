use Rattle.std.proofs.Common.{List, ℕ, ◌==◌, ◌∷◌, ◌∙◌, sym, ap}
use Rattle.std.specs.List.{slice_split}
use Rattle.fwu_model.specs.Script.{call_of_others}
use Rattle.script_text.proofs.{Parts.some_parts, Lines.five_words}
use Rattle.script_text.proofs.line.call_of_more.Goals as goal

pub returns-in-Some-split-clause-call : goal.returns-in-Some-split-clause-call
returns-in-Some-split-clause-call c =
    let w = c.args.word.now in
    let a = c.args.first.now in
    let b = c.in-Some.second.now in
    let fourth = c.in-Some-split.field-0 in
    let parts = c.in-Some.ensures.parts ∙ ap (λ (l : List (List ℕ)). b ∷ l) c.in-Some-split.ensures.parts in
    sym (ap (λ (l : List (List ℕ)). call_of_others (w ∷ a ∷ l)) parts
    ∙ five_words w a b fourth.0.now (slice_split (λ b. b == 32) fourth.1.now) (some_parts (λ b. b == 32) fourth.1.now))
