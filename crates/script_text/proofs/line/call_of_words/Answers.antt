use Rattle.std.proofs.Common.{◌≡◌, Option, ◌==◌, ◌∙◌, sym, subst}
use Rattle.std.specs.Prelude.{IfOk, option_map}
use Rattle.std.specs.List.{slice_split}
use Rattle.fwu_model.specs.Call.{Call}
use Rattle.script_text.specs.Shown.{shown}
use Rattle.script_text.proofs.{Parts.some_parts, Lines.begin_words}
use Rattle.script_text.proofs.line.call_of_words.Goals as goal

pub returns-then-is_word-clause-call : goal.returns-then-is_word-clause-call
returns-then-is_word-clause-call c =
    subst (λ (o : Option Call). IfOk c.begin_of.result (λ found. option_map shown found ≡ o))
    (sym (begin_words c.args.word.now (slice_split (λ b. b == 32) c.args.others.now) (some_parts (λ b. b == 32) c.args.others.now)
    (sym c.is_word.ensures ∙ c.if-is_word.true))) c.begin_of.ensures.call
