use Rattle.std.proofs.Common.{◌∙◌, sym, ap, Option, Some}
use Rattle.std.specs.Prelude.{option_map}
use Rattle.fwu_model.specs.Call.{Call}
use Rattle.script_text.specs.{Shown.shown, declared.call.Call.Call as Held}
use Rattle.script_text.proofs.Lines.{line_nothing, line_call}
use Rattle.script_text.proofs.line.read_line.Goals as goal

pub returns-then-is_nothing-clause-line : goal.returns-then-is_nothing-clause-line
returns-then-is_nothing-clause-line c = sym (line_nothing c.args.line.now (sym c.is_nothing.ensures ∙ c.if-is_nothing.true))

pub returns-in-Some-clause-line : goal.returns-in-Some-clause-line
returns-in-Some-clause-line c =
    let found = ap (λ (o : Option Held). option_map shown o) (sym c.in-Some.is) ∙ c.in_ok-call.ensures.call in
    ap (λ (o : Option Call). option_map Some o) found ∙ sym (line_call c.args.line.now (sym c.is_nothing.ensures ∙ c.if-is_nothing.false))

pub returns-in-None-clause-line : goal.returns-in-None-clause-line
returns-in-None-clause-line c =
    let found = ap (λ (o : Option Held). option_map shown o) (sym c.in-None.is) ∙ c.in_ok-call.ensures.call in
    ap (λ (o : Option Call). option_map Some o) found ∙ sym (line_call c.args.line.now (sym c.is_nothing.ensures ∙ c.if-is_nothing.false))
