use Rattle.std.proofs.Common.{sym, ◌∙◌, true≢false}
use Rattle.base_core.proofs.Texts.{parsed_at_36, none_from_refusal}
use Rattle.base_core.proofs.guid.Guid.read.Goals as goal

pub returns-in-Err : goal.returns-in-Err
returns-in-Err c =
    none_from_refusal _ (λ u e. true≢false (sym (c.in-Err.ensures.ok.1 (u, parsed_at_36 c.args.text.now c.if-text-ne36.false ∙ e))))
