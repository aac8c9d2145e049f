use Rattle.std.proofs.Common.{sym, ◌∙◌}
use Rattle.script_text.proofs.line.call_of_three.Goals as goal

pub returns-then-is_word-4-clause-call : goal.returns-then-is_word-4-clause-call
returns-then-is_word-4-clause-call c =
    rw (
      sym c.is_word.ensures ∙ c.if-is_word.false,
      sym c.is_word-else-is_word.ensures ∙ c.if-is_word-2.false,
      sym c.is_word-else-is_word-2.ensures ∙ c.if-is_word-3.false,
      sym c.is_word-else-is_word-3.ensures ∙ c.if-is_word-4.true,
    )
    c.commit_of.ensures.call

pub returns-then-is_word-5-clause-call : goal.returns-then-is_word-5-clause-call
returns-then-is_word-5-clause-call c =
    rw (
      sym c.is_word.ensures ∙ c.if-is_word.false,
      sym c.is_word-else-is_word.ensures ∙ c.if-is_word-2.false,
      sym c.is_word-else-is_word-2.ensures ∙ c.if-is_word-3.false,
      sym c.is_word-else-is_word-3.ensures ∙ c.if-is_word-4.false,
      sym c.is_word-else-is_word-4.ensures ∙ c.if-is_word-5.true,
    )
    c.send_of.ensures.call

pub returns-then-is_word-6-clause-call : goal.returns-then-is_word-6-clause-call
returns-then-is_word-6-clause-call c =
    rw (
      sym c.is_word.ensures ∙ c.if-is_word.false,
      sym c.is_word-else-is_word.ensures ∙ c.if-is_word-2.false,
      sym c.is_word-else-is_word-2.ensures ∙ c.if-is_word-3.false,
      sym c.is_word-else-is_word-3.ensures ∙ c.if-is_word-4.false,
      sym c.is_word-else-is_word-4.ensures ∙ c.if-is_word-5.false,
      sym c.is_word-else-is_word-5.ensures ∙ c.if-is_word-6.true,
    )
    c.cut_of.ensures.call

pub returns-else-is_word-6-clause-call : goal.returns-else-is_word-6-clause-call
returns-else-is_word-6-clause-call c =
    rw (
      sym c.is_word.ensures ∙ c.if-is_word.false,
      sym c.is_word-else-is_word.ensures ∙ c.if-is_word-2.false,
      sym c.is_word-else-is_word-2.ensures ∙ c.if-is_word-3.false,
      sym c.is_word-else-is_word-3.ensures ∙ c.if-is_word-4.false,
      sym c.is_word-else-is_word-4.ensures ∙ c.if-is_word-5.false,
      sym c.is_word-else-is_word-5.ensures ∙ c.if-is_word-6.false,
    )
