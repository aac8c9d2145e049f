use Rattle.std.proofs.Common.{sym, ◌∙◌}
use Rattle.words_core.proofs.names.guid_named.Goals as goal

pub returns-else-is_word-6 : goal.returns-else-is_word-6
returns-else-is_word-6 c =
    rw (
      sym c.is_word.ensures ∙ c.if-is_word.false,
      sym c.is_word-else-is_word.ensures ∙ c.if-is_word-2.false,
      sym c.is_word-else-is_word-2.ensures ∙ c.if-is_word-3.false,
      sym c.is_word-else-is_word-3.ensures ∙ c.if-is_word-4.false,
      sym c.is_word-else-is_word-4.ensures ∙ c.if-is_word-5.false,
      sym c.is_word-else-is_word-5.ensures ∙ c.if-is_word-6.false,
    )
    c.guid_spelled-else-is_word-6.ensures
