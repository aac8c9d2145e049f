use Rattle.std.proofs.Common.{◌∙◌}
use Rattle.base_core.proofs.Listing.{same-pointwise}
use Rattle.words_core.proofs.names.is_word.Goals as goal

pub returns : goal.returns
returns c = c.eq.ensures ∙ same-pointwise c.args.word.now c.args.text.now
