use Rattle.script_text.proofs.Places.{position-by_first}
use Rattle.script_text.proofs.split.place_of.Goals as goal

pub returns : goal.returns
returns c = position-by_first _ _ _ c.memchr.ensures
