use Rattle.script_text.proofs.Whole.{cuts-are-armable}
use Rattle.script_text.proofs.laws.cuts_are_armable.Goals as goal

pub returns : goal.returns
returns c = cuts-are-armable
