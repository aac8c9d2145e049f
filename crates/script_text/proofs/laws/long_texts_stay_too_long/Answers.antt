use Rattle.script_text.proofs.Extents.{long-stays-long}
use Rattle.script_text.proofs.laws.long_texts_stay_too_long.Goals as goal

pub returns : goal.returns
returns c = long-stays-long
