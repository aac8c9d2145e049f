use Rattle.script_text.proofs.Extents.{extent_none}
use Rattle.script_text.proofs.limit.TextLimit.new.Goals as goal

pub returns : goal.returns
returns c = extent_none
