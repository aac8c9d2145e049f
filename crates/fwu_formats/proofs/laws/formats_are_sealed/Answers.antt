use Rattle.fwu_formats.proofs.SealLaws.{formats-are-sealed}
use Rattle.fwu_formats.proofs.laws.formats_are_sealed.Goals as goal

pub returns : goal.returns
returns c = formats-are-sealed
