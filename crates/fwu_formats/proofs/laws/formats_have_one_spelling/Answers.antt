use Rattle.fwu_formats.proofs.ManifestSpelled.{one-spelling}
use Rattle.fwu_formats.proofs.laws.formats_have_one_spelling.Goals as goal

pub returns : goal.returns
returns c = one-spelling
