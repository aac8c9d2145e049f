use Rattle.fwu_formats.proofs.Read.{layout-fits}
use Rattle.fwu_formats.proofs.laws.read_layouts_fit.Goals as goal

pub returns : goal.returns
returns c = layout-fits
