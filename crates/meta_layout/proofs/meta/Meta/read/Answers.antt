use Rattle.meta_layout.proofs.Fits.{answer-fits}
use Rattle.meta_layout.proofs.meta.Meta.read.Goals as goal

pub returns-clause-fits : goal.returns-clause-fits
returns-clause-fits c = answer-fits c.args.layout.now c.args.block.now c.read_either.result c.read_either.ensures
