use Rattle.std.proofs.Common.{sym, arith}
use Rattle.std.proofs.lemmas.List.{length-take-le}
use Rattle.base_core.specs.Block.{block}
use Rattle.fwu_c.proofs.show.layout_in.Goals as goal

pub slice_bounds-read-end : goal.slice_bounds-read-end
slice_bounds-read-end c = sym (length-take-le 4096 c.args.image.now (omega (arith, c.requires.size, c.requires.fewest)))

pub returns : goal.returns
unfolding block
returns c = c.read.ensures
