use Rattle.std.proofs.Common.{arith}
use Rattle.fip_vectors.proofs.tables.fed.Goals as goal

pub loop-at-init : goal.loop-at-init
loop-at-init c = (omega arith, c.new-stream.ensures.count)
