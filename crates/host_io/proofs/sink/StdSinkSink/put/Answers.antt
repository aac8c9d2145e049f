use Rattle.std.proofs.Common.{◌∙◌}
use Rattle.host_io.proofs.Pieces.{next_piece}
use Rattle.host_io.proofs.sink.StdSinkSink.put.Goals as goal

pub loop-rest-preserved : goal.loop-rest-preserved
loop-rest-preserved g c =
    let before = c.loop-rest.invariant.0 in
    let taken = c.in_ok-count.ensures in
    (next_piece _ _ _ c.args.bytes.now c.loop-rest.rest.now before.0 c.in_ok-count.count before.1 before.2 taken.bytes, taken.cause.count ∙ c.loop-rest.invariant.1)
