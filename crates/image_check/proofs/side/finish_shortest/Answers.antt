use Rattle.image_check.proofs.UnderWay.{next_less}
use Rattle.image_check.proofs.side.finish_shortest.Goals as goal

pub loop-size-smaller : goal.loop-size-smaller
loop-size-smaller g c =
    next_less c.loop-size.work.jobs c.take_piece.new.work.jobs c.loop-size.j c.loop-size.size c.shortest-j-in-loop-size.result c.loop-size.invariant.2 c.loop-size-test.true
    c.in_ok-take_piece.ensures.jobs c.shortest-j-in-loop-size.ensures.least
