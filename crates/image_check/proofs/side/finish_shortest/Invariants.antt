use Rattle.std.proofs.Common.{Ok}
use Rattle.flash_core.specs.Calls.{Reads}
use Rattle.image_check.specs.Taken.{HaveStepped, job_at, left}
use Rattle.image_check.proofs.UnderWay.{IsNextPiece}
use Rattle.image_check.proofs.side.finish_shortest.Given as goal

-- nothing but reads was done so far, and the next piece is that of the lane with the fewest bytes left
abbrev pub invariant-loop-size : goal.invariant-loop-size
invariant-loop-size g l =
    Reads {X = Unit {0}} g.D.Flash (Ok tt) l.fn.flash l.flash × HaveStepped g.D.Flash l.flash l.fn.work l.work × IsNextPiece l.work.jobs l.j l.size

abbrev pub decreases-loop-size : goal.decreases-loop-size
decreases-loop-size g l = left (job_at l.work.jobs l.j)
