use Rattle.std.proofs.Common.{◌-◌}
use Rattle.image_check.proofs.UnderWay.{HasGoneOn}
use Rattle.image_check.proofs.image.is_good.Given as goal

-- the message has taken in what is done of the image
abbrev pub invariant-loop-done : goal.invariant-loop-done
invariant-loop-done g l = HasGoneOn g.D.Flash l.fn.flash l.flash l.message l.job.at l.job.size l.done

abbrev pub decreases-loop-done : goal.decreases-loop-done
decreases-loop-done g l = l.job.size - l.done
