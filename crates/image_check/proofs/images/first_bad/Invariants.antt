use Rattle.image_check.proofs.Lowest.{HasPassed}
use Rattle.image_check.proofs.images.first_bad.Given as goal

abbrev pub invariant-loop-k : goal.invariant-loop-k
invariant-loop-k g l = HasPassed g.D.Flash l.fn.flash l.flash l.images l.block l.k
