use Rattle.std.proofs.Common.{◌≡◌, ◌-◌, Ok}
use Rattle.flash_core.specs.Calls.{Reads}
use Rattle.image_check.specs.Taken.{IsUnderWay}
use Rattle.image_check.proofs.side.begin_all.Given as goal

-- nothing but reads was done so far, and what no lane has is judged
abbrev pub invariant-loop-work : goal.invariant-loop-work
invariant-loop-work g l = Reads {X = Unit {0}} g.D.Flash (Ok tt) l.fn.flash l.flash × IsUnderWay g.D.Flash l.flash l.work × (l.work.images ≡ l.fn.images)

abbrev pub decreases-loop-work : goal.decreases-loop-work
decreases-loop-work g l = l.work.bad - l.work.next
