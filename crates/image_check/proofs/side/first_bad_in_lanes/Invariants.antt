use Rattle.std.proofs.Common.{◌≡◌, ◌<◌, ◌≤◌, ℕ, Ok, None}
use Rattle.flash_core.specs.Calls.{Reads}
use Rattle.image_check.specs.Taken.{IsUnderWay, job_at}
use Rattle.image_check.proofs.side.first_bad_in_lanes.Given as goal

-- nothing but reads was done so far, no image is left to begin, and the lanes before this one are free
abbrev pub invariant-loop-j : goal.invariant-loop-j
invariant-loop-j g l =
    Reads {X = Unit {0}} g.D.Flash (Ok tt) l.fn.flash l.flash × IsUnderWay g.D.Flash l.flash l.work × (l.work.images ≡ l.images)
    × (l.work.bad ≤ l.work.next) × ((i : ℕ) → i < l.j → job_at l.work.jobs i ≡ None)
