use Rattle.std.proofs.Common.{ℕ, ◌<◌, ◌≤◌}
use Rattle.image_check.specs.Taken.{job_at, left}
use Rattle.image_check.proofs.side.shortest.Given as goal

-- the best of those before
abbrev pub invariant-loop-j : goal.invariant-loop-j
invariant-loop-j l = (l.best < 4) × ((i : ℕ) → i < l.j → left (job_at l.jobs l.best) ≤ left (job_at l.jobs i))
