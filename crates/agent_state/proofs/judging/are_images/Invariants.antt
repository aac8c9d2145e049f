use Rattle.std.proofs.Common.{◌≡◌, ℕ, ◌+◌, ◌<◌, true}
use Rattle.fwu_formats.specs.Manifest.{row_at}
use Rattle.agent_kept.specs.{Kept.kept, Kept.part_at, Judged.is_part_of}
use Rattle.agent_state.proofs.judging.are_images.Given as goal

abbrev pub invariant-loop-image : goal.invariant-loop-image
invariant-loop-image l = (j : ℕ) → j + 1 < l.image → is_part_of (row_at l.manifest j) (part_at (kept l.session) (j + 1)) ≡ true
