use Rattle.std.proofs.Common.{◌≡◌, take}
use Rattle.agent_kept.specs.Kept.{kept}
use Rattle.agent_state.specs.Settles.{bits_kept}
use Rattle.agent_state.proofs.settling.committed_bits.Given as goal

-- the bits of the images before this one
abbrev pub invariant-loop-image : goal.invariant-loop-image
invariant-loop-image l = l.bits ≡ take l.image (bits_kept (kept l.session))
