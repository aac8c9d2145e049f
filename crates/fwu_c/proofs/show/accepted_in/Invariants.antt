use Rattle.std.proofs.Common.{◌≡◌, length, take}
use Rattle.std.specs.Prelude.{false, slice_index_or}
use Rattle.base_core.specs.Bytes.{listed}
use Rattle.fwu_formats.specs.Metadata.{bit_number}
use Rattle.fwu_c.proofs.show.accepted_in.Given as goal

-- the images so far have their bits
abbrev pub invariant-loop-image : goal.invariant-loop-image
invariant-loop-image l =
    (take l.image l.accepted ≡ listed l.image (λ i. bit_number (slice_index_or l.bits i false))) × (length l.accepted ≡ 16)
