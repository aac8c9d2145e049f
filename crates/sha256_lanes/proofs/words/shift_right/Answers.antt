use Rattle.std.proofs.Common.{◌∙◌, ◌/◌, ◌^◌, ℕ, ap, refl, slice_index}
use Rattle.sha256_lanes.proofs.FourLanes.{lane_of_splat, lane_of_zip}
use Rattle.sha256_lanes.proofs.words.shift_right.Goals as goal

pub returns : goal.returns
returns c = λ j lt.
    lane_of_zip _ c.args.x _ c.fits-x.0 refl j lt ∙ ap (λ (n : ℕ). slice_index c.args.x j / 2 ^ n) (lane_of_splat c.args.by j lt)
