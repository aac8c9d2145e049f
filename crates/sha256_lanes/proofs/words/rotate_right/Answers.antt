use Rattle.std.proofs.Common.{◌≡◌, ◌∙◌, ◌-◌, ◌%◌, ◌*◌, ◌/◌, ◌^◌, ℕ, ap, ap₂, refl, slice_index, arith}
use Rattle.std.specs.Prelude.{bit_or}
use Rattle.sha256_lanes.proofs.FourLanes.{lane_of_splat, lane_of_zips}
use Rattle.sha256_lanes.proofs.words.rotate_right.Goals as goal

pub returns : goal.returns
returns c = λ j lt.
    let x = slice_index c.args.x j in
    let right : c.args.by ≡ c.args.by % 32 = omega arith in
    let left : 32 - c.args.by ≡ (32 - c.args.by % 32) % 32 = omega arith in
    lane_of_zips _ _ _ c.args.x _ c.args.x _ c.fits-x.0 refl c.fits-x.0 refl j lt
    ∙ ap₂ bit_or (ap (λ (n : ℕ). x / 2 ^ n) (lane_of_splat c.args.by j lt ∙ right))
    (ap (λ (n : ℕ). x * 2 ^ n % 2 ^ 32) (lane_of_splat (32 - c.args.by) j lt ∙ left))
