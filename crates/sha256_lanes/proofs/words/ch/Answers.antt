use Rattle.std.proofs.Common.{◌∙◌, ap}
use Rattle.std.proofs.lemmas.List.{length-map}
use Rattle.std.specs.Prelude.{ℕ, bit_and, bit_xor, slice_index}
use Rattle.std.specs.Int.{w32, bit_not}
use Rattle.sha256_lanes.proofs.FourLanes.{lane_of_map, lane_of_zips}
use Rattle.sha256_lanes.proofs.words.ch.Goals as goal

pub returns : goal.returns
returns c = λ j lt.
    let x = c.args.x in
    let y = c.args.y in
    let z = c.args.z in
    lane_of_zips bit_xor bit_and bit_and x y _ z c.fits-x.0 c.fits-y.0 (length-map x (bit_not w32) ∙ c.fits-x.0) c.fits-z.0 j lt
    ∙ ap (λ (n : ℕ). bit_xor (bit_and (slice_index x j) (slice_index y j)) (bit_and n (slice_index z j))) (lane_of_map (bit_not w32) x c.fits-x.0 j lt)
