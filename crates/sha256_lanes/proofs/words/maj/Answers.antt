use Rattle.std.proofs.Common.{◌∙◌, ap₂}
use Rattle.std.specs.Prelude.{bit_and, bit_xor}
use Rattle.sha256_lanes.proofs.FourLanes.{lane_of_zip, lane_of_zips, length_of_zip}
use Rattle.sha256_lanes.proofs.words.maj.Goals as goal

pub returns : goal.returns
returns c = λ j lt.
    let x = c.args.x in
    let y = c.args.y in
    let z = c.args.z in
    lane_of_zip bit_xor _ _ (length_of_zip bit_xor _ _ (length_of_zip bit_and x y c.fits-x.0 c.fits-y.0) (length_of_zip bit_and x z c.fits-x.0 c.fits-z.0)) (length_of_zip bit_and y z c.fits-y.0 c.fits-z.0) j lt
    ∙ ap₂ bit_xor (lane_of_zips bit_xor bit_and bit_and x y x z c.fits-x.0 c.fits-y.0 c.fits-x.0 c.fits-z.0 j lt) (lane_of_zip bit_and y z c.fits-y.0 c.fits-z.0 j lt)
