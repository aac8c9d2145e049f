use Rattle.sha256_lanes.proofs.FourLanes.{lane_of_zip_left}
use Rattle.sha256_lanes.proofs.words.xor_three.Goals as goal

pub returns : goal.returns
returns c = lane_of_zip_left _ _ c.args.x c.args.y c.args.z c.fits-x.0 c.fits-y.0 c.fits-z.0
