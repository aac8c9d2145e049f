use Rattle.std.proofs.Common.{ap}
use Rattle.sha2.specs.Sha256.{add_state, compress}
use Rattle.sha256_lanes.proofs.one_block.compress.Goals as goal

pub returns : goal.returns
unfolding compress
returns c = ap (add_state c.args.state.now) c.all_rounds-v.ensures
