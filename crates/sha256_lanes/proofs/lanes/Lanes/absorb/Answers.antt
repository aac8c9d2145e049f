use Rattle.std.proofs.Common.{List, ℕ, ◌++◌, sym, subst}
use Rattle.sha256_lanes.specs.{Holding.IsOfBlocks, Lanes.lane, Lanes.of_four}
use Rattle.sha256_lanes.proofs.LaneStates.{eight_items}
use Rattle.sha256_lanes.proofs.lanes.Lanes.absorb.Goals as goal

pub returns : goal.returns
returns c = λ j lt m held.
    let whole = m ++ of_four c.args.a.now c.args.b.now c.args.c.now c.args.d.now j in
    let taken = c.absorb_blocks.ensures j lt m (rw c.state-state.ensures held) in
    subst (λ (s : List (List ℕ)). IsOfBlocks (lane j s) whole) (sym (eight_items c.absorb_blocks.new.state c.absorb_blocks.array_long)) taken
