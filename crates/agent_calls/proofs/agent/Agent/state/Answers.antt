use Rattle.std.proofs.Common.{arith}
use Rattle.meta_layout.proofs.Fits.{meta-fits}
use Rattle.agent_calls.proofs.agent.Agent.state.Goals as goal

pub state-requires : goal.state-requires
state-requires g c =
    let a = c.args.self.now in
    let whole = meta-fits a.layout a.meta.meta (a.fitting c.requires).meta in
    omega (arith, whole.active, whole.states, c.active.ensures)
