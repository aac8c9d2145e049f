use Rattle.std.proofs.Common.{arith}
use Rattle.meta_layout.proofs.Fits.{meta-fits}
use Rattle.agent_calls.proofs.agent.Agent.target.Goals as goal

pub overflow_add-result : goal.overflow_add-result
overflow_add-result g c =
    let a = c.args.self.now in
    let whole = meta-fits a.layout a.meta.meta (a.fitting c.requires).meta in
    omega (arith, c.active.ensures, c.banks-banks.ensures.high, c.banks-banks.ensures.value, whole.active)
