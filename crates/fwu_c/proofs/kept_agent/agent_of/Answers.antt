use Rattle.std.proofs.Common.{refl}
use Rattle.fwu_c.proofs.kept_agent.agent_of.Goals as goal

pub returns-in-Ok-clause-begins : goal.returns-in-Ok-clause-begins
returns-in-Ok-clause-begins c =
    let first = rw c.into_inner.ensures at c.start.ensures in
    rw c.in-Ok.ensures.ok (record { from = first.fields; here = first.here; shows = λ s shown. first.shows refl s shown })
