use Rattle.std.proofs.Common.{rules}
use Rattle.script_turns.proofs.Staying.{shows-as}
use Rattle.script_turns.proofs.booting.was_booted.Goals as goal

pub invariant_of-result : goal.invariant_of-result
invariant_of-result g c =
    let here = c.start-agent.ensures.here in
    record { not_gone = λ there. here; shows = λ there. c.showing.ensures.shows here; seen = λ there. c.showing.ensures.seen here }

pub returns-clause-leaves : goal.returns-clause-leaves
returns-clause-leaves g c = record { on = search rules; leaves = search rules; shows = λ test s shown. shows-as _ _ _ _ _ _ (c.start-agent.ensures.shows test s shown); has = search rules; flash_is = search rules }
