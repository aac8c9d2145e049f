use Rattle.fwu_model.specs.Call as call
use Rattle.script_turns.proofs.{CallTakes.refusing, CallTakes.takes-by, Called.turns-begun}
use Rattle.script_turns.proofs.calling.begin_partial_turn.Goals as goal

pub returns-clause-turns : goal.returns-clause-turns
returns-clause-turns g c passes =
    let a = c.args.agent.now in
    let b = c.begin_partial-result.new.self in
    let live = c.requires.alive in
    let h = c.begin_partial-result.ensures in
    let types = c.args.types.items in
    turns-begun a b c.done.result c.begin_partial-result.result live h.goes passes types c.done.ensures.turn c.done.ensures.here
    (rw c.as_slice.ensures.value at (h.begins live passes))
    (λ files. takes-by a b files (call.BeginPartial types) _ (rw c.as_slice.ensures.value at (h.spent live)) (refusing a b h.refused) (tt, tt, tt))
