use Rattle.std.proofs.Common.{refl}
use Rattle.fwu_model.specs.Call as call
use Rattle.script_turns.proofs.{CallTakes.same-device, Called.turns-done}
use Rattle.script_turns.proofs.calling.cancel_turn.Goals as goal

pub returns-clause-turns : goal.returns-clause-turns
returns-clause-turns g c passes =
    let a = c.args.agent.now in
    let b = c.cancel-result.new.self in
    let live = c.requires.alive in
    let h = c.cancel-result.ensures in
    turns-done a b c.done.result c.cancel-result.result live h.goes passes call.Cancel c.done.ensures.turn c.done.ensures.here
    h.records.metadata refl (λ previous. previous) (λ q same. same) (h.meets live passes)
    (λ files. same-device a b _ _ h.still)
