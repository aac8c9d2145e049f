use Rattle.std.proofs.Common.{◌≡◌, refl}
use Rattle.fwu_model.specs.Call as call
use Rattle.agent_calls.specs.{Shown.fields, Metas.meta_begun}
use Rattle.script_turns.proofs.{CallTakes.takes-begin, Called.meta-by, Called.turns-done}
use Rattle.script_turns.proofs.calling.begin_turn.Goals as goal

pub returns-clause-turns : goal.returns-clause-turns
returns-clause-turns g c passes =
    let a = c.args.agent.now in
    let b = c.begin-result.new.self in
    let live = c.requires.alive in
    let h = c.begin-result.ensures in
    turns-done a b c.done.result c.begin-result.result live h.goes passes (call.Begin c.args.partial_count) c.done.ensures.turn c.done.ensures.here
    (meta-by a b _ live h.goes ((fields b).meta ≡ meta_begun (fields a)) h.keeps) refl (λ previous. previous) (λ q same. same) (h.meets live passes)
    (λ files. takes-begin a b files c.args.partial_count _ h.keeps h.still h.spent h.refused)
