use Rattle.std.proofs.Common.{◌≡◌, refl}
use Rattle.fwu_model.specs.Call as call
use Rattle.agent_calls.specs.{Shown.fields, Metas.meta_ended}
use Rattle.script_turns.proofs.{CallTakes.refusing, CallTakes.takes-by, Called.meta-by, Called.turns-done}
use Rattle.script_turns.proofs.calling.end_turn.Goals as goal

pub returns-clause-turns : goal.returns-clause-turns
returns-clause-turns g c =
    let a = c.args.agent.now in
    let b = c.end-result.new.self in
    let live = c.requires.alive in
    let h = c.end-result.ensures in
    turns-done a b c.done.result c.end-result.result live h.goes (g.V.Verifier.passes c.args.verifier.now) call.End c.done.ensures.turn c.done.ensures.here
    (meta-by a b _ live h.goes ((fields b).meta ≡ meta_ended (fields a)) h.staging.keeps) refl (λ previous. previous) (λ q same. same) (h.meets live (g.V.Verifier.passes c.args.verifier.now) refl)
    (λ files. takes-by a b files call.End _ h.staging.spent (refusing a b h.refused) (tt, tt, tt))
