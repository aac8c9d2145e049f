use Rattle.std.proofs.Common.{◌≡◌, ◌⊎◌, refl}
use Rattle.fwu_model.specs.Call as call
use Rattle.fwu_model.specs.Reply as reply
use Rattle.agent_calls.specs.{Shown.fields, Metas.meta_back}
use Rattle.script_turns.proofs.CallTakes.{takes-by}
use Rattle.script_turns.proofs.Called.{called-previous, meta-by, meta-either, never-gone, turns-by}
use Rattle.script_turns.proofs.calling.previous_turn.Goals as goal

pub returns-clause-turns : goal.returns-clause-turns
returns-clause-turns g c =
    let a = c.args.agent.now in
    let b = c.previous-result.new.self in
    let live = c.requires.alive in
    let h = c.previous-result.ensures in
    turns-by a b c.done.result c.previous-result.result live h.goes (λ value. reply.Success) (g.V.Verifier.passes c.args.verifier.now) call.Previous c.done.ensures.turn c.done.ensures.here
    (meta-either (meta-by a b _ live h.goes (((fields b).meta ≡ (fields a).meta) ⊎ ((fields b).meta ≡ meta_back (fields a))) h.changes.either))
    (called-previous _ (g.V.Verifier.passes c.args.verifier.now) _ _ (never-gone c.previous-result.result _ _ h.goes.gone live) (h.meets live (g.V.Verifier.passes c.args.verifier.now) refl) h.changes.passed)
    (λ files. takes-by a b files call.Previous _ h.changes.spent (λ r st. (h.changes.arming r, h.changes.writes r)) (tt, tt, tt))
