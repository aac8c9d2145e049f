use Rattle.std.proofs.Common.{◌≡◌, ℕ, Some, refl}
use Rattle.fwu_formats.specs.Layout.{find_image}
use Rattle.fwu_model.specs.Call as call
use Rattle.agent_calls.specs.{Shown.fields, Metas.meta_accepted}
use Rattle.script_turns.proofs.{CallTakes.takes-accept, Called.meta-by, Called.turns-done}
use Rattle.script_turns.proofs.calling.accept_turn.Goals as goal

pub returns-clause-turns : goal.returns-clause-turns
returns-clause-turns g c passes =
    let a = c.args.agent.now in
    let b = c.accept-result.new.self in
    let live = c.requires.alive in
    let h = c.accept-result.ensures in
    turns-done a b c.done.result c.accept-result.result live h.goes passes (call.Accepts c.args.guid) c.done.ensures.turn c.done.ensures.here
    (meta-by a b _ live h.goes ((image : ℕ) × (find_image (fields a).layout.rows c.args.guid ≡ Some image) × ((fields b).meta ≡ meta_accepted (fields a) image))
    (λ d. let found = h.found d in (found.0, found.1, (h.image found.0 found.1).keeps d))) refl (λ previous. previous) (λ q same. same) (h.meets live passes)
    (λ files. takes-accept a b files c.args.guid _ h.spent h.refused (λ image found is. (h.image image found).still is))
