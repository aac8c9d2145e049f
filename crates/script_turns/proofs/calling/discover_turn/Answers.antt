use Rattle.std.proofs.Common.{◌≡◌, Ok, refl}
use Rattle.fwu_model.specs.Call as call
use Rattle.fwu_model.specs.Reply as reply
use Rattle.agent_calls.specs.declared.telling.Discovery.{Discovery}
use Rattle.script_turns.proofs.{CallTakes.same-device, Called.called, Called.never-gone, Called.turns-by}
use Rattle.script_turns.proofs.calling.discover_turn.Goals as goal

pub returns-in-Ok-clause-turns : goal.returns-in-Ok-clause-turns
returns-in-Ok-clause-turns g c passes =
    let a = c.args.agent.now in
    let live = c.requires.alive in
    let h = c.in-Ok.ensures in
    let here = never-gone (Ok c.in-Ok.discovery) _ _ h.goes.gone live in
    turns-by a a c.answered.result (Ok c.in-Ok.discovery) live h.goes (λ (told : Discovery). reply.Discovered told.state) passes call.Discover c.answered.ensures.turn c.answered.ensures.here refl
    (called (λ (told : Discovery) q. q ≡ reply.Discovered told.state) (λ (told : Discovery). reply.Discovered told.state) (Ok c.in-Ok.discovery) passes call.Discover _ _ refl (λ previous. previous) (λ told. refl) here (λ told is q says. says) (h.meets live passes))
    (λ files. same-device a a _ _ refl)
