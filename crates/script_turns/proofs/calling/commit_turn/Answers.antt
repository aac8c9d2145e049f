use Rattle.std.proofs.Common.{refl}
use Rattle.fwu_model.specs.Call as call
use Rattle.script_turns.proofs.{CallTakes.takes-commit, Called.leaves-by, Called.turns-done}
use Rattle.script_turns.proofs.calling.commit_turn.Goals as goal

pub returns-clause-turns : goal.returns-clause-turns
returns-clause-turns g c passes =
    let a = c.args.agent.now in
    let b = c.commit-result.new.self in
    let live = c.requires.alive in
    let h = c.commit-result.ensures in
    turns-done a b c.done.result c.commit-result.result live h.goes passes (call.Commit c.args.handle c.args.request) c.done.ensures.turn c.done.ensures.here
    h.records.metadata refl (λ previous. previous) (λ q same. same) (h.meets live passes)
    (λ files. takes-commit a b files c.args.handle c.args.request _ (λ image writes. (h.image live image writes).spent) h.still)

pub returns-clause-leaves : goal.returns-clause-leaves
returns-clause-leaves g c = leaves-by _ _ c.done.result _ c.requires.alive c.commit-result.ensures.goes c.done.ensures.here c.done.ensures.short
