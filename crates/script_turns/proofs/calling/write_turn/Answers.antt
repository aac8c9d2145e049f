use Rattle.std.proofs.Common.{refl}
use Rattle.fwu_model.specs.Call as call
use Rattle.script_turns.proofs.{CallTakes.takes-write, Called.never-gone, Called.turns-done}
use Rattle.script_turns.proofs.calling.write_turn.Goals as goal

pub returns-clause-turns : goal.returns-clause-turns
returns-clause-turns g c passes =
    let a = c.args.agent.now in
    let b = c.write_stream-result.new.self in
    let live = c.requires.alive in
    let h = c.write_stream-result.ensures in
    turns-done a b c.done.result c.write_stream-result.result live h.goes passes (call.Write c.args.handle c.args.bytes.items) c.done.ensures.turn c.done.ensures.here
    h.records.metadata refl (λ previous. previous) (λ q same. same) (rw c.as_slice.ensures.value at (h.meets live passes))
    (λ files. takes-write a b files c.args.handle c.args.bytes.items _ (never-gone c.write_stream-result.result _ _ h.goes.gone live)
    (λ done image writes. rw c.as_slice.ensures.value at ((h.image image writes).spent done)) h.refused)
