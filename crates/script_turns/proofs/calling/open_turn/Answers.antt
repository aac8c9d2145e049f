use Rattle.std.proofs.Common.{ℕ, Result, Ok, Err, ap, ◌∙◌}
use Rattle.fwu_model.specs.Call.{Call, open_call}
use Rattle.fwu_model.specs.Reply as reply
use Rattle.agent_machine.specs.declared.stop.Stop.{Stop}
use Rattle.agent_calls.specs.Shown.{fields}
use Rattle.script_turns.specs.{Replies.reply_by, Turning.quiet_turn}
use Rattle.script_turns.proofs.CallTakes.{same-device}
use Rattle.script_turns.proofs.Called.{called-open, meta-open, never-gone, shown-open, takes-open, turns-by}
use Rattle.script_turns.proofs.calling.open_turn.Goals as goal

pub returns-in-Ok-clause-turns : goal.returns-in-Ok-clause-turns
returns-in-Ok-clause-turns g c passes =
    let a = c.args.agent.now in
    let b = c.open.new.self in
    let live = c.requires.alive in
    let h = c.in-Ok.ensures in
    let result : Result ℕ Stop = Ok c.in-Ok.handle in
    let guid = c.args.guid in
    let o = c.args.op in
    turns-by a b c.answered.result result live h.goes (λ handle. reply.Opened handle) passes (open_call guid o)
    (c.answered.ensures.turn ∙ ap (λ (x : Call). quiet_turn x (reply_by (λ handle. reply.Opened handle) result)) (shown-open guid o)) c.answered.ensures.here (meta-open guid o (fields a) (fields b).meta h.records.metadata)
    (called-open result passes guid o _ _ (never-gone result _ _ h.goes.gone live) (h.meets live passes))
    (λ files. takes-open files guid o (fields a) _ _ _ (same-device a b _ _ h.still))

pub returns-in-Err-clause-turns : goal.returns-in-Err-clause-turns
returns-in-Err-clause-turns g c passes =
    let a = c.args.agent.now in
    let b = c.open.new.self in
    let live = c.requires.alive in
    let h = c.in-Err.ensures in
    let result : Result ℕ Stop = Err c.in-Err.stop in
    let guid = c.args.guid in
    let o = c.args.op in
    turns-by a b c.refused.result result live h.goes (λ handle. reply.Opened handle) passes (open_call guid o)
    (c.refused.ensures.turn ∙ ap (λ (x : Call). quiet_turn x (reply_by (λ handle. reply.Opened handle) result)) (shown-open guid o)) c.refused.ensures.here (meta-open guid o (fields a) (fields b).meta h.records.metadata)
    (called-open result passes guid o _ _ (never-gone result _ _ h.goes.gone live) (h.meets live passes))
    (λ files. takes-open files guid o (fields a) _ _ _ (same-device a b _ _ h.still))
