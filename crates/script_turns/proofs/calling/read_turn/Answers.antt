use Rattle.std.proofs.Common.{◌≡◌, ℕ, ◌≤◌, List, ◌++◌, length, take, Result, Ok, Err, refl, ap, ◌∙◌, arith}
use Rattle.std.proofs.lemmas.List.{take_at}
use Rattle.fwu_model.specs.Call as call
use Rattle.fwu_model.specs.Reply as reply
use Rattle.agent_machine.specs.declared.stop.Stop.{Stop}
use Rattle.agent_calls.specs.Shown.{device}
use Rattle.script_turns.specs.Turning.{quiet_turn}
use Rattle.script_turns.proofs.{CallTakes.got, CallTakes.reads-by, CallTakes.same-device, Called.called-read, Called.never-gone, Called.turns-by}
use Rattle.script_turns.proofs.calling.read_turn.Goals as goal

-- what is left of the buffer
front : (count len : ℕ) (items out rest : List ℕ) → items ≡ take count (take len (out ++ rest)) → length out ≡ len → items ≡ take count out
front count len items out rest is long = is ∙ ap (take count) (take_at out rest len long)

pub returns-in-Ok-clause-turns : goal.returns-in-Ok-clause-turns
returns-in-Ok-clause-turns g c passes =
    let a = c.args.agent.now in
    let b = c.read_stream.new.self in
    let live = c.requires.alive in
    let h = c.in-Ok.ensures in
    let result : Result (ℕ × ℕ) Stop = Ok (c.in-Ok.count, c.in-Ok.total) in
    let here = never-gone result _ _ h.goes.gone live in
    let out = c.read_stream.new.out in
    let room = ap length c.as_mut_slice.ensures.value ∙ c.requires.room in
    let fits : c.in-Ok.count ≤ length out = omega (arith, h.room, h.long) in
    turns-by a b c.answered.result result live h.goes (got out) passes (call.Read c.args.handle c.args.room)
    (c.answered.ensures.turn ∙ ap (λ (bytes : List ℕ). quiet_turn (call.Read c.args.handle c.args.room) (reply.Got c.in-Ok.total bytes)) (front c.in-Ok.count c.args.out.len c.truncate.new.self.items out _ c.truncate.ensures.items (h.long ∙ c.as_mut_slice.ensures.len))) c.answered.ensures.here h.records.metadata
    (called-read g.D.Flash.tells result passes c.args.handle c.args.room out _ _ refl here fits (rw room at (h.meets live passes)))
    (λ files. record { writes = h.reads.writes; armed = h.reads.arming; reached = h.reads.reached })

pub returns-in-Err-clause-turns : goal.returns-in-Err-clause-turns
returns-in-Err-clause-turns g c passes =
    let a = c.args.agent.now in
    let b = c.read_stream.new.self in
    let live = c.requires.alive in
    let h = c.in-Err.ensures in
    let result : Result (ℕ × ℕ) Stop = Err c.in-Err.stop in
    let here = never-gone result _ _ h.goes.gone live in
    let out = c.read_stream.new.out in
    let room = ap length c.as_mut_slice.ensures.value ∙ c.requires.room in
    turns-by a b c.refused.result result live h.goes (got out) passes (call.Read c.args.handle c.args.room)
    c.refused.ensures.turn c.refused.ensures.here h.records.metadata
    (called-read g.D.Flash.tells result passes c.args.handle c.args.room out _ _ refl here tt (rw room at (h.meets live passes)))
    (λ files. reads-by result out _ _ h.reads.writes h.reads.arming h.reads.reached (λ is. same-device a b _ _ (ap device (h.refused is))))
