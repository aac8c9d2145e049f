use Rattle.std.proofs.Common.{◌≤◌, ◌∙◌, ℕ, List, Option, Some, length, take, drop, ap, subst, arith}
use Rattle.std.proofs.lemmas.List.{length-drop, take_rest}
use Rattle.fwu_model.specs.Call.{Call}
use Rattle.agent_calls.specs.Shown.{agent_at}
use Rattle.fwu_wire.specs.{Calls.shown, Replies.message, Replies.replied, Taken.LeavesBuffer, Taken.RepliesTo, Taken.count_read}
use Rattle.fwu_wire.proofs.{Buffers.over-eight, Buffers.reply-over, Buffers.stops-over, Meeting.goes-told, Meeting.refused-by, Written.behind-eight}
use Rattle.fwu_wire.proofs.server.answer.Goals as goal

pub returns-in-Ok-clause-replies : goal.returns-in-Ok-clause-replies
returns-in-Ok-clause-replies g c live =
    let reply = c.in-Ok.reply in
    let out = c.call_agent.new.out in
    let room : 8 ≤ length c.args.out.now = omega (arith, c.requires.room) in
    subst (λ (asked : Option Call). RepliesTo (g.V.Verifier.passes c.args.verifier.now) asked (take c.put_reply.result c.put_reply.new.out) c.args.called.now c.call_agent.new.agent) c.in-Some.ensures.call (record {
      reply = replied reply out;
      message_is = c.put_reply.ensures.puts.front ∙ ap (λ (bytes : List ℕ). message (replied reply bytes)) (behind-eight c.args.out.now out room);
      answers = (c.in-Ok.ensures.meets live).answers;
      refused = refused-by (agent_at c.args.called.now) (agent_at c.call_agent.new.agent) reply out c.in-Ok.ensures.goes;
      takes = c.in-Ok.ensures.takes live;
    })

pub returns-in-Ok-clause-behind : goal.returns-in-Ok-clause-behind
returns-in-Ok-clause-behind g c =
    let out = c.args.out.now in
    let sub = c.call_agent.new.out in
    let h = c.in-Ok.ensures in
    let part = take_rest out 8 in
    c.put_reply.ensures.puts.behind ∙ reply-over c.in-Ok.reply c.put_reply.result out sub c.requires.room h.fits c.put_reply.ensures.puts.size
    (c.call_agent.auto.out ∙ ap length part ∙ length-drop 8 out) (h.behind ∙ ap (drop (count_read c.in-Ok.reply)) part)

pub returns-in-Err-clause-buffer : goal.returns-in-Err-clause-buffer
returns-in-Err-clause-buffer g c =
    let out = c.args.out.now in
    let sub = c.call_agent.new.out in
    let left = subst (λ (l : List ℕ). LeavesBuffer 0 (Some (shown c.in-Some.call)) c.in-Err.stop l sub) (take_rest out 8) c.in-Err.ensures.buffer in
    subst (λ (asked : Option Call). LeavesBuffer 8 asked c.in-Err.stop out (over-eight out sub)) c.in-Some.ensures.call
    (stops-over 0 (Some (shown c.in-Some.call)) c.in-Err.stop out sub (omega (arith, c.requires.room)) left)

pub returns-in-Ok-clause-goes : goal.returns-in-Ok-clause-goes
returns-in-Ok-clause-goes g c = goes-told (agent_at c.args.called.now) (agent_at c.call_agent.new.agent) c.in-Ok.reply c.in-Ok.ensures.goes
