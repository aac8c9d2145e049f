use Rattle.std.proofs.Common.{false}
use Rattle.script_turns.proofs.SendTurns.{sending-whole, sent-by}
use Rattle.script_turns.proofs.sending.send_by.Goals as goal

pub returns-clause-turns : goal.returns-clause-turns
returns-clause-turns g c =
    let agent = c.args.agent.now in
    let sent = c.send-sent in
    let live = c.requires.alive in
    let there = c.requires.payloads.there in
    sent-by false agent sent.new.agent _ _ _ _ c.args.toc.now sent.result _ _ live _ sent.ensures.gone sent.ensures.untouched
    (sent.ensures.goes live) sent.ensures.reads sent.ensures.touches sent.ensures.takes c.requires.table there
    (sending-whole _ _ _ _ sent.result _ _ c.args.toc.now c.requires.table there (rw c.as_str.ensures.value at (sent.ensures.sends live)))
    c.sent_turn.result c.sent_turn.ensures.turn c.sent_turn.ensures.here

pub returns-clause-reads : goal.returns-clause-reads
returns-clause-reads g c = rw c.as_str.ensures.value at c.send-sent.ensures.files
