use Rattle.std.proofs.Common.{◌≤◌, ◌+◌, ◌∙◌, ap, drop, length, arith}
use Rattle.wire_frames.proofs.Fronts.{behind-more, behind-written, length-message, message-written}
use Rattle.wire_frames.proofs.frames.put_message.Goals as goal

pub returns-clause-puts : goal.returns-clause-puts
returns-clause-puts c =
    let size = 8 + length c.args.message.now in
    let room : 8 + length c.args.message.now ≤ length c.put_head.new.out = omega (arith, c.requires.room, c.put_head.auto.out) in
    record {
      size = length-message c.args.number c.args.message.now;
      front = message-written c.args.number c.args.message.now c.put_head.new.out c.put_at.new.image room c.put_head.ensures.front c.put_at.ensures;
      behind =
          ap (drop size) c.put_at.ensures ∙ behind-written 8 c.args.message.now c.put_head.new.out room
          ∙ behind-more 8 size c.put_head.new.out c.args.out.now (omega arith) c.put_head.ensures.behind;
    }
