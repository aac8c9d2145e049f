use Rattle.std.proofs.Common.{◌+◌, arith}
use Rattle.wire_frames.proofs.Fronts.{head-written, head-behind}
use Rattle.wire_frames.proofs.frames.put_head.Goals as goal

pub returns : goal.returns
returns c = record {
  size = omega arith;
  front = head-written (c.args.size + 4) c.args.number c.args.out.now c.put_le32.new.bytes c.put_le32-2.new.bytes c.requires.room c.put_le32.ensures c.put_le32-2.ensures c.put_le32.auto.bytes;
  behind = head-behind (c.args.size + 4) c.args.number c.args.out.now c.put_le32.new.bytes c.put_le32-2.new.bytes c.requires.room c.put_le32.ensures c.put_le32-2.ensures c.put_le32.auto.bytes;
}
