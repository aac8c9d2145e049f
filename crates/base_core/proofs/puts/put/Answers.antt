use Rattle.std.proofs.Common.{◌+◌, length, take, ap, ◌∙◌, rules}
use Rattle.base_core.proofs.puts.put.Goals as goal
use Rattle.base_core.proofs.Images.{put_front}

pub returns : goal.returns
returns c = record {
  next_is = search rules;
  front = ap (take (c.args.at + length c.args.bytes.now)) c.put_at.ensures ∙ put_front c.args.at c.args.bytes.now c.args.out.now c.requires;
  size = search rules;
}
