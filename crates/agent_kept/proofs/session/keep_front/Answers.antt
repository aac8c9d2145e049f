use Rattle.agent_kept.proofs.Grown.{front-grown}
use Rattle.agent_kept.proofs.session.keep_front.Goals as goal

pub returns : goal.returns
returns c = front-grown c.args.size c.min-at.result c.min-count.result c.args.bytes.now c.args.front.now c.put_front.new.front c.told-front c.min-at.ensures c.min-count.ensures c.put_front.ensures
