use Rattle.meta_layout.proofs.Arrays.{push-view}
use Rattle.meta_layout.proofs.lists.Bits.push.Goals as goal
use Rattle.std.proofs.Common.{false}

pub invariant_of-self : goal.invariant_of-self
invariant_of-self c = push-view 16 false c.self.inside.count c.self.inside.bits c.args.self.now c.self.invariant c.self.view_is c.args.bit c.requires
