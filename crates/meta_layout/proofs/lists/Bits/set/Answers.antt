use Rattle.std.proofs.Common.{false}
use Rattle.meta_layout.proofs.Arrays.{set-view}
use Rattle.meta_layout.proofs.lists.Bits.set.Goals as goal

pub returns : goal.returns
returns c = set-view 16 false c.self.inside.count c.self.inside.bits c.args.self.now c.self.invariant c.self.view_is c.args.image c.args.bit c.requires
