use Rattle.meta_layout.proofs.Arrays.{push-view}
use Rattle.meta_layout.proofs.lists.Rows.push.Goals as goal
use Rattle.meta_layout.specs.Rows.{unused_row}

pub invariant_of-self : goal.invariant_of-self
invariant_of-self c = push-view 16 unused_row c.self.inside.count c.self.inside.rows c.args.self.now c.self.invariant c.self.view_is c.args.row c.requires
