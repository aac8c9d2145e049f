use Rattle.meta_layout.proofs.Arrays.{push-view}
use Rattle.meta_layout.proofs.lists.States.push.Goals as goal
use Rattle.fwu_formats.specs.declared.kinds.BankState.TheVariants.{Invalid}

pub invariant_of-self : goal.invariant_of-self
invariant_of-self c = push-view 4 Invalid c.self.inside.count c.self.inside.states c.args.self.now c.self.invariant c.self.view_is c.args.state c.requires
