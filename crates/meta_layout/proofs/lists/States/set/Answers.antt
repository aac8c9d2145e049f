use Rattle.fwu_formats.specs.declared.kinds.BankState.TheVariants.{Invalid}
use Rattle.meta_layout.proofs.Arrays.{set-view}
use Rattle.meta_layout.proofs.lists.States.set.Goals as goal

pub returns : goal.returns
returns c = set-view 4 Invalid c.self.inside.count c.self.inside.states c.args.self.now c.self.invariant c.self.view_is c.args.bank c.args.state c.requires
