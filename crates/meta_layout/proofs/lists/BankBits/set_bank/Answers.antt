use Rattle.std.proofs.Common.{[]}
use Rattle.meta_layout.proofs.Arrays.{set-view}
use Rattle.meta_layout.proofs.lists.BankBits.set_bank.Goals as goal

pub returns : goal.returns
returns c = set-view 4 [] c.self.inside.count c.self.inside.banks c.args.self.now c.self.invariant c.self.view_is c.args.bank c.args.bits c.requires
