use Rattle.std.proofs.Common.{[], set, ap, ◌∙◌}
use Rattle.meta_layout.proofs.Arrays.{set-view}
use Rattle.meta_layout.proofs.lists.BankBits.set.Goals as goal

pub returns : goal.returns
returns c =
    set-view 4 [] c.self.inside.count c.self.inside.banks c.args.self.now c.self.invariant c.self.view_is c.args.bank c.set.new.self c.requires.below
    ∙ ap (λ v. set c.args.self.now c.args.bank v) (c.set.ensures ∙ ap (λ r. set r c.args.image c.args.bit) c.get.ensures)
