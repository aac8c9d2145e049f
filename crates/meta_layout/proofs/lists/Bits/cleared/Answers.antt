use Rattle.std.proofs.Common.{false, refl}
use Rattle.std.proofs.lemmas.List.{drop-replicate}
use Rattle.meta_layout.proofs.{Arrays.length-view, Metas.cleared}
use Rattle.meta_layout.proofs.lists.Bits.cleared.Goals as goal

pub invariant_of-result : goal.invariant_of-result
invariant_of-result c = record { few = c.self.invariant.few; whole = refl; padding = drop-replicate c.self.inside.count 16 false }

pub returns : goal.returns
returns c = cleared c.self.inside.count 16 c.args.self.now c.self.invariant.few (length-view 16 false c.self.inside.count c.self.inside.bits c.args.self.now c.self.invariant c.self.view_is)
