use Rattle.std.proofs.Common.{List, sym, subst, IsTrue}
use Rattle.std.specs.List.{list_all}
use Rattle.fwu_formats.specs.Layout.{ImageRow, is_row}
use Rattle.fwu_formats.proofs.Written.{rows-fit}
use Rattle.meta_layout.proofs.layout.Layout.blocks.Goals as goal

pub slot_sum-requires-clause-fit : goal.slot_sum-requires-clause-fit
slot_sum-requires-clause-fit c = subst (λ (l : List ImageRow). IsTrue (list_all is_row l)) (sym c.rows.ensures.value) (rows-fit c.args.self.now c.rows.ensures.fit)
