use Rattle.std.proofs.Common.{List, sym, subst, IsTrue}
use Rattle.std.specs.List.{list_all}
use Rattle.fwu_formats.specs.Layout.{ImageRow, is_row}
use Rattle.fwu_formats.proofs.Written.{rows-fit}
use Rattle.meta_layout.proofs.ImageRows.{front-fit}
use Rattle.meta_layout.proofs.layout.Layout.start.Goals as goal

pub slot_sum-total-requires-clause-fit : goal.slot_sum-total-requires-clause-fit
slot_sum-total-requires-clause-fit c = subst (λ (l : List ImageRow). IsTrue (list_all is_row l)) (sym c.rows-rows.ensures.value) (rows-fit c.args.self.now c.rows-rows.ensures.fit)

pub slot_sum-before-requires-clause-fit : goal.slot_sum-before-requires-clause-fit
slot_sum-before-requires-clause-fit c =
    front-fit c.rows-rows.result.now c.args.image (subst (λ (l : List ImageRow). IsTrue (list_all is_row l)) (sym c.rows-rows.ensures.value) (rows-fit c.args.self.now c.rows-rows.ensures.fit))
