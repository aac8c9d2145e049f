use Rattle.std.proofs.Common.{◌+◌, length, refl, sym, subst, arith}
use Rattle.script_text.specs.Limit.{Extent, IsExtentOf}
use Rattle.script_text.proofs.Extents.{extent_with_piece}
use Rattle.script_text.proofs.limit.TextLimit.take_whole.Goals as goal

pub returns-clause-taken : goal.returns-clause-taken
returns-clause-taken c text of =
    let before : Extent = record { bytes = c.self.inside.bytes; ends = c.self.inside.ends } in
    let later : Extent = record { bytes = c.self.inside.bytes + length c.args.piece.now; ends = c.self.inside.ends + c.line_ends-ends.result } in
    extent_with_piece before later text c.args.piece.now
    (omega (arith, c.self.invariant.0, c.if-piece-self.false)) (omega (arith, c.self.invariant.1, c.if-ends-self.false, c.line_ends-ends.ensures)) refl (omega (arith, c.line_ends-ends.ensures))
    (subst (λ (e : Extent). IsExtentOf e text) (sym c.self.view_is) of)
