use Rattle.std.proofs.Common.{◌∙◌, ap, arith, sym}
use Rattle.std.proofs.lemmas.List.{get_or_default}
use Rattle.fip_tables.specs.Packing.{is_nil}
use Rattle.fip_tables.proofs.Firsts.{position-at, position-none}
use Rattle.fip_tables.proofs.outline.first_nil.Goals as goal

pub returns-then-is_nil-clause-value : goal.returns-then-is_nil-clause-value
returns-then-is_nil-clause-value c =
    sym (position-at is_nil c.args.parts.now c.loop-i.i _ c.loop-i-test.true c.loop-i.invariant.some
    (ap is_nil (sym (c.index-parts-i.is ∙ get_or_default c.args.parts.now c.loop-i.i _ _ c.loop-i-test.true)) ∙ sym c.is_nil.ensures.value ∙ c.if-is_nil.true))

pub returns-clause-value : goal.returns-clause-value
returns-clause-value c = sym (position-none is_nil c.args.parts.now _ (λ k lt. c.loop-i.invariant.some k (omega (arith, lt, c.loop-i-test.false))))
