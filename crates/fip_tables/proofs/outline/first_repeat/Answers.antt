use Rattle.std.proofs.Common.{◌∙◌, arith, sym}
use Rattle.fip_tables.proofs.Firsts.{none-repeats, repeats-at}
use Rattle.fip_tables.proofs.outline.first_repeat.Goals as goal

pub returns-then-repeats-clause-value : goal.returns-then-repeats-clause-value
returns-then-repeats-clause-value c = sym (repeats-at c.args.parts.now c.loop-i.i c.loop-i-test.true c.loop-i.invariant (sym c.repeats.ensures ∙ c.if-repeats.true))

pub returns-clause-value : goal.returns-clause-value
returns-clause-value c = sym (none-repeats c.args.parts.now (λ k lt. c.loop-i.invariant k (omega (arith, lt, c.loop-i-test.false))))
