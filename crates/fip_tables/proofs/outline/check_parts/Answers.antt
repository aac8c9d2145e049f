use Rattle.std.proofs.Common.{arith, rules, sym}
use Rattle.fip_tables.proofs.Firsts.{nil-fault, none-shared, repeat-fault, too-many}
use Rattle.fip_tables.proofs.outline.check_parts.Goals as goal

pub returns-then-parts-gt64-clause-err : goal.returns-then-parts-gt64-clause-err
returns-then-parts-gt64-clause-err c = too-many c.args.parts.now (omega (arith, c.if-parts-gt64.true))

pub returns-in-Some-clause-err : goal.returns-in-Some-clause-err
returns-in-Some-clause-err c = repeat-fault c.args.parts.now (omega (arith, c.if-parts-gt64.false)) c.in-Some.i (sym c.in-Some.ensures.value)

pub returns-in-Some-first_nil-clause-err : goal.returns-in-Some-first_nil-clause-err
returns-in-Some-first_nil-clause-err c = nil-fault c.args.parts.now (omega (arith, c.if-parts-gt64.false)) (sym c.in-None.ensures.value) c.in-Some-first_nil.i (sym c.in-Some-first_nil.ensures.value)

pub returns-clause-ok : goal.returns-clause-ok
returns-clause-ok c = record {
  few = omega (arith, c.if-parts-gt64.false);
  none = none-shared c.args.parts.now (omega (arith, c.if-parts-gt64.false)) (sym c.in-None.ensures.value) (sym c.in-None-first_nil.ensures.value);
  outlines = search rules;
}
