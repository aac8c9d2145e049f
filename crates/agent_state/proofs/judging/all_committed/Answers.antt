use Rattle.std.proofs.Common.{length, sym, ap, ◌∙◌, arith}
use Rattle.agent_kept.specs.{Kept.kept, Judged.is_part_committed}
use Rattle.agent_state.proofs.Judges.{all-committed, one-open}
use Rattle.agent_state.proofs.judging.all_committed.Goals as goal

pub returns-then-not-is_committed : goal.returns-then-not-is_committed
returns-then-not-is_committed c = sym (one-open (kept c.args.session.now) c.loop-image.image (omega (arith, c.loop-image-test.true, ap length c.rows-image-end.ensures.value)) (ap is_part_committed (sym c.part.ensures) ∙ sym c.is_committed.ensures ∙ c.if-not-is_committed.true))

pub returns : goal.returns
returns c = sym (all-committed (kept c.args.session.now) (λ i lt. c.loop-image.invariant i (omega (arith, lt, c.loop-image-test.false, ap length c.rows-image-end.ensures.value))))
