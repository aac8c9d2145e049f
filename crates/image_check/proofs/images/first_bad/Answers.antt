use Rattle.std.proofs.Common.{◌+◌, ◌<◌, [], ap, arith, length, subst, sym, ℕ}
use Rattle.sha256_lanes.specs.Holding.{GoesOnAs}
use Rattle.image_check.specs.{Taken.IsBegun, Taken.IsFoundAt, declared.image.Job.Job}
use Rattle.image_check.proofs.{Stays.reads_then, Sums.total_more, UnderWay.begun_new, UnderWay.found_here}
use Rattle.image_check.proofs.Lowest.{found_more, none_found, one_found}
use Rattle.image_check.proofs.images.first_bad.Goals as goal

pub is_good-requires-clause-begun : goal.is_good-requires-clause-begun
is_good-requires-clause-begun g c =
    let images = c.args.images.now in
    let k = c.loop-k.k in
    let holds = GoesOnAs c.message-empty.result in
    let next : k + 1 < length images.rows.now = omega arith in
    let within : k < length images.rows.now = omega arith in
    let step = total_more images.rows.now k c.index-images-k.result within in
    subst (IsBegun g.D.Flash c.loop-k.flash images holds) (sym c.new_job-job.ensures)
    (begun_new g.D.Flash c.loop-k.flash images holds k _ next (omega (arith, step, c.loop-k.invariant.place)) (c.message-empty.ensures [] (c.new.ensures 0 (omega arith))))

pub returns-then-not-branch-clause-bad : goal.returns-then-not-branch-clause-bad
returns-then-not-branch-clause-bad g c =
    let images = c.args.images.now in
    let k = c.loop-k.k in
    let held = c.loop-k.invariant in
    let good = c.in_ok-is_good.field-0 in
    let row = ap (λ (job : Job). job.row) c.new_job-job.ensures in
    let found = subst (λ (r : ℕ). IsFoundAt g.D.Flash c.loop-k.flash images r good) row c.in_ok-is_good.ensures.good in
    let here = found_here g.D.Flash c.loop-k.flash c.args.flash.now (λ tells. sym (held.reads.content tells)) images k good found in
    one_found g.D.Flash c.args.flash.now images k (omega arith) held.all_good (subst (IsFoundAt g.D.Flash c.args.flash.now images k) c.if-not-branch.true here)

pub loop-k-preserved : goal.loop-k-preserved
loop-k-preserved g c =
    let images = c.args.images.now in
    let k = c.loop-k.k in
    let held = c.loop-k.invariant in
    let within : k < length images.rows.now = omega arith in
    let step = total_more images.rows.now k c.index-images-k.result within in
    let good = c.in_ok-is_good.field-0 in
    let row = ap (λ (job : Job). job.row) c.new_job-job.ensures in
    let found = subst (λ (r : ℕ). IsFoundAt g.D.Flash c.loop-k.flash images r good) row c.in_ok-is_good.ensures.good in
    let here = found_here g.D.Flash c.loop-k.flash c.args.flash.now (λ tells. sym (held.reads.content tells)) images k good found in
    record {
      reads = reads_then g.D.Flash _ _ _ _ held.reads c.in_ok-is_good.ensures.reads;
      place = omega (arith, step, held.place);
      all_good = found_more g.D.Flash c.args.flash.now images k held.all_good (subst (IsFoundAt g.D.Flash c.args.flash.now images k) c.if-not-branch.false here);
    }

pub returns-clause-bad : goal.returns-clause-bad
returns-clause-bad g c = none_found g.D.Flash c.args.flash.now c.args.images.now (λ i low. c.loop-k.invariant.all_good i (omega (arith, low)))
