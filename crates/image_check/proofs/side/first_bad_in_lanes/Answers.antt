use Rattle.std.proofs.Common.{arith, sym}
use Rattle.image_check.proofs.UnderWay.{lowest_none, lowest_some}
use Rattle.image_check.proofs.side.first_bad_in_lanes.Goals as goal

pub returns-then-work-images-clause-bad : goal.returns-then-work-images-clause-bad
returns-then-work-images-clause-bad g c =
    let held = c.loop-j.invariant in
    lowest_some g.D.Flash c.loop-j.flash c.loop-j.work held.1 c.args.flash.now c.args.images.now (λ tells. sym (held.0.content tells)) held.2 held.3
    (λ i lt. held.4 i (omega arith)) (omega arith)

pub returns-else-work-images-clause-bad : goal.returns-else-work-images-clause-bad
returns-else-work-images-clause-bad g c =
    let held = c.loop-j.invariant in
    lowest_none g.D.Flash c.loop-j.flash c.loop-j.work held.1 c.args.flash.now c.args.images.now (λ tells. sym (held.0.content tells)) held.2 held.3
    (λ i lt. held.4 i (omega arith)) (omega arith)
