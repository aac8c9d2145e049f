use Rattle.std.proofs.Common.{None, arith, refl, slice_set, subst, sym}
use Rattle.sha256_lanes.specs.Holding.{GoesOnAs, HoldsInLane}
use Rattle.image_check.specs.{Taken.HaveStepped, Taken.IsFoundAt, declared.side.Work.Work}
use Rattle.image_check.proofs.UnderWay.{begun_by, settled, stepped_after}
use Rattle.image_check.proofs.side.settle.Goals.{else-job-work-via-then-job-work+in_ok-is_good+else-not-branch, else-job-work-via-else-job-work}
use Rattle.image_check.proofs.side.settle.Goals as goal

pub is_good-requires-clause-begun : goal.is_good-requires-clause-begun
is_good-requires-clause-begun g c =
    let job = c.in-Some.job in
    begun_by g.D.Flash c.args.flash.now c.args.work.now.images (HoldsInLane c.args.j c.args.work.now.lanes) (GoesOnAs c.message-message.result) job
    c.message-message.ensures (c.requires.under_way.lanes_are c.args.j c.requires.lane job c.in-Some.is)

pub returns-then-not-branch-clause-step : goal.returns-then-not-branch-clause-step
returns-then-not-branch-clause-step g c =
    let device = c.args.flash.now in
    let work = c.args.work.now in
    let job = c.in-Some.job in
    let e = c.in_ok-is_good.ensures in
    stepped_after g.D.Flash _ device c.is_good.new.flash e.reads work _
    (settled g.D.Flash device work c.requires.under_way c.args.j job job.row c.in-Some.is (omega (arith, c.if-job-work.true))
    (λ lower. (refl, subst (IsFoundAt g.D.Flash device work.images job.row) c.if-not-branch.true e.good)) (λ less. absurd (omega (arith, less))))

pub returns-else-job-work-clause-step : goal.returns-else-job-work-clause-step
returns-else-job-work-clause-step g c =
    let device = c.args.flash.now in
    let work = c.args.work.now in
    let job = c.in-Some.job in
    let after : Work = record work { jobs = slice_set work.jobs c.args.j None } in
    let judged = settled g.D.Flash device work c.requires.under_way c.args.j job work.bad c.in-Some.is (omega arith) (λ lower. absurd (omega (arith, lower))) in
    elim c.else-job-work.branch [
      | else-job-work-via-then-job-work+in_ok-is_good+else-not-branch w ↦
          let e = w.in_ok-is_good.ensures in
          subst (λ d. HaveStepped g.D.Flash d work after) (sym w.flash-is)
          (stepped_after g.D.Flash _ device _ e.reads work after (judged (λ less. subst (IsFoundAt g.D.Flash device work.images job.row) w.if-not-branch.false e.good)))
      | else-job-work-via-else-job-work w ↦
          subst (λ d. HaveStepped g.D.Flash d work after) (sym w.flash-is) (judged (λ less. absurd (omega (arith, less, w.if-job-work.false))))
    ]
