use Rattle.std.proofs.Common.{◌+◌, ◌<◌, ◌∙◌, Some, ap, arith, length, slice_index_or, sym}
use Rattle.image_check.specs.{Taken.new_job, declared.image.Images.Images}
use Rattle.image_check.proofs.{Stays.reads_then, UnderWay.begun, UnderWay.block_fits}
use Rattle.image_check.proofs.side.begin_all.Goals as goal

pub overflow_add-work-in-loop-work : goal.overflow_add-work-in-loop-work
overflow_add-work-in-loop-work g c =
    let work = c.free_lane.new.work in
    let step = c.in_ok-j.ensures.step in
    let way = step.under_way in
    let is = step.images ∙ c.loop-work.invariant.2 in
    let any = c.index-images-work.result in
    let count = ap (λ (i : Images). length i.rows.now) step.images in
    let slots = ap (λ (i : Images). (slice_index_or i.rows.now (work.next + 1) any).slots) is in
    let within : work.next + 1 < length work.images.rows.now = omega (arith, step.next, c.loop-work.invariant.1.most, c.loop-work-test.true, count) in
    let fits = block_fits g.D.Flash c.free_lane.new.flash work.images any work.block work.next way.readable within way.begins in
    let most = (g.met.D.Flash.sizes c.free_lane.new.flash).1 in
    omega (arith, fits, slots, most)

pub loop-work-preserved : goal.loop-work-preserved
loop-work-preserved g c =
    let work = c.free_lane.new.work in
    let j = c.in_ok-j.j in
    let e = c.in_ok-j.ensures in
    let step = e.step in
    let way = step.under_way in
    let is = step.images ∙ c.loop-work.invariant.2 in
    let any = c.index-images-work.result in
    let count = ap (λ (i : Images). length i.rows.now) step.images in
    let slots = ap (λ (i : Images). (slice_index_or i.rows.now (work.next + 1) any).slots) is in
    let within : work.next + 1 < length work.images.rows.now = omega (arith, step.next, c.loop-work.invariant.1.most, c.loop-work-test.true, count) in
    let b = c.take.ensures in
    let taken = b.taken ∙ ap Some (c.new_job-job.ensures ∙ ap (λ (i : Images). new_job i work.next work.block) (sym is)) in (
      reads_then g.D.Flash _ _ _ _ c.loop-work.invariant.0 e.reads,
      begun g.D.Flash c.free_lane.new.flash work way j c.restart.new.self c.take.new.jobs _ any e.free.0 e.free.1 within taken b.others c.restart.ensures.begun
          c.restart.ensures.others (omega (arith, slots)),
      is,
    )
