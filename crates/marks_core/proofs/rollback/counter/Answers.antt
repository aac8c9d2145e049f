use Rattle.std.proofs.Common.{◌∙◌, ap}
use Rattle.base_core.specs.Block.{block}
use Rattle.marks_core.specs.Marks.{value_in}
use Rattle.marks_core.proofs.Recording.{counter_of}
use Rattle.marks_core.proofs.rollback.counter.Goals as goal

pub returns-clause-counter : goal.returns-clause-counter
returns-clause-counter g c tells =
    let s = g.D.Flash.told c.args.flash.now in
    let same = c.in_ok-marks.ensures.reads.content tells in
    let again = c.in_ok-first.ensures.reads.content tells ∙ same in
    c.greatest.ensures
    ∙ counter_of s.now c.in_ok-marks.marks c.in_ok-first.first c.in_ok-second.second (c.in_ok-marks.ensures.marks tells)
    (c.in_ok-first.ensures.value tells ∙ ap (λ t. value_in (block 5 t.now)) same) (c.in_ok-second.ensures.value tells ∙ ap (λ t. value_in (block 6 t.now)) again)
