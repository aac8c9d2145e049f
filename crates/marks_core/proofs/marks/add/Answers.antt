use Rattle.std.proofs.Common.{◌+◌, ◌*◌, ◌∙◌, ap, sym, subst, arith}
use Rattle.flash_core.specs.Told.{settled}
use Rattle.flash_core.proofs.Touches.{touches_still, touches_wider}
use Rattle.marks_core.specs.Marks.{Adds}
use Rattle.marks_core.proofs.Counting.{granule_range, blank_granule, program_stopped, added}
use Rattle.marks_core.proofs.marks.add.Goals as goal

pub program-requires-clause-blank : goal.program-requires-clause-blank
program-requires-clause-blank g c tells =
    let s = g.D.Flash.told c.args.flash.now in
    let sound = g.met.D.Flash.sound c.args.flash.now tells in
    sym (granule_range c.args.block c.args.at s.now) ∙ blank_granule c.args.block c.args.at s.now (omega (arith, sound.size, c.requires.inside, c.requires.place)) (c.requires.blank tells)

pub returns-in_err-program-clause-adds : goal.returns-in_err-program-clause-adds
returns-in_err-program-clause-adds g c tells =
    let s = g.D.Flash.told c.args.flash.now in
    subst (Adds c.from_residual.result c.args.block c.args.at s) (sym (c.in_err-program.ensures.content tells))
    (program_stopped c.args.block c.args.at _ _ s (g.met.D.Flash.sound c.args.flash.now tells) c.requires.inside c.requires.place c.from_residual.result c.from_residual.ensures.0)

pub returns-clause-adds : goal.returns-clause-adds
returns-clause-adds g c tells =
    let s = g.D.Flash.told c.args.flash.now in
    let content = c.barrier.ensures.content tells ∙ ap (settled c.barrier.result) (c.in_ok-program.ensures.content tells) in
    subst (Adds c.barrier.result c.args.block c.args.at s) (sym content)
    (added c.args.block c.args.at _ _ s (g.met.D.Flash.sound c.args.flash.now tells) c.requires.inside c.requires.place c.barrier.result)

pub returns-in_err-program-clause-touches : goal.returns-in_err-program-clause-touches
returns-in_err-program-clause-touches g c =
    touches_wider (4096 * c.args.block + 16 * c.args.at) (4096 * c.args.block + 16 * c.args.at + 16) (4096 * c.args.block) (4096 * c.args.block + 4096) (omega arith) (omega (arith, c.requires.place)) c.in_err-program.ensures.touches

pub returns-clause-touches : goal.returns-clause-touches
returns-clause-touches g c =
    touches_still (4096 * c.args.block) (4096 * c.args.block + 4096)
    (touches_wider (4096 * c.args.block + 16 * c.args.at) (4096 * c.args.block + 16 * c.args.at + 16) (4096 * c.args.block) (4096 * c.args.block + 4096) (omega arith) (omega (arith, c.requires.place)) c.in_ok-program.ensures.touches)
    c.barrier.ensures.writes
