use Rattle.std.proofs.Common.{◌+◌, ◌*◌, ◌≤◌, length, sym, subst, arith}
use Rattle.slot_writer.specs.Slots.{FinishesImage, blocks_for}
use Rattle.slot_writer.proofs.Appending.{finished-by}
use Rattle.slot_writer.proofs.writing.finish.Goals as goal

pub returns-clause-finishes : goal.returns-clause-finishes
returns-clause-finishes g c tells =
    let s = g.D.Flash.told c.args.flash.now in
    let m = g.D.Flash.told c.program_behind.new.flash in
    let fits : 4096 * c.args.first + 4096 * blocks_for c.args.size ≤ length s.now = omega (arith, c.requires.inside, (g.met.D.Flash.sound c.args.flash.now tells).size) in
    subst (FinishesImage c.barrier.result c.args.first c.args.size c.args.rest.now s) (sym (c.barrier.ensures.content tells))
    (finished-by c.args.first c.args.size c.granule_for.result c.args.rest.now c.padded-last.result s m c.granule_for.ensures c.told-rest fits c.padded-last.ensures (c.in_ok-program_behind.ensures.programs tells) c.barrier.result)
