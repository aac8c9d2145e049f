use Rattle.std.proofs.Common.{◌+◌, ◌*◌, ◌≤◌, ◌∙◌, length, arith}
use Rattle.marks_core.proofs.Fronts.{front_read}
use Rattle.marks_core.proofs.rollback.record_at.Goals as goal

pub returns-clause-value : goal.returns-clause-value
returns-clause-value g c tells =
    let s = g.D.Flash.told c.args.flash.now in
    let room : 4096 * c.args.b + 4096 ≤ length s.now = omega (arith, c.requires.inside, (g.met.D.Flash.sound c.args.flash.now tells).size) in
    c.value_in.ensures ∙ front_read c.args.b (length c.args.front.now) s.now c.read.new.out room c.requires.room (c.in_ok-read.ensures.bytes tells)
