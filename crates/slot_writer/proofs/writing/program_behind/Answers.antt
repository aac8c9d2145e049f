use Rattle.std.proofs.Common.{rules, ℕ, ◌+◌, ◌*◌, ◌≤◌, ◌<◌, length, sym, subst, arith, ap}
use Rattle.slot_writer.specs.Slots.{Programs, blocks_for}
use Rattle.slot_writer.proofs.Behind.{range_blank, programs_written}
use Rattle.slot_writer.proofs.writing.program_behind.Goals as goal

-- src/writing.rt:58:5
pub program-requires-clause-blank : goal.program-requires-clause-blank
program-requires-clause-blank g c tells =
    let s = g.D.Flash.told c.args.flash.now in
    let some : 0 < length c.args.bytes.now = search rules in
    let room : 4096 * (c.args.first + blocks_for (c.args.done + length c.args.bytes.now)) ≤ length s.now = omega (arith, c.requires.inside, (g.met.D.Flash.sound c.args.flash.now tells).size) in
    range_blank c.args.first c.args.done _ _ c.args.bytes.now s (g.D.Flash.told c.erase_blocks.new.flash) (ap (λ (n : ℕ). c.args.first + n) c.blocks_for.ensures) (ap (λ (n : ℕ). c.args.first + n) c.blocks_for-2.ensures) some c.in_ok-erase_blocks.field-0 room (c.requires.ahead tells) (c.in_ok-erase_blocks.ensures.erases tells)

-- src/writing.rt:36:1
pub returns-clause-programs : goal.returns-clause-programs
returns-clause-programs g c tells =
    let s = g.D.Flash.told c.args.flash.now in
    let some : 0 < length c.args.bytes.now = search rules in
    let room : 4096 * (c.args.first + blocks_for (c.args.done + length c.args.bytes.now)) ≤ length s.now = omega (arith, c.requires.inside, (g.met.D.Flash.sound c.args.flash.now tells).size) in
    subst (Programs c.program.result c.args.first c.args.done c.args.bytes.now s) (sym (c.program.ensures.content tells))
    (programs_written c.args.first c.args.done _ _ c.args.bytes.now s (g.D.Flash.told c.erase_blocks.new.flash) (ap (λ (n : ℕ). c.args.first + n) c.blocks_for.ensures) (ap (λ (n : ℕ). c.args.first + n) c.blocks_for-2.ensures) some c.in_ok-erase_blocks.field-0 room (c.requires.ahead tells) (c.in_ok-erase_blocks.ensures.erases tells) c.program.result)
